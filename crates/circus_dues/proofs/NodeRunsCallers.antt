-- No two calls and state requests that a trace brings to its member are of one caller, whatever the node made: the pairs hand out a call once.
use Rattle.std.proofs.Common.{◌≡◌, ℕ, ◌≤◌, Bool, true, false, cond, ◌&&◌, List, [], ◌∷◌, ◌++◌, All, Option, None, Some, Result, Ok, Err, refl, sym, ap, subst, ◌∙◌}
use Rattle.std.specs.Prelude.{nat_eq, not, unwrap_or, option_map, option_and_then, if◌then◌else◌, ◌==◌}
use Rattle.std.specs.List.{flat_map}
use Rattle.std.proofs.lemmas.Bool.{and_parts, eqb-true, false≢true}
use Rattle.std.proofs.lemmas.List.Elements.{All-nil, All-push, All-weaker}
use Rattle.circus_value.specs.ValueTree.{ValueTree}
use Rattle.circus_value.specs.declared.caller.Caller.{Caller}
use Rattle.circus_segment.specs.Segment.{Piece, IsSegment, is_acknowledgement, reading}
use Rattle.circus_segment.specs.declared.fault.SegmentFault.{SegmentFault}
use Rattle.circus_exchange.specs.Exchange.{start, takes, arrived_after}
use Rattle.circus_exchange.specs.Inbox.{Arriving, progress_so_far, fits}
use Rattle.circus_exchange.specs.declared.exchange.Exchange.{Exchange}
use Rattle.circus_exchange.specs.declared.progress.Progress.{Progress}
use Rattle.circus_exchange.specs.declared.taken.Arrived.{Arrived}
use Rattle.circus_exchange.specs.declared.taken.Arrived.TheVariants.{Nothing, ArrivedCall, ArrivedReturn}
use Rattle.circus_exchange.proofs.Ties.{equal}
use Rattle.circus_pair.specs.Acts.{Act, Call, Return, Came, Tick, Stop, Acts, end_after, taken_by, AreActs, arrives_by, arrival_by}
use Rattle.circus_pair.specs.Handed.{fits_with}
use Rattle.circus_pair.specs.Lawful.{is_stopped_after}
use Rattle.circus_pair.specs.Sending.{takes_after}
use Rattle.circus_pair.specs.Standing.{arrival_after}
use Rattle.circus_pair.specs.Taken.{total_in, count_in, message_in}
use Rattle.circus_pair.specs.TwoEnds.{with_act}
use Rattle.circus_pair.proofs.Arrivals.{Keeps, told}
use Rattle.circus_pair.proofs.Dialogue.{not_true}
use Rattle.circus_pair.proofs.Handing.{format_stays}
use Rattle.circus_pair.proofs.Standing.{Stands, stands_after, arrival_is}
use Rattle.circus_header.specs.declared.answer.ReturnHeader.{ReturnHeader}
use Rattle.circus_header.specs.declared.answer.ReturnHeader.TheVariants as says
use Rattle.circus_header.specs.declared.call.Call as calls
use Rattle.circus_header.specs.declared.call.Call.TheVariants.{Ask, Ring, Fetch}
use Rattle.circus_header.specs.declared.call.Request.{Request}
use Rattle.circus_collate.specs.declared.deployment.Deployment.{Deployment}
use Rattle.circus_collate.specs.declared.deployment.Troupe.{Troupe}
use Rattle.circus_model.specs.Behaviour.{Behaviour}
use Rattle.circus_model.specs.declared.signature.Signature.{Signature}
use Rattle.circus_record.specs.declared.record.MemberRecord.{MemberRecord}
use Rattle.circus_wire.specs.Wire.{Beginning, hear_arrival, told_return}
use Rattle.circus_wire.specs.WireActs.{WireAct, WireActs, begun, followed_by, CallTo, AnswerTo, CameFrom, TickAll, StopOf, act_at, acts_at, awaits_after, purpose_of}
use Rattle.circus_wire.specs.WireStanding.{pair_of}
use Rattle.circus_wire.specs.declared.delivery.Heard.{Heard}
use Rattle.circus_wire.specs.declared.delivery.Heard.TheVariants.{Dropped, Taken, Called, Returned}
use Rattle.circus_member_rules.specs.declared.occurrence.AskName.{AskName}
use Rattle.circus_member_rules.specs.declared.occurrence.Effect.{Effect}
use Rattle.circus_member_rules.specs.declared.occurrence.Effect.TheVariants as makes
use Rattle.circus_member_rules.specs.declared.occurrence.Occurrence.{Occurrence}
use Rattle.circus_member_rules.specs.declared.occurrence.Occurrence.TheVariants as occurs
use Rattle.circus_member_rules.specs.declared.occurrence.Purpose.{Purpose}
use Rattle.circus_member_rules.specs.declared.occurrence.Purpose.TheVariants as for
use Rattle.circus_node.specs.Accepting.{recorded_ask, reply_by, said_by, may_ask, taken_call, accepted_call, may_tell, taken_table, accepted_table}
use Rattle.circus_node.specs.Bodies.{restored_in}
use Rattle.circus_node.specs.Headers.{call_in, return_in, table_at}
use Rattle.circus_node.specs.Sending.{is_sendable}
use Rattle.circus_node.specs.Trace as trace
use Rattle.circus_node.specs.Trace.{Trace}
use Rattle.circus_node.specs.declared.event.Event.{Event}
use Rattle.circus_node.specs.declared.event.Event.TheVariants as comes
use Rattle.circus_member_theory.specs.Past.{Past}
use Rattle.circus_member_theory.specs.Made.{is_caller, callers, AreDistinct}
use Rattle.circus_world_theory.specs.Happened.{with_one}
use Rattle.circus_world_theory.specs.Histories.{beginning_of}
use Rattle.circus_world_theory.specs.NodeActs.{with_all, acts_of_datagram, came_by}
use Rattle.circus_world_theory.specs.NodeLives.{IsOfBytes}
use Rattle.circus_world_theory.proofs.Timely.Callers.{caller_of}
use Rattle.circus_world_theory.proofs.Timely.Once.{has_call, called_has, returned_has, ticked_has, after_has, arrives_first, reading_within}
use Rattle.circus_headline_theory.specs.NodeRun.{occurrence_by_record, happens_by, past_of}
use Rattle.circus_headline_theory.specs.Trace.{ComesFromOthers, handed_over, acts_in_step, acts_of, heard_in}
use Rattle.circus_headline_theory.proofs.Datagrams.Theorem.{read_segment}

-- ---- a call that arrives at a pair

told_fits : (o : Option ℕ) (c : ℕ → ℕ) (t : ℕ) → (unwrap_or {T = Progress} (told o c) (record { total = t; count = 0 })).total == t ≡ fits_with o t
told_fits None c t = equal t
told_fits (Some x) c t = refl

fits_so : (kind : ℕ) (ts : List Piece) (s : Piece) (box : Arriving) → Keeps kind ts box → fits box s ≡ fits_with (total_in ts kind s.call) s.total
unfolding fits progress_so_far
fits_so kind ts s box keeps =
    ap (λ (o : Option Progress). (unwrap_or {T = Progress} o (record { total = s.total; count = 0 })).total == s.total) (keeps.progress s.call)
    ∙ told_fits (total_in ts kind s.call) (count_in ts kind s.call) s.total

chosen : (a k x y z : Bool) → a ≡ false → k ≡ true → cond a x (cond k y z) ≡ y
chosen false true x y z plain call = refl
chosen false false x y z plain call = absurd (false≢true call)
chosen true k x y z plain call = absurd (false≢true (sym plain))

both_so : (a b : Bool) → a ≡ true → b ≡ true → (a && b) ≡ true
both_so a b one other = (λ j. one j && b) ∙ other

module _ (first format : ℕ) (acts : Acts) (s : Piece) (are : AreActs acts) (segment : IsSegment s) where
  abbrev e : Exchange
  e = end_after (start first format) acts

  abbrev ts : List Piece
  ts = taken_by (start first format) acts

  stands : Stands ts e
  stands = stands_after first format acts are

  -- a segment of a call that is to be taken is taken
  takes_call : is_acknowledgement s ≡ false → nat_eq s.kind 0 ≡ true → takes_after (start first format) acts s ≡ true → takes e s ≡ true
  unfolding takes
  takes_call plain call is =
      let parts = and_parts (nat_eq s.format format) _ is in
      let fit : fits_with (total_in ts s.kind s.call) s.total ≡ true = sym (chosen (is_acknowledgement s) (nat_eq s.kind 0) _ (fits_with (total_in ts s.kind s.call) s.total) _ plain call) ∙ parts.1 in
      let same : fits e.arriving_calls s ≡ fits_with (total_in ts s.kind s.call) s.total = fits_so 0 ts s e.arriving_calls stands.calls ∙ ap (λ k. fits_with (total_in ts k s.call) s.total) (sym (eqb-true s.kind 0 call)) in
      both_so (nat_eq s.format e.format) _ (ap (nat_eq s.format) (format_stays (start first format) acts) ∙ parts.0)
      (chosen (is_acknowledgement s) (nat_eq s.kind 0) _ (fits e.arriving_calls s) _ plain call ∙ same ∙ fit)

  -- so a call that arrives by the acts arrives at the pair as it is
  arrives_so : (n : ℕ) (message : List ℕ) → arrival_after (start first format) acts s ≡ ArrivedCall n message → arrived_after e s ≡ ArrivedCall n message
  arrives_so n message is = by_taken (takes_after (start first format) acts s) refl is
    where
      by_arrival : takes_after (start first format) acts s ≡ true → (t : Bool) → arrives_by ts s ≡ t → (k : Bool) → nat_eq s.kind 0 ≡ k
          → cond t (cond k (ArrivedCall s.call (message_in (s ∷ ts) s.kind s.call s.total)) (ArrivedReturn s.call (message_in (s ∷ ts) s.kind s.call s.total))) Nothing ≡ ArrivedCall n message
          → takes e s ≡ true
      by_arrival taken false none k kind e = absurd (let clash : Nothing ≡ ArrivedCall n message = e in cc)
      by_arrival taken true all false kind e = absurd (let clash : ArrivedReturn s.call (message_in (s ∷ ts) s.kind s.call s.total) ≡ ArrivedCall n message = e in cc)
      by_arrival taken true all true kind e = takes_call (not_true (is_acknowledgement s) (and_parts (not (is_acknowledgement s)) _ all).0) kind taken

      by_taken : (t : Bool) → takes_after (start first format) acts s ≡ t → cond t (arrival_by ts s) Nothing ≡ ArrivedCall n message → arrived_after e s ≡ ArrivedCall n message
      by_taken false taken e = absurd (let clash : Nothing ≡ ArrivedCall n message = e in cc)
      by_taken true taken arrives = arrival_is ts e s stands segment (by_arrival taken (arrives_by ts s) refl (nat_eq s.kind 0) refl arrives) ∙ arrives

-- ---- the pairs of a node

-- what comes is a segment
abbrev IsCome : WireAct Purpose → Type 0
IsCome (CallTo to message purpose) = Unit {0}
IsCome (AnswerTo caller message) = Unit {0}
IsCome (CameFrom from s) = IsSegment s × (s.number ≤ s.total)
IsCome TickAll = Unit {0}
IsCome (StopOf node) = Unit {0}

abbrev AreCome : List (WireAct Purpose) → Type 0
AreCome [] = Unit {0}
AreCome (act ∷ others) = IsCome act × AreCome others

come-append : (some others : List (WireAct Purpose)) → AreCome some → AreCome others → AreCome (some ++ others)
come-append [] others one other = other
come-append (act ∷ some) others one other = (one.0, come-append some others one.1 other)

module _ (b : Beginning) where
  -- the pair with a node, and whether the call of a caller has arrived there
  abbrev pair_then : WireActs Purpose → ℕ → Exchange
  pair_then acts node = end_after (pair_of b) (acts_at (pair_of b) node acts)

  abbrev HaveCome : WireActs Purpose → Type 0
  HaveCome acts = (node : ℕ) → AreActs (acts_at (pair_of b) node acts)

  abbrev has_come : WireActs Purpose → Caller → Bool
  has_come acts c = has_call (pair_then acts c.node) c.number

  -- one act more at a pair
  abbrev IsOne : Act → Type 0
  IsOne (Came s) = IsSegment s × (s.number ≤ s.total)
  IsOne (Call message) = Unit {0}
  IsOne (Return call message) = Unit {0}
  IsOne Tick = Unit {0}
  IsOne Stop = Unit {0}

  abbrev AreOne : Option Act → Type 0
  AreOne None = Unit {0}
  AreOne (Some act) = IsOne act

  with_one_act : (acts : Acts) (o : Option Act) → AreOne o → AreActs acts → AreActs (with_act acts o)
  with_one_act acts None is are = are
  with_one_act acts (Some (Came s)) is are = (are, is.0)
  with_one_act acts (Some (Call message)) is are = (are, tt)
  with_one_act acts (Some (Return call message)) is are = (are, tt)
  with_one_act acts (Some Tick) is are = (are, tt)
  with_one_act acts (Some Stop) is are = (are, tt)

  with_one_has : (acts : Acts) (o : Option Act) → AreOne o → (n : ℕ) → has_call (end_after (pair_of b) acts) n ≡ true → has_call (end_after (pair_of b) (with_act acts o)) n ≡ true
  with_one_has acts None is n has = has
  with_one_has acts (Some (Came s)) is n has = after_has (end_after (pair_of b) acts) s is.1 n has
  with_one_has acts (Some (Call message)) is n has = called_has (end_after (pair_of b) acts) message n has
  with_one_has acts (Some (Return call message)) is n has = returned_has (end_after (pair_of b) acts) call message n has
  with_one_has acts (Some Tick) is n has = ticked_has (end_after (pair_of b) acts) n has
  with_one_has acts (Some Stop) is n has = has

  one_at : (node : ℕ) (here : Acts) (act : WireAct Purpose) → IsCome act → AreOne (act_at (pair_of b) node here act)
  one_at node here (CallTo to message purpose) is = by_test (to == node)
    where
      by_test : (t : Bool) → AreOne (cond t (Some (Call message)) None)
      by_test true = tt
      by_test false = tt
  one_at node here (AnswerTo caller message) is = by_test ((caller.node == node) && awaits_after (pair_of b) here caller.number)
    where
      by_test : (t : Bool) → AreOne (cond t (Some (Return caller.number message)) None)
      by_test true = tt
      by_test false = tt
  one_at node here (CameFrom from s) is = by_test (from == node)
    where
      by_test : (t : Bool) → AreOne (cond t (Some (Came s)) None)
      by_test true = is
      by_test false = tt
  one_at node here TickAll is = by_test (is_stopped_after here)
    where
      by_test : (t : Bool) → AreOne (cond t None (Some Tick))
      by_test true = tt
      by_test false = tt
  one_at node here (StopOf down) is = by_test (down == node)
    where
      by_test : (t : Bool) → AreOne (cond t (Some Stop) None)
      by_test true = tt
      by_test false = tt

  -- acts more at all of them
  come_more : (acts : WireActs Purpose) (others : List (WireAct Purpose)) → AreCome others → HaveCome acts → HaveCome (with_all acts others)
  come_more acts [] are come = come
  come_more acts (act ∷ others) are come =
      come_more (followed_by acts act) others are.1
      (λ node. with_one_act (acts_at (pair_of b) node acts) (act_at (pair_of b) node (acts_at (pair_of b) node acts) act) (one_at node (acts_at (pair_of b) node acts) act are.0) (come node))

  has_more : (acts : WireActs Purpose) (others : List (WireAct Purpose)) → AreCome others → (c : Caller) → has_come acts c ≡ true → has_come (with_all acts others) c ≡ true
  has_more acts [] are c has = has
  has_more acts (act ∷ others) are c has =
      let here = acts_at (pair_of b) c.node acts in
      has_more (followed_by acts act) others are.1 c (with_one_has here (act_at (pair_of b) c.node here act) (one_at c.node here act are.0) c.number has)

  -- what is handed over brings nothing
  handed_come : (acts : WireActs Purpose) (made : List Effect) → AreCome (flat_map (handed_over b acts) made)
  handed_come acts [] = tt
  handed_come acts (effect ∷ made) = come-append (handed_over b acts effect) (flat_map (handed_over b acts) made) (by_effect effect) (handed_come acts made)
    where
      by_effect : (e : Effect) → AreCome (handed_over b acts e)
      by_effect (makes.Call to message purpose) = by_test (not (is_stopped_after (acts_at (pair_of b) to acts)) && is_sendable b.format message)
        where
          by_test : (t : Bool) → AreCome (cond t (CallTo to message purpose ∷ []) [])
          by_test true = (tt, tt)
          by_test false = tt
      by_effect (makes.Answer caller message) = by_test (is_sendable b.format message)
        where
          by_test : (t : Bool) → AreCome (cond t (AnswerTo caller message ∷ []) [])
          by_test true = (tt, tt)
          by_test false = tt

  event_come : (event : Event) → IsOfBytes event → AreCome (came_by event)
  event_come (comes.Datagram from bytes) octets = by_segment (reading bytes) refl
    where
      by_segment : (r : Result Piece SegmentFault) → reading bytes ≡ r → AreCome (acts_of_datagram from r)
      by_segment (Ok s) is = ((read_segment bytes s octets is, reading_within bytes s is), tt)
      by_segment (Err fault) is = tt
  event_come comes.Tick octets = (tt, tt)
  event_come (comes.Down node) octets = (tt, tt)
  event_come comes.Join octets = tt

  -- ---- a call that is heard

  -- it had not come, and has by the segment
  pub record ComesNow (acts : WireActs Purpose) (from : ℕ) (s : Piece) (c : Caller) : Type 0 where
    pub new : has_come acts c ≡ false
    pub there : has_come (followed_by acts (CameFrom from s)) c ≡ true

  heard_now : (acts : WireActs Purpose) → HaveCome acts → (from : ℕ) (s : Piece) → IsSegment s → s.number ≤ s.total → (c : Caller) (message : List ℕ) → heard_in b acts from (Ok s) ≡ Called c message
      → ComesNow acts from s c
  heard_now acts come from s segment within c message is = by_taken (takes_after (pair_of b) here s) is
    where
      here : Acts
      here = acts_at (pair_of b) from acts

      called : (n : ℕ) (m : List ℕ) → arrival_after (pair_of b) here s ≡ ArrivedCall n m → ComesNow acts from s (record { node = from; number = n })
      called n m arrives =
          let f = arrives_first (end_after (pair_of b) here) s within n m (arrives_so b.first b.format here s (come from) segment n m arrives) in
          record {
            new = f.before;
            there = ap (λ t. has_call (end_after (pair_of b) (with_act here (cond t (Some (Came s)) None))) n) (equal from) ∙ f.now;
          }

      by_return : (n : ℕ) (m : List ℕ) (o : Option Purpose) → told_return n m o ≡ Called c message → ComesNow acts from s c
      by_return n m None e = absurd (let clash : ◌≡◌ {A = Heard Purpose} Taken (Called c message) = e in cc)
      by_return n m (Some purpose) e = absurd (let clash : ◌≡◌ {A = Heard Purpose} (Returned n purpose m) (Called c message) = e in cc)

      by_arrival : (a : Arrived) → arrival_after (pair_of b) here s ≡ a → hear_arrival (purpose_of (pair_of b) from acts) from a ≡ Called c message → ComesNow acts from s c
      by_arrival Nothing arrives e = absurd (let clash : ◌≡◌ {A = Heard Purpose} Taken (Called c message) = e in cc)
      by_arrival (ArrivedCall n m) arrives e =
          let same : ◌≡◌ {A = Caller} (record { node = from; number = n }) c = cc in
          subst (ComesNow acts from s) same (called n m arrives)
      by_arrival (ArrivedReturn n m) arrives e = by_return n m (purpose_of (pair_of b) from acts n) e

      by_taken : (t : Bool) → cond t (hear_arrival (purpose_of (pair_of b) from acts) from (arrival_after (pair_of b) here s)) Dropped ≡ Called c message → ComesNow acts from s c
      by_taken true e = by_arrival (arrival_after (pair_of b) here s) refl e
      by_taken false e = absurd (let clash : ◌≡◌ {A = Heard Purpose} Dropped (Called c message) = e in cc)

-- ---- what is accepted of it

-- what is accepted, if anything is, is a call of this caller, or none
abbrev IsOf : Option Caller → Option Occurrence → Type 0
IsOf c None = Unit {0}
IsOf c (Some o) = caller_of o ≡ c

and_then_of : {A : Type 0} (c : Option Caller) (f : A → Option Occurrence) (o : Option A) → ((a : A) → IsOf c (f a)) → IsOf c (option_and_then f o)
and_then_of c f None each = tt
and_then_of c f (Some a) each = each a

mapped_of : {A : Type 0} (c : Option Caller) (f : A → Occurrence) (o : Option A) → ((a : A) → caller_of (f a) ≡ c) → IsOf c (option_map f o)
mapped_of c f None each = tt
mapped_of c f (Some a) each = each a

if_of : (c : Option Caller) (b : Bool) (o : Occurrence) → caller_of o ≡ c → IsOf c (if b then Some o else None)
if_of c true o is = is
if_of c false o is = tt

module _ (d : Deployment) (declared : Signature) (own : ℕ) (kept : MemberRecord) (from : ℕ) where
  call_of : (sender : Caller) (message : List ℕ) → IsOf (Some sender) (accepted_call d declared own sender message)
  call_of sender message = and_then_of (Some sender) _ (call_in message) (λ read. by_call read.0 _)
    where
      by_call : (call : calls.Call) (body : List ℕ) → IsOf (Some sender) (taken_call d declared own sender call body)
      by_call (Ask h) body = if_of (Some sender) (may_ask d declared own sender.node h body) (occurs.Asked h body sender) refl
      by_call (Ring request) body = tt
      by_call (Fetch troupe incarnation) body = if_of (Some sender) (troupe == own) (occurs.Fetched incarnation sender) refl

  answer_of : (name : AskName) (server : ℕ) (message : List ℕ) → IsOf None (option_and_then (λ (read : ReturnHeader × ℕ). said_by d declared (recorded_ask kept name) name server from read.0 read.1 message) (return_in message))
  answer_of name server message = and_then_of None _ (return_in message) (λ read. by_header read.0 read.1)
    where
      by_header : (h : ReturnHeader) (at : ℕ) → IsOf None (said_by d declared (recorded_ask kept name) name server from h at message)
      by_header (says.Reply clock) at = mapped_of None (λ reply. occurs.Replied name from reply) (reply_by d declared (recorded_ask kept name) clock at message) (λ reply. refl)
      by_header (says.Stale incarnation) at = refl
      by_header (says.Before first) at = refl
      by_header (says.Snapshot count) at = tt
      by_header says.Table at = tt

  table_of : (request : Request) (message : List ℕ) → IsOf None (accepted_table d request message)
  table_of request message = and_then_of None _ (return_in message) (λ read. by_header read.0 read.1)
    where
      by_header : (h : ReturnHeader) (at : ℕ) → IsOf None (taken_table d request h at message)
      by_header (says.Reply clock) at = tt
      by_header (says.Stale incarnation) at = tt
      by_header (says.Before first) at = tt
      by_header (says.Snapshot count) at = tt
      by_header says.Table at = and_then_of None _ (table_at at message) (λ table. if_of None (may_tell d request table) (occurs.Told request table) refl)

  -- the call of a caller is accepted where that is heard
  heard_of : (c : Caller) (o : Occurrence) (h : Heard Purpose) → occurrence_by_record d declared own kept from h ≡ Some o → caller_of o ≡ Some c → (message : List ℕ) × (h ≡ Called c message)
  heard_of c o h is by = by_heard h is
    where
      none_is : {X : Type 0} → caller_of o ≡ None → X
      none_is none = absurd (let clash : ◌≡◌ {A = Option Caller} None (Some c) = sym none ∙ by in cc)

      by_heard : (x : Heard Purpose) → occurrence_by_record d declared own kept from x ≡ Some o → (message : List ℕ) × (x ≡ Called c message)
      by_heard Dropped e = absurd (let clash : ◌≡◌ {A = Option Occurrence} None (Some o) = e in cc)
      by_heard Taken e = absurd (let clash : ◌≡◌ {A = Option Occurrence} None (Some o) = e in cc)
      by_heard (Called sender message) e =
          let of = subst (IsOf (Some sender)) e (call_of sender message) in
          let both : Some sender ≡ Some c = sym of ∙ by in
          let same : sender ≡ c = cc in
          (message, ap (λ x. Called x message) same)
      by_heard (Returned number (for.Ask name server) message) e = none_is (subst (IsOf None) e (answer_of name server message))
      by_heard (Returned number (for.Ring request) message) e = none_is (subst (IsOf None) e (table_of request message))
      by_heard (Returned number for.Fetch message) e =
          none_is (subst (IsOf None) e (mapped_of None (λ (r : List ValueTree × ℕ). occurs.Restored r.0 r.1) (restored_in declared.variables declared.limit message) (λ r. refl)))

-- ---- callers of a past

-- no two are the same, and the call of each has come
record AreCallers (come : Caller → Bool) (p : Past) : Type 0 where
  pub come_so : All (λ (c : Caller). come c ≡ true) (callers p)
  pub distinct : AreDistinct p

-- who has come isn't one that has not
differs : (come : Caller → Bool) (c : Caller) → come c ≡ false → (other : Caller) → come other ≡ true → is_caller other c ≡ false
differs come c new other old = by_test (is_caller other c) refl
  where
    by_test : (t : Bool) → is_caller other c ≡ t → t ≡ false
    by_test false is = refl
    by_test true is =
        let parts = and_parts (nat_eq other.node c.node) (nat_eq other.number c.number) is in
        let node : other.node ≡ c.node = eqb-true other.node c.node parts.0 in
        let number : other.number ≡ c.number = eqb-true other.number c.number parts.1 in
        let same : other ≡ c = λ j. record { node = node j; number = number j } in
        absurd (false≢true (sym new ∙ subst (λ x. come x ≡ true) same old))

module _ (before later : Caller → Bool) (keeps : (c : Caller) → before c ≡ true → later c ≡ true) (p : Past) (h : AreCallers before p) where
  callers_keep : AreCallers later p
  callers_keep = record { come_so = All-weaker (λ (c : Caller). before c ≡ true) (λ (c : Caller). later c ≡ true) keeps (callers p) h.come_so; distinct = h.distinct }

  -- what comes is a call of one that has just come, or none
  abbrev IsOfNew : Option Occurrence → Type 0
  IsOfNew None = Unit {0}
  IsOfNew (Some o) = (c : Caller) → caller_of o ≡ Some c → (before c ≡ false) × (later c ≡ true)

  callers_more : (step : ℕ) (o : Option Occurrence) → IsOfNew o → AreCallers later (with_one p step o)
  callers_more step None new = callers_keep
  callers_more step (Some (occurs.Asked header body sender)) new =
      let is = new sender refl in
      record {
        come_so = All-push (λ (c : Caller). later c ≡ true) (callers p) sender callers_keep.come_so is.1;
        distinct = (h.distinct, All-weaker (λ (c : Caller). before c ≡ true) (λ (c : Caller). is_caller c sender ≡ false) (differs before sender is.0) (callers p) h.come_so);
      }
  callers_more step (Some (occurs.Fetched incarnation sender)) new =
      let is = new sender refl in
      record {
        come_so = All-push (λ (c : Caller). later c ≡ true) (callers p) sender callers_keep.come_so is.1;
        distinct = (h.distinct, All-weaker (λ (c : Caller). before c ≡ true) (λ (c : Caller). is_caller c sender ≡ false) (differs before sender is.0) (callers p) h.come_so);
      }
  callers_more step (Some (occurs.Replied name from reply)) new = record { come_so = callers_keep.come_so; distinct = h.distinct }
  callers_more step (Some (occurs.IsStale name server from incarnation)) new = record { come_so = callers_keep.come_so; distinct = h.distinct }
  callers_more step (Some (occurs.IsBefore name from)) new = record { come_so = callers_keep.come_so; distinct = h.distinct }
  callers_more step (Some (occurs.Told request table)) new = record { come_so = callers_keep.come_so; distinct = h.distinct }
  callers_more step (Some (occurs.Restored state count)) new = record { come_so = callers_keep.come_so; distinct = h.distinct }
  callers_more step (Some (occurs.Declared node)) new = record { come_so = callers_keep.come_so; distinct = h.distinct }
  callers_more step (Some occurs.Joins) new = record { come_so = callers_keep.come_so; distinct = h.distinct }

-- ---- along a trace

module _ (d : Deployment) (b : Behaviour) (node number : ℕ) (troupe : Troupe) (kept : MemberRecord) where
  abbrev pairs : Beginning
  pairs = beginning_of d node

  abbrev acts_behind : Trace → WireActs Purpose
  acts_behind t = acts_of pairs t

  abbrev acts_then : WireActs Purpose → Event → List Effect → List (WireAct Purpose)
  acts_then acts event made = acts_in_step pairs acts (came_by event) made

  -- a call that comes is of one that comes by its event
  abbrev IsNewBy : WireActs Purpose → WireActs Purpose → Option Occurrence → Type 0
  IsNewBy acts later None = Unit {0}
  IsNewBy acts later (Some o) = (c : Caller) → caller_of o ≡ Some c → (has_come pairs acts c ≡ false) × (has_come pairs later c ≡ true)

  none_new : (acts later : WireActs Purpose) (o : Occurrence) → caller_of o ≡ None → IsNewBy acts later (Some o)
  none_new acts later o none = λ c is. absurd (let clash : ◌≡◌ {A = Option Caller} None (Some c) = sym none ∙ is in cc)

  new_by : (acts : WireActs Purpose) → HaveCome pairs acts → (made : List Effect) (event : Event) → IsOfBytes event
      → IsNewBy acts (with_all acts (acts_then acts event made)) (happens_by d b.declared node number kept acts event)
  new_by acts come made (comes.Datagram from bytes) octets = by_segment (reading bytes) refl
    where
      by_segment : (r : Result Piece SegmentFault) → reading bytes ≡ r
          → IsNewBy acts (with_all acts (acts_in_step pairs acts (acts_of_datagram from r) made)) (occurrence_by_record d b.declared number kept from (heard_in pairs acts from r))
      by_segment (Err fault) is = tt
      by_segment (Ok s) is = by_heard (occurrence_by_record d b.declared number kept from (heard_in pairs acts from (Ok s))) refl
        where
          by_heard : (o : Option Occurrence) → occurrence_by_record d b.declared number kept from (heard_in pairs acts from (Ok s)) ≡ o
              → IsNewBy acts (with_all acts (acts_in_step pairs acts (CameFrom from s ∷ []) made)) o
          by_heard None there = tt
          by_heard (Some o) there = λ c by. (
              let h = heard_of d b.declared number kept from c o (heard_in pairs acts from (Ok s)) there by in
              let n = heard_now pairs acts come from s (read_segment bytes s octets is) (reading_within bytes s is) c h.0 h.1 in
              let behind = followed_by acts (CameFrom from s) in
              (n.new, has_more pairs behind (flat_map (handed_over pairs behind) made) (handed_come pairs behind made) c n.there))
  new_by acts come made comes.Tick octets = tt
  new_by acts come made (comes.Down other) octets = none_new acts (with_all acts (acts_then acts (comes.Down other) made)) (occurs.Declared other) refl
  new_by acts come made comes.Join octets = none_new acts (with_all acts (acts_then acts comes.Join made)) occurs.Joins refl

  record SoFar (t : Trace) : Type 0 where
    pub come : HaveCome pairs (acts_behind t)
    pub are : AreCallers (has_come pairs (acts_behind t)) (past_of d b node number troupe kept t)

  so_far : (t : Trace) → ComesFromOthers d node t → SoFar t
  so_far (trace.booted made outputs) others =
      record {
        come = come_more pairs begun (flat_map (handed_over pairs begun) made) (handed_come pairs begun made) (λ other. tt);
        are = record { come_so = All-nil (λ (c : Caller). has_come pairs (acts_behind (trace.booted made outputs)) c ≡ true); distinct = tt };
      }
  so_far (trace.stepped t at event made outputs) others =
      let acts = acts_behind t in
      let before = so_far t others.0 in
      let come = come-append (came_by event) (flat_map (handed_over pairs (with_all acts (came_by event))) made) (event_come pairs event others.2) (handed_come pairs (with_all acts (came_by event)) made) in
      record {
        come = come_more pairs acts (acts_then acts event made) come before.come;
        are = by_one (happens_by d b.declared node number kept acts event) before.are (has_more pairs acts (acts_then acts event made) come) (new_by acts before.come made event others.2);
      }
    where
      by_one : (o : Option Occurrence) → AreCallers (has_come pairs (acts_behind t)) (past_of d b node number troupe kept t)
          → ((c : Caller) → has_come pairs (acts_behind t) c ≡ true → has_come pairs (with_all (acts_behind t) (acts_then (acts_behind t) event made)) c ≡ true)
          → IsNewBy (acts_behind t) (with_all (acts_behind t) (acts_then (acts_behind t) event made)) o
          → AreCallers (has_come pairs (with_all (acts_behind t) (acts_then (acts_behind t) event made))) (with_one (past_of d b node number troupe kept t) at o)
      by_one None are keeps new =
          callers_more (has_come pairs (acts_behind t)) (has_come pairs (with_all (acts_behind t) (acts_then (acts_behind t) event made))) keeps (past_of d b node number troupe kept t) are at None tt
      by_one (Some o) are keeps new =
          callers_more (has_come pairs (acts_behind t)) (has_come pairs (with_all (acts_behind t) (acts_then (acts_behind t) event made))) keeps (past_of d b node number troupe kept t) are at (Some o) new

  pub calls_are_distinct : (t : Trace) → ComesFromOthers d node t → AreDistinct (past_of d b node number troupe kept t)
  calls_are_distinct t others = (so_far t others).are.distinct
