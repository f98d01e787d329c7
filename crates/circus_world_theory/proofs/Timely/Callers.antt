-- No caller of a call that comes to a node has made an earlier one that came.
use Rattle.std.proofs.Common.{◌≡◌, ℕ, zero, suc, Bool, true, false, cond, ◌&&◌, List, [], ◌∷◌, ◌++◌, map, All, Option, None, Some, Result, Ok, Err, refl, sym, ap, subst, ◌∙◌}
use Rattle.std.specs.Prelude.{slice_get, nat_eq, option_map, option_and_then, if◌then◌else◌, ◌==◌}
use Rattle.std.specs.FinMap.{get}
use Rattle.std.proofs.lemmas.Bool.{and_parts, eqb-true, false≢true}
use Rattle.std.proofs.lemmas.List.Elements.{All-nil, All-push, All-weaker}
use Rattle.circus_value.specs.ValueTree.{ValueTree}
use Rattle.circus_value.specs.declared.caller.Caller.{Caller}
use Rattle.circus_segment.specs.Segment.{Piece, reading}
use Rattle.circus_segment.specs.declared.fault.SegmentFault.{SegmentFault}
use Rattle.circus_collate.specs.declared.deployment.Deployment.{Deployment}
use Rattle.circus_exchange.specs.Limits.{never_used}
use Rattle.circus_exchange.specs.Exchange.{takes, arrived_after, count_tick}
use Rattle.circus_exchange.specs.declared.taken.Arrived.{Arrived}
use Rattle.circus_exchange.specs.declared.taken.Arrived.TheVariants.{Nothing, ArrivedCall, ArrivedReturn}
use Rattle.circus_header.specs.declared.answer.ReturnHeader.{ReturnHeader}
use Rattle.circus_header.specs.declared.answer.ReturnHeader.TheVariants as says
use Rattle.circus_header.specs.declared.call.Call.{Call}
use Rattle.circus_header.specs.declared.call.Call.TheVariants.{Ask, Ring, Fetch}
use Rattle.circus_header.specs.declared.call.Request.{Request}
use Rattle.circus_model.specs.declared.signature.Signature.{Signature}
use Rattle.circus_wire.specs.declared.delivery.Heard.{Heard}
use Rattle.circus_wire.specs.declared.delivery.Heard.TheVariants.{Dropped, Taken, Called, Returned}
use Rattle.circus_wire.specs.Wire.{WireState, PeerState, peer_called, peer_answered, peer_heard, peer_ticked, peer_stopped, hear_arrival, told_return, heard_by, place_of, changed_at, of_peer, peer_at, change_peer, is_up, is_awaited, next_number, called_to, sent_by_call, sent_by_answer, after_datagram, heard_from, all_ticked, stopped_at}
use Rattle.circus_wire.proofs.Places.{get_changed}
use Rattle.circus_member_rules.specs.declared.occurrence.AskName.{AskName}
use Rattle.circus_member_rules.specs.declared.occurrence.Occurrence.{Occurrence}
use Rattle.circus_member_rules.specs.declared.occurrence.Occurrence.TheVariants as occurs
use Rattle.circus_member_rules.specs.declared.occurrence.Purpose.{Purpose}
use Rattle.circus_member_rules.specs.declared.occurrence.Purpose.TheVariants as for
use Rattle.circus_member_rules.specs.declared.occurrence.Effect.{Effect}
use Rattle.circus_member_rules.specs.declared.occurrence.Effect.TheVariants as made
use Rattle.circus_member_rules.specs.MemberState.{MemberState}
use Rattle.circus_node.specs.Bodies.{restored_in}
use Rattle.circus_node.specs.Headers.{call_in, return_in, table_at}
use Rattle.circus_node.specs.Accepting.{may_ask, taken_call, accepted_call, taken_reply, taken_answer, accepted_answer, may_tell, taken_table, accepted_table, occurrence_of_heard}
use Rattle.circus_node.specs.declared.event.Give.{Give}
use Rattle.circus_node.specs.Sending.{Sending, sent, spent, gives_of, is_sendable, hand_over, next_handed, all_handed}
use Rattle.circus_member_theory.specs.Past.{Past, booted, followed}
use Rattle.circus_member_theory.specs.Made.{is_caller, callers, AreDistinct}
use Rattle.circus_world_theory.proofs.Timely.Once.{reading_within, has_call, called_has, returned_has, ticked_has, after_has, arrives_first}

-- ---- the pairs of a node

-- the call of this caller has arrived whole
abbrev pub has_come : WireState Purpose → Caller → Bool
has_come w c = of_peer false (λ p. has_call p.exchange c.number) (peer_at w c.node)

-- those that have come have come still
abbrev pub Keeps : WireState Purpose → WireState Purpose → Type 0
Keeps w v = (c : Caller) → has_come w c ≡ true → has_come v c ≡ true

module _ (f : PeerState Purpose → PeerState Purpose) (keeps : (p : PeerState Purpose) (n : ℕ) → has_call p.exchange n ≡ true → has_call (f p).exchange n ≡ true) where
  at_place : (xs : List (PeerState Purpose)) (i j n : ℕ) → of_peer false (λ p. has_call p.exchange n) (slice_get xs j) ≡ true
      → of_peer false (λ p. has_call p.exchange n) (slice_get (changed_at f xs i) j) ≡ true
  unfolding changed_at
  at_place [] i j n is = is
  at_place (x ∷ xs) zero zero n is = keeps x n is
  at_place (x ∷ xs) zero (suc j) n is = is
  at_place (x ∷ xs) (suc i) zero n is = is
  at_place (x ∷ xs) (suc i) (suc j) n is = at_place xs i j n is

  changed_keeps : (w : WireState Purpose) (node : ℕ) → Keeps w (change_peer f w node)
  unfolding peer_at
  changed_keeps w node c is = by_own (c.node == w.own) is
    where
      by_own : (b : Bool) → of_peer false (λ p. has_call p.exchange c.number) (cond b None (slice_get w.peers (place_of w.own c.node))) ≡ true
          → of_peer false (λ p. has_call p.exchange c.number) (cond b None (slice_get (changed_at f w.peers (place_of w.own node)) (place_of w.own c.node))) ≡ true
      by_own true e = e
      by_own false e = at_place w.peers (place_of w.own node) (place_of w.own c.node) c.number e

  at_each : (xs : List (PeerState Purpose)) (j n : ℕ) → of_peer false (λ p. has_call p.exchange n) (slice_get xs j) ≡ true → of_peer false (λ p. has_call p.exchange n) (slice_get (map f xs) j) ≡ true
  at_each [] j n is = is
  at_each (x ∷ xs) zero n is = keeps x n is
  at_each (x ∷ xs) (suc j) n is = at_each xs j n is

  mapped_keeps : (w : WireState Purpose) → let v : WireState Purpose = record w { peers = map f w.peers } in Keeps w v
  unfolding peer_at
  mapped_keeps w c is = by_own (c.node == w.own) is
    where
      by_own : (b : Bool) → of_peer false (λ p. has_call p.exchange c.number) (cond b None (slice_get w.peers (place_of w.own c.node))) ≡ true
          → of_peer false (λ p. has_call p.exchange c.number) (cond b None (slice_get (map f w.peers) (place_of w.own c.node))) ≡ true
      by_own true e = e
      by_own false e = at_each w.peers (place_of w.own c.node) c.number e

ticked_peer : (p : PeerState Purpose) (n : ℕ) → has_call p.exchange n ≡ true → has_call (peer_ticked p).exchange n ≡ true
ticked_peer p n is = by_test p.exchange.stopped
  where
    by_test : (b : Bool) → let q : PeerState Purpose = if b then p else record p { exchange = count_tick p.exchange } in has_call q.exchange n ≡ true
    by_test true = is
    by_test false = ticked_has p.exchange n is

pub ticked_keeps : (w : WireState Purpose) → Keeps w (all_ticked w)
ticked_keeps w = mapped_keeps peer_ticked ticked_peer w

pub stopped_keeps : (w : WireState Purpose) (node : ℕ) → Keeps w (stopped_at w node)
stopped_keeps w node = changed_keeps peer_stopped (λ p n is. is) w node

pub datagram_keeps : (w : WireState Purpose) (from : ℕ) (bytes : List ℕ) → Keeps w (after_datagram w from (reading bytes))
datagram_keeps w from bytes = by_segment (reading bytes) refl
  where
    by_segment : (r : Result Piece SegmentFault) → reading bytes ≡ r → Keeps w (after_datagram w from r)
    by_segment (Ok s) is = changed_keeps (λ p. peer_heard p s) (λ p n has. after_has p.exchange s (reading_within bytes s is) n has) w from
    by_segment (Err fault) is = λ c has. has

-- ---- what is handed over

abbrev SendingKeeps : WireState Purpose → Sending → Type 0
SendingKeeps w (sent v gives) = Keeps w v
SendingKeeps w (spent node) = Unit {0}

handed_keeps : (w : WireState Purpose) (gives : List Give) (e : Effect) → SendingKeeps w (hand_over w gives e)
handed_keeps w gives (made.Call to message purpose) = by_tests (is_up w to && is_sendable w.format message) (next_number w to == never_used)
  where
    by_tests : (goes none : Bool) → SendingKeeps w (
        if goes
        then (if none then spent to else sent (called_to w to message purpose) (gives ++ gives_of (sent_by_call w to message)))
        else sent w gives)
    by_tests true true = tt
    by_tests true false = changed_keeps (λ p. peer_called p message purpose) (λ p n is. called_has p.exchange message n is) w to
    by_tests false none = λ c is. is
handed_keeps w gives (made.Answer caller message) = by_test (is_sendable w.format message) (is_awaited w caller)
  where
    by_test : (goes awaited : Bool) → SendingKeeps w (
        if goes
        then sent (if awaited then change_peer (λ p. peer_answered p caller.number message) w caller.node else w) (gives ++ gives_of (sent_by_answer w caller message))
        else sent w gives)
    by_test true true = changed_keeps (λ p. peer_answered p caller.number message) (λ p n is. returned_has p.exchange caller.number message n is) w caller.node
    by_test true false = λ c is. is
    by_test false awaited = λ c is. is

then_keeps : (w v : WireState Purpose) (s : Sending) → Keeps w v → SendingKeeps v s → SendingKeeps w s
then_keeps w v (sent u gives) first second = λ c is. second c (first c is)
then_keeps w v (spent node) first second = tt

pub all_handed_keeps : (w : WireState Purpose) (gives : List Give) (effects : List Effect) (v : WireState Purpose) (given : List Give) → all_handed (sent w gives) effects ≡ sent v given → Keeps w v
all_handed_keeps w gives effects v given is = subst (SendingKeeps w) is (all w (sent w gives) effects (λ c has. has))
  where
    next : (x : WireState Purpose) (s : Sending) (e : Effect) → SendingKeeps x s → SendingKeeps x (next_handed s e)
    next x (sent y more) e keeps = then_keeps x y (hand_over y more e) keeps (handed_keeps y more e)
    next x (spent node) e keeps = tt

    all : (x : WireState Purpose) (s : Sending) (es : List Effect) → SendingKeeps x s → SendingKeeps x (all_handed s es)
    all x s [] keeps = keeps
    all x s (e ∷ es) keeps = all x (next_handed s e) es (next x s e keeps)

-- ---- a call that comes

-- it had not come before, and has then
record HasJustCome (w : WireState Purpose) (from : ℕ) (s : Piece) (c : Caller) : Type 0 where
  pub before : has_come w c ≡ false
  pub now : has_come (after_datagram w from (Ok s)) c ≡ true

module _ (w : WireState Purpose) (from : ℕ) (s : Piece) (bytes : List ℕ) (is_read : reading bytes ≡ Ok s) where
  peer_then : (p : PeerState Purpose) → peer_at w from ≡ Some p → peer_at (change_peer (λ q. peer_heard q s) w from) from ≡ Some (peer_heard p s)
  unfolding peer_at
  peer_then p at = by_own (from == w.own) at
    where
      by_own : (b : Bool) → cond b None (slice_get w.peers (place_of w.own from)) ≡ Some p
          → cond b None (slice_get (changed_at (λ q. peer_heard q s) w.peers (place_of w.own from)) (place_of w.own from)) ≡ Some (peer_heard p s)
      by_own true e = absurd (let clash : ◌≡◌ {A = Option (PeerState Purpose)} None (Some p) = e in cc)
      by_own false e = get_changed (λ q. peer_heard q s) w.peers (place_of w.own from) ∙ ap (option_map (λ q. peer_heard q s)) e

  just_come : (c : Caller) (message : List ℕ) → heard_from w from (Ok s) ≡ Called c message → HasJustCome w from s c
  just_come c message is = by_peer (peer_at w from) refl is
    where
      called : (p : PeerState Purpose) → peer_at w from ≡ Some p → (n : ℕ) (m : List ℕ) → arrived_after p.exchange s ≡ ArrivedCall n m
          → HasJustCome w from s (record { node = from; number = n })
      called p at n m arrives =
          let f = arrives_first p.exchange s (reading_within bytes s is_read) n m arrives in
          record {
            before = ap (of_peer false (λ q. has_call q.exchange n)) at ∙ f.before;
            now = ap (of_peer false (λ q. has_call q.exchange n)) (peer_then p at) ∙ f.now;
          }

      by_return : (n : ℕ) (m : List ℕ) (o : Option Purpose) → told_return n m o ≡ Called c message → HasJustCome w from s c
      by_return n m None e = absurd (let clash : ◌≡◌ {A = Heard Purpose} Taken (Called c message) = e in cc)
      by_return n m (Some purpose) e = absurd (let clash : ◌≡◌ {A = Heard Purpose} (Returned n purpose m) (Called c message) = e in cc)

      by_arrived : (p : PeerState Purpose) → peer_at w from ≡ Some p → (a : Arrived) → arrived_after p.exchange s ≡ a → hear_arrival (get p.purposes) from a ≡ Called c message → HasJustCome w from s c
      by_arrived p at Nothing arrives e = absurd (let clash : ◌≡◌ {A = Heard Purpose} Taken (Called c message) = e in cc)
      by_arrived p at (ArrivedCall n m) arrives e =
          let same : ◌≡◌ {A = Caller} (record { node = from; number = n }) c = cc in
          subst (HasJustCome w from s) same (called p at n m arrives)
      by_arrived p at (ArrivedReturn n m) arrives e = by_return n m (get p.purposes n) e

      by_taken : (p : PeerState Purpose) → peer_at w from ≡ Some p → (b : Bool) → (if b then hear_arrival (get p.purposes) from (arrived_after p.exchange s) else Dropped) ≡ Called c message → HasJustCome w from s c
      by_taken p at true e = by_arrived p at (arrived_after p.exchange s) refl e
      by_taken p at false e = absurd (let clash : ◌≡◌ {A = Heard Purpose} Dropped (Called c message) = e in cc)

      by_peer : (o : Option (PeerState Purpose)) → peer_at w from ≡ o → of_peer Dropped (λ p. heard_by p from s) o ≡ Called c message → HasJustCome w from s c
      by_peer None at e = absurd (let clash : ◌≡◌ {A = Heard Purpose} Dropped (Called c message) = e in cc)
      by_peer (Some p) at e = by_taken p at (takes p.exchange s) e

pub datagram_comes : (w : WireState Purpose) (from : ℕ) (bytes : List ℕ) (c : Caller) (message : List ℕ) → heard_from w from (reading bytes) ≡ Called c message
    → (has_come w c ≡ false) × (has_come (after_datagram w from (reading bytes)) c ≡ true)
datagram_comes w from bytes c message is = by_segment (reading bytes) refl is
  where
    by_segment : (r : Result Piece SegmentFault) → reading bytes ≡ r → heard_from w from r ≡ Called c message → (has_come w c ≡ false) × (has_come (after_datagram w from r) c ≡ true)
    by_segment (Ok s) read e = let just = just_come w from s bytes read c message e in (just.before, just.now)
    by_segment (Err fault) read e = absurd (let clash : ◌≡◌ {A = Heard Purpose} Dropped (Called c message) = e in cc)

-- ---- what is accepted of it

-- who made the call that something is, if it is one
abbrev pub caller_of : Occurrence → Option Caller
caller_of (occurs.Asked header body sender) = Some sender
caller_of (occurs.Fetched incarnation sender) = Some sender
caller_of (occurs.Replied name from reply) = None
caller_of (occurs.IsStale name server from incarnation) = None
caller_of (occurs.IsBefore name from) = None
caller_of (occurs.Told request table) = None
caller_of (occurs.Restored state count) = None
caller_of (occurs.Declared node) = None
caller_of occurs.Joins = None

-- what is accepted, if anything is, is a call of this caller, or none
abbrev IsOf : Option Caller → Option Occurrence → Type 0
IsOf c None = Unit {0}
IsOf c (Some o) = caller_of o ≡ c

and_then_of : {A : Type 0} (c : Option Caller) (f : A → Option Occurrence) (o : Option A) → ((a : A) → IsOf c (f a)) → IsOf c (option_and_then f o)
and_then_of c f None each = tt
and_then_of c f (Some a) each = each a

mapped_of : {A : Type 0} (c : Option Caller) (f : A → Occurrence) (o : Option A) → ((a : A) → caller_of (f a) ≡ c) → IsOf c (option_map f o)
mapped_of c f None each = tt
mapped_of c f (Some a) each = each a

if_of : (c : Option Caller) (b : Bool) (o : Occurrence) → caller_of o ≡ c → IsOf c (if b then Some o else None)
if_of c true o is = is
if_of c false o is = tt

module _ {M : Type 0} (d : Deployment) (declared : Signature) (m : MemberState M) (from : ℕ) where
  call_of : (sender : Caller) (message : List ℕ) → IsOf (Some sender) (accepted_call d declared m.place.troupe sender message)
  call_of sender message = and_then_of (Some sender) _ (call_in message) (λ read. by_call read.0 _)
    where
      by_call : (call : Call) (body : List ℕ) → IsOf (Some sender) (taken_call d declared m.place.troupe sender call body)
      by_call (Ask h) body = if_of (Some sender) (may_ask d declared m.place.troupe sender.node h body) (occurs.Asked h body sender) refl
      by_call (Ring request) body = tt
      by_call (Fetch troupe incarnation) body = if_of (Some sender) (troupe == m.place.troupe) (occurs.Fetched incarnation sender) refl

  answer_of : (name : AskName) (server : ℕ) (message : List ℕ) → IsOf None (accepted_answer d declared m name server from message)
  answer_of name server message = and_then_of None _ (return_in message) (λ read. by_header read.0 read.1)
    where
      by_header : (h : ReturnHeader) (at : ℕ) → IsOf None (taken_answer d declared m name server from h at message)
      by_header (says.Reply clock) at = mapped_of None (λ reply. occurs.Replied name from reply) (taken_reply d declared m name clock at message) (λ reply. refl)
      by_header (says.Stale incarnation) at = refl
      by_header (says.Before first) at = refl
      by_header (says.Snapshot count) at = tt
      by_header says.Table at = tt

  table_of : (request : Request) (message : List ℕ) → IsOf None (accepted_table d request message)
  table_of request message = and_then_of None _ (return_in message) (λ read. by_header read.0 read.1)
    where
      by_header : (h : ReturnHeader) (at : ℕ) → IsOf None (taken_table d request h at message)
      by_header (says.Reply clock) at = tt
      by_header (says.Stale incarnation) at = tt
      by_header (says.Before first) at = tt
      by_header (says.Snapshot count) at = tt
      by_header says.Table at = and_then_of None _ (table_at at message) (λ table. if_of None (may_tell d request table) (occurs.Told request table) refl)

  -- the call of a caller is accepted where that is heard
  pub heard_of : (c : Caller) (o : Occurrence) (h : Heard Purpose) → occurrence_of_heard d declared m from h ≡ Some o → caller_of o ≡ Some c → (message : List ℕ) × (h ≡ Called c message)
  heard_of c o h is by = by_heard h is
    where
      none_is : {X : Type 0} → caller_of o ≡ None → X
      none_is none = absurd (let clash : ◌≡◌ {A = Option Caller} None (Some c) = sym none ∙ by in cc)

      by_heard : (x : Heard Purpose) → occurrence_of_heard d declared m from x ≡ Some o → (message : List ℕ) × (x ≡ Called c message)
      by_heard Dropped e = absurd (let clash : ◌≡◌ {A = Option Occurrence} None (Some o) = e in cc)
      by_heard Taken e = absurd (let clash : ◌≡◌ {A = Option Occurrence} None (Some o) = e in cc)
      by_heard (Called sender message) e =
          let of = subst (IsOf (Some sender)) e (call_of sender message) in
          let both : Some sender ≡ Some c = sym of ∙ by in
          let same : sender ≡ c = cc in
          (message, ap (λ x. Called x message) same)
      by_heard (Returned number (for.Ask name server) message) e = none_is (subst (IsOf None) e (answer_of name server message))
      by_heard (Returned number (for.Ring request) message) e = none_is (subst (IsOf None) e (table_of request message))
      by_heard (Returned number for.Fetch message) e =
          none_is (subst (IsOf None) e (mapped_of None (λ (r : List ValueTree × ℕ). occurs.Restored r.0 r.1) (restored_in declared.variables declared.limit message) (λ r. refl)))

-- ---- pasts

-- no two calls of a past are of one caller, and those that made them have come
pub record Numbers (w : WireState Purpose) (p : Past) : Type 0 where
  pub come : All (λ (c : Caller). has_come w c ≡ true) (callers p)
  pub distinct : AreDistinct p

pub none_numbered : (w : WireState Purpose) → Numbers w booted
none_numbered w = record { come = All-nil (λ (c : Caller). has_come w c ≡ true); distinct = tt }

pub numbers_keep : (w v : WireState Purpose) (p : Past) → Keeps w v → Numbers w p → Numbers v p
numbers_keep w v p keeps h =
    record { come = All-weaker (λ (c : Caller). has_come w c ≡ true) (λ (c : Caller). has_come v c ≡ true) keeps (callers p) h.come; distinct = h.distinct }

-- a caller that has come isn't one that has not
differs : (w : WireState Purpose) (c : Caller) → has_come w c ≡ false → (other : Caller) → has_come w other ≡ true → is_caller other c ≡ false
differs w c new other old = by_test (is_caller other c) refl
  where
    by_test : (b : Bool) → is_caller other c ≡ b → b ≡ false
    by_test false is = refl
    by_test true is =
        let parts = and_parts (nat_eq other.node c.node) (nat_eq other.number c.number) is in
        let node : other.node ≡ c.node = eqb-true other.node c.node parts.0 in
        let number : other.number ≡ c.number = eqb-true other.number c.number parts.1 in
        let same : other ≡ c = λ j. record { node = node j; number = number j } in
        absurd (false≢true (sym new ∙ subst (λ x. has_come w x ≡ true) same old))

module _ (w v : WireState Purpose) (p : Past) (step : ℕ) (keeps : Keeps w v) (h : Numbers w p) where
  -- something comes: a call of a caller that has just come, or none
  pub numbers_more : (o : Occurrence) → ((c : Caller) → caller_of o ≡ Some c → (has_come w c ≡ false) × (has_come v c ≡ true)) → Numbers v (followed p step o)
  numbers_more (occurs.Asked header body sender) new =
      let is = new sender refl in
      record {
        come = All-push (λ (c : Caller). has_come v c ≡ true) (callers p) sender (numbers_keep w v p keeps h).come is.1;
        distinct = (h.distinct, All-weaker (λ (c : Caller). has_come w c ≡ true) (λ (c : Caller). is_caller c sender ≡ false) (differs w sender is.0) (callers p) h.come);
      }
  numbers_more (occurs.Fetched incarnation sender) new =
      let is = new sender refl in
      record {
        come = All-push (λ (c : Caller). has_come v c ≡ true) (callers p) sender (numbers_keep w v p keeps h).come is.1;
        distinct = (h.distinct, All-weaker (λ (c : Caller). has_come w c ≡ true) (λ (c : Caller). is_caller c sender ≡ false) (differs w sender is.0) (callers p) h.come);
      }
  numbers_more (occurs.Replied name from reply) new = let k = numbers_keep w v p keeps h in record { come = k.come; distinct = k.distinct }
  numbers_more (occurs.IsStale name server from incarnation) new = let k = numbers_keep w v p keeps h in record { come = k.come; distinct = k.distinct }
  numbers_more (occurs.IsBefore name from) new = let k = numbers_keep w v p keeps h in record { come = k.come; distinct = k.distinct }
  numbers_more (occurs.Told request table) new = let k = numbers_keep w v p keeps h in record { come = k.come; distinct = k.distinct }
  numbers_more (occurs.Restored state count) new = let k = numbers_keep w v p keeps h in record { come = k.come; distinct = k.distinct }
  numbers_more (occurs.Declared node) new = let k = numbers_keep w v p keeps h in record { come = k.come; distinct = k.distinct }
  numbers_more occurs.Joins new = let k = numbers_keep w v p keeps h in record { come = k.come; distinct = k.distinct }
