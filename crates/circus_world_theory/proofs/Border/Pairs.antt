-- Which nodes are up at the pairs of a node, and which calls await their returns there, as acts happen.
use Rattle.std.proofs.Common.{◌≡◌, ◌≢◌, ℕ, zero, suc, Bool, true, false, cond, not, ◌&&◌, eqb, if◌then◌else◌, List, [], ◌∷◌, map, Option, None, Some, Result, Ok, Err, refl, sym, ap, subst, ◌∙◌, ◌⊎◌, inl, inr}
use Rattle.std.specs.Prelude.{slice_get, is_some, option_map}
use Rattle.std.specs.FinMap.{get}
use Rattle.std.proofs.lemmas.Bool.{and_parts, eqb-true, ne_eqb}
use Rattle.std.proofs.lemmas.Bool.Decides.{eqb_tells}
use Rattle.circus_segment.specs.Segment.{Piece, IsSegment, is_acknowledgement}
use Rattle.circus_segment.specs.declared.fault.SegmentFault.{SegmentFault}
use Rattle.circus_exchange.specs.declared.exchange.Exchange.{Exchange}
use Rattle.circus_exchange.specs.declared.taken.Arrived.{Arrived}
use Rattle.circus_exchange.specs.declared.taken.Arrived.TheVariants.{Nothing, ArrivedCall, ArrivedReturn}
use Rattle.circus_exchange.specs.Exchange.{start, takes, arrived_after, count_tick}
use Rattle.circus_exchange.proofs.Ties.{equal}
use Rattle.circus_pair.specs.Taken.{has_arrived, message_in}
use Rattle.circus_pair.specs.Acts.{Act, Call, Return, Came, Tick, Stop, Acts, more, end_after, taken_by, arrives_by}
use Rattle.circus_pair.specs.Handed.{return_at}
use Rattle.circus_pair.specs.Lawful.{AreLawful, is_stopped_after}
use Rattle.circus_pair.specs.TwoEnds.{with_act}
use Rattle.circus_pair.proofs.Dialogue.{both_true, not_true, dropped}
use Rattle.circus_pair.proofs.Following as following
use Rattle.circus_pair.proofs.Keeping.{stands_lawful}
use Rattle.circus_pair.proofs.Lasting.{lasts_after, lasts_ticked, lasts_called, lasts_returned}
use Rattle.circus_pair.proofs.OneEnd.{arrived_stays, awaited}
use Rattle.circus_pair.proofs.Standing.{arrival_is}
use Rattle.circus_value.specs.declared.caller.Caller.{Caller}
use Rattle.circus_wire.specs.declared.delivery.Heard.{Heard}
use Rattle.circus_wire.specs.declared.delivery.Heard.TheVariants.{Dropped, Called}
use Rattle.circus_wire.specs.Wire.{PeerState, WireState, Beginning, IsOther, place_of, node_at, changed_at, change_peer, peer_at, of_peer, is_up, is_awaited, called_to, answer_caller, peer_called, peer_answered, peer_heard, peer_ticked, peer_stopped, hear_arrival, told_return, heard_by, heard_from, after_datagram, all_ticked, stopped_at}
use Rattle.circus_wire.specs.WireActs.{WireAct, WireActs, followed_by, CallTo, AnswerTo, CameFrom, TickAll, StopOf, act_at, acts_at, awaits_after}
use Rattle.circus_wire.specs.WireStanding.{pair_of, PeerStands, WireStands}
use Rattle.circus_wire.proofs.Changing.{peer_is}
use Rattle.circus_wire.proofs.Owing.{found_stands}
use Rattle.circus_wire.proofs.Places.{get_changed, get_other, back_at}
use Rattle.circus_wire.proofs.Performing.{other_peer}

-- ---- which nodes are up

module _ {P : Type 0} where
  -- a pair is up
  abbrev is_up_there : Option (PeerState P) → Bool
  is_up_there o = of_peer false (λ (p : PeerState P). not p.exchange.stopped) o

  up_either : (b : Bool) (o q : Option (PeerState P)) → is_up_there o ≡ is_up_there q → is_up_there (cond b None o) ≡ is_up_there (cond b None q)
  up_either true o q is = refl
  up_either false o q is = is

  -- a change of a pair that leaves open whether it has stopped
  module _ (change : PeerState P → PeerState P) (same : (p : PeerState P) → (change p).exchange.stopped ≡ p.exchange.stopped) where
    up_there : (peers : List (PeerState P)) (place other : ℕ) → is_up_there (slice_get (changed_at change peers place) other) ≡ is_up_there (slice_get peers other)
    unfolding changed_at
    up_there [] place other = refl
    up_there (p ∷ peers) zero zero = ap not (same p)
    up_there (p ∷ peers) zero (suc other) = refl
    up_there (p ∷ peers) (suc place) zero = refl
    up_there (p ∷ peers) (suc place) (suc other) = up_there peers place other

    up_changed : (w : WireState P) (at node : ℕ) → is_up (change_peer change w at) node ≡ is_up w node
    unfolding peer_at
    up_changed w at node =
        up_either (eqb node w.own) (slice_get (changed_at change w.peers (place_of w.own at)) (place_of w.own node)) (slice_get w.peers (place_of w.own node))
        (up_there w.peers (place_of w.own at) (place_of w.own node))

    up_all : (peers : List (PeerState P)) (other : ℕ) → is_up_there (slice_get (map change peers) other) ≡ is_up_there (slice_get peers other)
    up_all [] other = refl
    up_all (p ∷ peers) zero = ap not (same p)
    up_all (p ∷ peers) (suc other) = up_all peers other

  pub up_called : (w : WireState P) (to node : ℕ) (message : List ℕ) (purpose : P) → is_up (called_to w to message purpose) node ≡ is_up w node
  up_called w to node message purpose = up_changed (λ p. peer_called p message purpose) (λ p. (lasts_called p.exchange message).stopped) w to node

  pub up_answered : (w : WireState P) (caller : Caller) (message : List ℕ) (node : ℕ) → is_up (answer_caller w caller message) node ≡ is_up w node
  up_answered w caller message node = by_test (is_awaited w caller)
    where
      by_test : (b : Bool) → is_up (if b then change_peer (λ p. peer_answered p caller.number message) w caller.node else w) node ≡ is_up w node
      by_test true = up_changed (λ p. peer_answered p caller.number message) (λ p. (lasts_returned p.exchange caller.number message).stopped) w caller.node node
      by_test false = refl

  pub up_heard : (w : WireState P) (from node : ℕ) (segment : Result Piece SegmentFault) → is_up (after_datagram w from segment) node ≡ is_up w node
  up_heard w from node (Ok s) = up_changed (λ p. peer_heard p s) (λ p. (lasts_after p.exchange s).stopped) w from node
  up_heard w from node (Err fault) = refl

  ticked_same : (p : PeerState P) → (peer_ticked p).exchange.stopped ≡ p.exchange.stopped
  ticked_same p =
      elim p.exchange.stopped as (λ b. let q : PeerState P = if b then p else record p { exchange = count_tick p.exchange } in q.exchange.stopped ≡ p.exchange.stopped) [
        | true ↦ refl
        | false ↦ (lasts_ticked p.exchange).stopped
      ]

  pub up_ticked : (w : WireState P) (node : ℕ) → is_up (all_ticked w) node ≡ is_up w node
  unfolding peer_at
  up_ticked w node = up_either (eqb node w.own) (slice_get (map peer_ticked w.peers) (place_of w.own node)) (slice_get w.peers (place_of w.own node))
      (up_all peer_ticked ticked_same w.peers (place_of w.own node))

  -- ---- one that was declared down

  none_up : (b : Bool) (o : Option (PeerState P)) → is_up_there o ≡ false → is_up_there (cond b None o) ≡ false
  none_up true o is = refl
  none_up false o is = is

  stopped_there : (o : Option (PeerState P)) → is_up_there (option_map peer_stopped o) ≡ false
  stopped_there None = refl
  stopped_there (Some p) = refl

  pub up_stopped : (w : WireState P) (down node : ℕ) → down ≢ w.own → node ≢ w.own → is_up (stopped_at w down) node ≡ (not (eqb down node) && is_up w node)
  unfolding peer_at
  up_stopped w down node differ other = elim (eqb_tells down node) [
    | inl same ↦
        none_up (eqb node w.own) (slice_get (changed_at peer_stopped w.peers (place_of w.own down)) (place_of w.own node))
        (ap (λ n. is_up_there (slice_get (changed_at peer_stopped w.peers (place_of w.own down)) (place_of w.own n))) (sym same.1)
        ∙ ap is_up_there (get_changed peer_stopped w.peers (place_of w.own down)) ∙ stopped_there (slice_get w.peers (place_of w.own down)))
        ∙ sym (ap (λ b. not b && is_up w node) same.0)
    | inr differs ↦
        up_either (eqb node w.own) (slice_get (changed_at peer_stopped w.peers (place_of w.own down)) (place_of w.own node)) (slice_get w.peers (place_of w.own node))
        (ap is_up_there (get_other peer_stopped w.peers (place_of w.own down) (place_of w.own node)
        (λ same. differs.1 (sym (back_at w.own down differ) ∙ ap (node_at w.own) (sym same) ∙ back_at w.own node other))))
        ∙ sym (ap (λ b. not b && is_up w node) differs.0)
  ]

-- ---- which calls await their returns

-- an act at a pair is no return to a call of this number
abbrev NoReturn : ℕ → Option Act → Type 0
NoReturn call None = Unit {0}
NoReturn call (Some (Return returned message)) = eqb call returned ≡ false
NoReturn call (Some (Call message)) = Unit {0}
NoReturn call (Some (Came s)) = Unit {0}
NoReturn call (Some Tick) = Unit {0}
NoReturn call (Some Stop) = Unit {0}

-- it still awaits then, where a segment that comes may come
still_awaits : (first format : ℕ) (acts : Acts) (o : Option Act) (call : ℕ) → ((s : Piece) → o ≡ Some (Came s) → AreLawful first format (more acts (Came s))) → NoReturn call o
    → awaits_after (start first format) acts call ≡ true → awaits_after (start first format) (with_act acts o) call ≡ true
unfolding return_at
still_awaits first format acts None call lawful none is = is
still_awaits first format acts (Some (Return returned message)) call lawful none is =
    ap (λ b. has_arrived (taken_by (start first format) acts) 0 call && not (is_some (cond b (Some message) (return_at acts call)))) none ∙ is
still_awaits first format acts (Some (Call message)) call lawful none is = is
still_awaits first format acts (Some (Came s)) call lawful none is =
    let parts = and_parts (has_arrived (taken_by (start first format) acts) 0 call) (not (is_some (return_at acts call))) is in
    ap (λ b. b && not (is_some (return_at acts call))) (arrived_stays first format acts (Came s) 0 call (lawful s refl) parts.0) ∙ parts.1
still_awaits first format acts (Some Tick) call lawful none is = is
still_awaits first format acts (Some Stop) call lawful none is = is

no_return_if : (call : ℕ) (b : Bool) (a : Act) → (b ≡ true → NoReturn call (Some a)) → NoReturn call (cond b (Some a) None)
no_return_if call true a none = none refl
no_return_if call false a none = tt

module _ {P : Type 0} where
  -- an act is no return to a caller
  abbrev pub IsOtherAct : Caller → WireAct P → Type 0
  IsOtherAct c (AnswerTo caller message) = (caller.node ≡ c.node) → (caller.number ≡ c.number) → ⊥
  IsOtherAct c (CallTo to message purpose) = Unit {0}
  IsOtherAct c (CameFrom from s) = Unit {0}
  IsOtherAct c TickAll = Unit {0}
  IsOtherAct c (StopOf node) = Unit {0}

  no_return : (e : Exchange) (acts : Acts) (c : Caller) (act : WireAct P) → IsOtherAct c act → NoReturn c.number (act_at e c.node acts act)
  no_return e acts c (CallTo to message purpose) other = no_return_if c.number (eqb to c.node) (Call message) (λ is. tt)
  no_return e acts c (AnswerTo caller message) other =
      no_return_if c.number (eqb caller.node c.node && awaits_after e acts caller.number) (Return caller.number message)
      (λ is. ne_eqb c.number caller.number (λ same. other (eqb-true caller.node c.node (and_parts (eqb caller.node c.node) (awaits_after e acts caller.number) is).0) (sym same)))
  no_return e acts c (CameFrom from s) other = no_return_if c.number (eqb from c.node) (Came s) (λ is. tt)
  no_return e acts c TickAll other = elim (is_stopped_after acts) as (λ b. NoReturn c.number (cond b None (Some Tick))) [ true ↦ tt | false ↦ tt ]
  no_return e acts c (StopOf node) other = no_return_if c.number (eqb node c.node) Stop (λ is. tt)

  -- a call of a caller has arrived and had no return
  abbrev pub awaits_in : Beginning → WireActs P → Caller → Bool
  awaits_in b acts c = awaits_after (pair_of b) (acts_at (pair_of b) c.node acts) c.number

  module _ (b : Beginning) (acts : WireActs P) (w : WireState P) (stands : WireStands w b acts) where
    -- a pair stands for what has happened at it
    module _ (node : ℕ) (other : IsOther w node) where
      peer : (p : PeerState P) × (slice_get w.peers (place_of w.own node) ≡ Some p)
      peer = other_peer b acts w node stands other

      there : peer_at w node ≡ Some peer.0
      there = peer_is w w.own w.format w.peers node (place_of w.own node) peer.0 refl other.0 refl peer.1

      stood : PeerStands b acts node peer.0
      stood = found_stands b acts w node peer.0 other.0 peer.1 stands

  -- no segment comes by another act
  came_only : (b : Beginning) (acts : WireActs P) (act : WireAct P) (node : ℕ) (s : Piece) → ((from : ℕ) (t : Piece) → act ≡ CameFrom from t → ⊥)
      → act_at (pair_of b) node (acts_at (pair_of b) node acts) act ≡ Some (Came s) → ⊥
  came_only b acts (CallTo to message purpose) node s none is = by_test (eqb to node) is
    where
      by_test : (x : Bool) → cond x (Some (Call message)) None ≡ Some (Came s) → ⊥
      by_test true h = cc
      by_test false h = cc
  came_only b acts (AnswerTo caller message) node s none is = by_test (eqb caller.node node && awaits_after (pair_of b) (acts_at (pair_of b) node acts) caller.number) is
    where
      by_test : (x : Bool) → cond x (Some (Return caller.number message)) None ≡ Some (Came s) → ⊥
      by_test true h = cc
      by_test false h = cc
  came_only b acts (CameFrom from t) node s none is = none from t refl
  came_only b acts TickAll node s none is = by_test (is_stopped_after (acts_at (pair_of b) node acts)) is
    where
      by_test : (x : Bool) → cond x None (Some Tick) ≡ Some (Came s) → ⊥
      by_test true h = cc
      by_test false h = cc
  came_only b acts (StopOf down) node s none is = by_test (eqb down node) is
    where
      by_test : (x : Bool) → cond x (Some Stop) None ≡ Some (Came s) → ⊥
      by_test true h = cc
      by_test false h = cc

  -- what awaits still does behind an act that is no return to it and no segment
  pub awaits_on : (b : Beginning) (acts : WireActs P) (act : WireAct P) (c : Caller) → ((from : ℕ) (t : Piece) → act ≡ CameFrom from t → ⊥) → IsOtherAct c act
      → awaits_in b acts c ≡ true → awaits_in b (followed_by acts act) c ≡ true
  awaits_on b acts act c none other is =
      let here = acts_at (pair_of b) c.node acts in
      still_awaits b.first b.format here (act_at (pair_of b) c.node here act) c.number (λ s came. absurd (came_only b acts act c.node s none came)) (no_return (pair_of b) here c act other) is

  -- and behind a segment
  pub awaits_behind : (b : Beginning) (acts : WireActs P) (w : WireState P) (from : ℕ) (s : Piece) (c : Caller) → IsOther w from → IsSegment s → WireStands w b acts
      → awaits_in b acts c ≡ true → awaits_in b (followed_by acts (CameFrom from s)) c ≡ true
  awaits_behind b acts w from s c other segment stands is =
      let here = acts_at (pair_of b) c.node acts in
      let act : WireAct P = CameFrom from s in
      still_awaits b.first b.format here (act_at (pair_of b) c.node here act) c.number (λ t came. by_node (eqb_tells from c.node) t came) (no_return (pair_of b) here c act tt) is
    where
      by_node : ((eqb from c.node ≡ true) × (from ≡ c.node)) ⊎ ((eqb from c.node ≡ false) × (from ≢ c.node)) → (t : Piece)
          → cond (eqb from c.node) (Some (Came s)) None ≡ Some (Came t)
          → AreLawful b.first b.format (more (acts_at (pair_of b) c.node acts) (Came t))
      by_node (inl same) t came =
          let is_ : s ≡ t = same_segment s t (ap (λ x. cond x (Some (Came s)) None) (sym same.0) ∙ came) in
          (subst (λ n. AreLawful b.first b.format (acts_at (pair_of b) n acts)) same.1 (stood b acts w stands from other).pair.lawful, subst IsSegment is_ segment)
        where
          same_segment : (x y : Piece) → ◌≡◌ {A = Option Act} (Some (Came x)) (Some (Came y)) → x ≡ y
          same_segment x y h = cc
      by_node (inr differs) t came = absurd (none_came (ap (λ x. cond x (Some (Came s)) None) (sym differs.0) ∙ came))
        where
          none_came : ◌≡◌ {A = Option Act} None (Some (Came t)) → ⊥
          none_came h = cc

-- ---- a call arrives

-- a call that arrives had not arrived before
came_call : (a k : Bool) (n call : ℕ) (m message : List ℕ) → cond a (cond k (ArrivedCall n m) (ArrivedReturn n m)) Nothing ≡ ArrivedCall call message
    → (a ≡ true) × (k ≡ true) × (n ≡ call)
came_call true true n call m message h = (refl, refl, cc)
came_call true false n call m message h = absurd cc
came_call false k n call m message h = absurd cc

unarrived : (first format : ℕ) (acts : Acts) (s : Piece) (call : ℕ) (message : List ℕ) → AreLawful first format acts → IsSegment s
    → arrived_after (end_after (start first format) acts) s ≡ ArrivedCall call message → has_arrived (taken_by (start first format) acts) 0 call ≡ false
unarrived first format acts s call message lawful segment arrived =
    let e = end_after (start first format) acts in
    let ts = taken_by (start first format) acts in
    elim (takes e s) as (λ b. takes e s ≡ b → has_arrived ts 0 call ≡ false) [
      | false ↦ λ h. absurd (let none : Nothing ≡ ArrivedCall call message = sym (dropped e s h) ∙ arrived in cc)
      | true ↦ λ h. (
          let parts = came_call (arrives_by ts s) (eqb s.kind 0) s.call call (message_in (s ∷ ts) s.kind s.call s.total) message
          (sym (arrival_is ts e s (stands_lawful first format acts lawful) segment h) ∙ arrived) in
          let a = both_true (not (is_acknowledgement s)) _ parts.0 in
          let b = both_true (has_arrived (s ∷ ts) s.kind s.call) _ a.1 in
          subst (λ n. has_arrived ts 0 n ≡ false) parts.2 (subst (λ k. has_arrived ts k s.call ≡ false) (eqb-true s.kind 0 parts.1) (not_true _ b.1)))
    ] refl

module _ {P : Type 0} where
  called_return : (f : ℕ → Option P) (node : ℕ) (arrived : Arrived) (sender : Caller) (message : List ℕ) → ◌≡◌ {A = Heard P} (hear_arrival f node arrived) (Called sender message)
      → (arrived ≡ ArrivedCall sender.number message) × (sender.node ≡ node)
  called_return f node Nothing sender message is = absurd cc
  called_return f node (ArrivedCall number m) sender message is = called (record { node = node; number = number }) m is
    where
      called : (from : Caller) (m : List ℕ) → ◌≡◌ {A = Heard P} (Called from m) (Called sender message) → (ArrivedCall from.number m ≡ ArrivedCall sender.number message) × (sender.node ≡ from.node)
      called from m is = let same : from ≡ sender = cc in let says : m ≡ message = cc in ((λ i. ArrivedCall (same i).number (says i)), ap (λ (x : Caller). x.node) (sym same))
  called_return f node (ArrivedReturn number m) sender message is = absurd (by_purpose (f number) is)
    where
      by_purpose : (o : Option P) → ◌≡◌ {A = Heard P} (told_return number m o) (Called sender message) → ⊥
      by_purpose None is = cc
      by_purpose (Some purpose) is = cc

  -- a call that is heard awaits its return then, and did not before
  pub record Arrives (b : Beginning) (acts : WireActs P) (act : WireAct P) (from : ℕ) (sender : Caller) : Type 0 where
    pub of : sender.node ≡ from
    pub new : has_arrived (taken_by (pair_of b) (acts_at (pair_of b) sender.node acts)) 0 sender.number ≡ false
    pub before : awaits_in b acts sender ≡ false
    pub now : awaits_in b (followed_by acts act) sender ≡ true

  pub call_arrives : (b : Beginning) (acts : WireActs P) (w : WireState P) (from : ℕ) (s : Piece) (sender : Caller) (message : List ℕ) → IsOther w from → IsSegment s
      → WireStands w b acts
      → heard_from w from (Ok s) ≡ Called sender message → Arrives b acts (CameFrom from s) from sender
  call_arrives b acts w from s sender message other segment stands heard =
      let e = pair_of b in
      let here = acts_at e from acts in
      let p = (peer b acts w stands from other).0 in
      let stood_ = stood b acts w stands from other in
      let says = by_test p (takes p.exchange s) (ap (of_peer Dropped (λ (q : PeerState P). heard_by q from s)) (sym (there b acts w stands from other)) ∙ heard) in
      let arrived : arrived_after (end_after e here) s ≡ ArrivedCall sender.number message = subst (λ (x : Exchange). arrived_after x s ≡ ArrivedCall sender.number message) stood_.pair.is says.0 in
      let c : Caller = record { node = from; number = sender.number } in
      let same : c ≡ sender = λ i. record { node = sym says.1 i; number = sender.number } in
      let lawful : AreLawful b.first b.format (more here (Came s)) = (stood_.pair.lawful, segment) in
      let new : has_arrived (taken_by e here) 0 sender.number ≡ false = unarrived b.first b.format here s sender.number message stood_.pair.lawful segment arrived in
      let before : awaits_in b acts c ≡ false = ap (λ x. x && not (is_some (return_at here sender.number))) new in
      let now : awaits_in b (followed_by acts (CameFrom from s)) c ≡ true =
      ap (λ x. awaits_after e (with_act here (cond x (Some (Came s)) None)) sender.number) (equal from)
      ∙ sym (following.awaits_as_owed (end_after e (more here (Came s))) b.first b.format (more here (Came s)) (record { lawful = lawful; is = refl }) sender.number)
      ∙ awaited b.first b.format here s sender.number message lawful arrived in
      record { of = says.1; new = subst (λ (x : Caller). has_arrived (taken_by e (acts_at e x.node acts)) 0 x.number ≡ false) same new; before = subst (λ (x : Caller). awaits_in b acts x ≡ false) same before; now = subst (λ (x : Caller). awaits_in b (followed_by acts (CameFrom from s)) x ≡ true) same now }
    where
      by_test : (p : PeerState P) (t : Bool) → ◌≡◌ {A = Heard P} (if t then hear_arrival (get p.purposes) from (arrived_after p.exchange s) else Dropped) (Called sender message)
          → (arrived_after p.exchange s ≡ ArrivedCall sender.number message) × (sender.node ≡ from)
      by_test p true is = called_return (get p.purposes) from (arrived_after p.exchange s) sender message is
      by_test p false is = absurd cc
