-- What a node gives in a step is what the acts at its pairs owe, one behind the other.
use Rattle.std.proofs.Common.{◌≡◌, ◌≢◌, ℕ, zero, suc, ◌+◌, ◌-◌, ◌*◌, ◌<◌, ◌≤◌, ◌⊎◌, inl, inr, Bool, true, false, cond, not, ◌&&◌, eqb, List, [], ◌∷◌, ◌++◌, length, Option, None, Some, Result, Ok, Err, refl, sym, ap, subst, ◌∙◌, arith, append_assoc, append-nil}
use Rattle.std.specs.Prelude.{slice_get, flat_map, nat_lt, nat_le, if◌then◌else◌, ◌==◌}
use Rattle.std.proofs.lemmas.Bool.{and_parts, ltb-true, leb-true, eqb-true, eqb-false, eq-eqb, cases_lt}
use Rattle.std.proofs.lemmas.Bool.Decides.{eqb_tells}
use Rattle.std.proofs.lemmas.Option.{slice_get_within}
use Rattle.circus_value.specs.ValueTree.{ValueTree}
use Rattle.circus_value.specs.declared.caller.Caller.{Caller}
use Rattle.circus_value.specs.declared.outcome.Outcome.{Outcome}
use Rattle.circus_segment.specs.Segment.{Piece, IsSegment, reading, part_size, most_segments}
use Rattle.circus_segment.specs.declared.fault.SegmentFault.{SegmentFault}
use Rattle.circus_collate.specs.declared.deployment.Deployment.{Deployment}
use Rattle.circus_model.specs.NextTurn.{NextTurn}
use Rattle.circus_model.specs.declared.signature.Signature.{Signature}
use Rattle.circus_exchange.specs.Limits.{never_used}
use Rattle.circus_exchange.specs.Exchange.{IsSendable, datagrams_of_return}
use Rattle.circus_pair.specs.Acts.{Call, Return, Came, Tick, Stop, taken_by}
use Rattle.circus_pair.specs.Lawful.{is_stopped_after}
use Rattle.circus_pair.specs.Taken.{has_arrived, total_in}
use Rattle.circus_pair.specs.TwoEnds.{with_act}
use Rattle.circus_pair.proofs.Lasting.{lasts_called, lasts_returned}
use Rattle.circus_wire.specs.declared.delivery.Batch.{Batch}
use Rattle.circus_wire.specs.Wire.{PeerState, WireState, Beginning, IsOther, place_of, changed_at, change_peer, peer_at, of_peer, sent_to, is_up, next_number, is_awaited, peer_called, peer_answered, called_to, sent_by_call, answer_caller, sent_by_answer, after_datagram, sent_by_datagram, heard_from, stopped_at}
use Rattle.circus_wire.specs.WireActs.{WireAct, WireActs, begun, followed_by, CallTo, AnswerTo, CameFrom, TickAll, StopOf, acts_at, awaits_after, made_to}
use Rattle.circus_wire.specs.WireStanding.{WireStands, pair_of, outputs_for}
use Rattle.circus_wire.proofs.Changing.{found_by}
use Rattle.circus_wire.proofs.Histories.{made_is, knows_next}
use Rattle.circus_wire.proofs.Owing.{tick_owed, suspects_owed}
use Rattle.circus_wire.proofs.Performing.{call_stands, call_owes, answer_stands, answer_owes, unawaited_stands, unawaited_owes, came_stands, came_owes}
use Rattle.circus_wire.proofs.Standing.{stands_begun, stands_ticked, stands_stopped}
use Rattle.circus_member_rules.specs.declared.occurrence.Purpose.{Purpose}
use Rattle.circus_member_rules.specs.declared.occurrence.Effect.{Effect}
use Rattle.circus_member_rules.specs.declared.occurrence.Effect.TheVariants as made
use Rattle.circus_node.specs.declared.event.Event.{Event}
use Rattle.circus_node.specs.declared.event.Event.TheVariants as comes
use Rattle.circus_node.specs.declared.event.Give.{Give}
use Rattle.circus_node.specs.declared.event.Outputs.{Outputs}
use Rattle.circus_node.specs.Booting.{home_of, made_at_boot, boot_node, fresh_wire}
use Rattle.circus_node.specs.Making.{Made, hears, learns_down, is_told_to_join}
use Rattle.circus_node.specs.NodeState.{NodeState}
use Rattle.circus_node.specs.Sending.{Sending, sent, spent, gives_of, is_sendable, hand_over, all_handed}
use Rattle.circus_node.specs.Step.{CanCome, Ended, end_step, conclude_step, tick_node, step_node}
use Rattle.circus_world_theory.specs.Histories.{beginning_of}
use Rattle.circus_world_theory.specs.NodeActs.{with_all, acts_of_datagram, came_by, handed_by, wire_behind, acts_in, acts_at_boot}
use Rattle.circus_world_theory.proofs.Given.{IsPeer, peer_by, with_both, same_end}
use Rattle.circus_world_theory.proofs.Spelled.{few_made}
use Rattle.circus_world_theory.proofs.Steps.{IsRead}
use Rattle.circus_headline_theory.specs.Peers.{ComeOfPeers}
use Rattle.circus_headline_theory.specs.Trace.{gives_for, gives_for_all, suspects_in}
use Rattle.circus_headline_theory.proofs.Datagrams.AtPairs.{other_by, lawful_then}

-- what is owed for acts behind others
pub gives_both : (b : Beginning) (acts : WireActs Purpose) (some more : List (WireAct Purpose)) → gives_for_all b acts (some ++ more) ≡ gives_for_all b acts some ++ gives_for_all b (with_all acts some) more
gives_both b acts [] more = refl
gives_both b acts (act ∷ some) more =
    ap (λ l. gives_for b acts act ++ l) (gives_both b (followed_by acts act) some more)
    ∙ sym (append_assoc (gives_for b acts act) (gives_for_all b (followed_by acts act) some) (gives_for_all b (with_all (followed_by acts act) some) more))

-- ---- nothing comes of a node that is none of the others, and nothing is called there

none_arrived : (call : ℕ) → has_arrived [] 0 call ≡ false
unfolding has_arrived total_in
none_arrived call = refl

neither : (x : Bool) → (x && false) ≡ false
neither true = refl
neither false = refl

module _ (b : Beginning) (node : ℕ) (no_peer : IsPeer b node → ⊥) where
  none_taken : (acts : WireActs Purpose) → ComeOfPeers b acts → taken_by (pair_of b) (acts_at (pair_of b) node acts) ≡ []
  none_taken begun of = refl
  none_taken (followed_by acts (CallTo to message purpose)) of = by_test (none_taken acts of.0) (eqb to node)
    where
      by_test : taken_by (pair_of b) (acts_at (pair_of b) node acts) ≡ [] → (t : Bool)
          → taken_by (pair_of b) (with_act (acts_at (pair_of b) node acts) (cond t (Some (Call message)) None)) ≡ []
      by_test rest true = rest
      by_test rest false = rest
  none_taken (followed_by acts (AnswerTo caller message)) of = by_test (none_taken acts of.0) (eqb caller.node node && awaits_after (pair_of b) (acts_at (pair_of b) node acts) caller.number)
    where
      by_test : taken_by (pair_of b) (acts_at (pair_of b) node acts) ≡ [] → (t : Bool)
          → taken_by (pair_of b) (with_act (acts_at (pair_of b) node acts) (cond t (Some (Return caller.number message)) None)) ≡ []
      by_test rest true = rest
      by_test rest false = rest
  none_taken (followed_by acts (CameFrom from s)) of = by_test (none_taken acts of.0) (eqb from node) refl
    where
      by_test : taken_by (pair_of b) (acts_at (pair_of b) node acts) ≡ [] → (t : Bool) → eqb from node ≡ t
          → taken_by (pair_of b) (with_act (acts_at (pair_of b) node acts) (cond t (Some (Came s)) None)) ≡ []
      by_test rest true is = absurd (no_peer (subst (IsPeer b) (eqb-true from node is) of.1))
      by_test rest false is = rest
  none_taken (followed_by acts TickAll) of = by_test (none_taken acts of.0) (is_stopped_after (acts_at (pair_of b) node acts))
    where
      by_test : taken_by (pair_of b) (acts_at (pair_of b) node acts) ≡ [] → (t : Bool)
          → taken_by (pair_of b) (with_act (acts_at (pair_of b) node acts) (cond t None (Some Tick))) ≡ []
      by_test rest true = rest
      by_test rest false = rest
  none_taken (followed_by acts (StopOf down)) of = by_test (none_taken acts of.0) (eqb down node)
    where
      by_test : taken_by (pair_of b) (acts_at (pair_of b) node acts) ≡ [] → (t : Bool)
          → taken_by (pair_of b) (with_act (acts_at (pair_of b) node acts) (cond t (Some Stop) None)) ≡ []
      by_test rest true = rest
      by_test rest false = rest

  none_awaited : (acts : WireActs Purpose) → ComeOfPeers b acts → (call : ℕ) → awaits_after (pair_of b) (acts_at (pair_of b) node acts) call ≡ false
  none_awaited acts of call =
      by_arrived (has_arrived (taken_by (pair_of b) (acts_at (pair_of b) node acts)) 0 call) _ (ap (λ l. has_arrived l 0 call) (none_taken acts of) ∙ none_arrived call)
    where
      by_arrived : (x y : Bool) → x ≡ false → (x && y) ≡ false
      by_arrived true y is = cc
      by_arrived false y is = refl

  none_made : (acts : WireActs Purpose) → ComeOfPeers b acts → made_to node acts ≡ 0
  unfolding made_to
  none_made begun of = refl
  none_made (followed_by acts (CallTo to message purpose)) of = by_test (none_made acts of.0) (eqb to node) refl
    where
      by_test : made_to node acts ≡ 0 → (t : Bool) → eqb to node ≡ t → cond t (made_to node acts + 1) (made_to node acts) ≡ 0
      by_test rest true is = absurd (no_peer (subst (IsPeer b) (eqb-true to node is) of.1))
      by_test rest false is = rest
  none_made (followed_by acts (AnswerTo caller message)) of = none_made acts of.0
  none_made (followed_by acts (CameFrom from s)) of = none_made acts of.0
  none_made (followed_by acts TickAll) of = none_made acts of.0
  none_made (followed_by acts (StopOf down)) of = none_made acts of.0

is_peer_or_not : (b : Beginning) (node : ℕ) → IsPeer b node ⊎ (IsPeer b node → ⊥)
is_peer_or_not b node = elim (eqb_tells node b.own) [
  | inl same ↦ inr (λ is. is.0 same.1)
  | inr differs ↦ elim (cases_lt node b.nodes) [
    | inl low ↦ inl (differs.1, low)
    | inr high ↦ inr (λ is. let low : node < b.nodes = is.1 in absurd (omega (arith, low, high)))
  ]
]

-- a node that is up is another one
peer_up : (b : Beginning) (acts : WireActs Purpose) (w : WireState Purpose) (to : ℕ) → WireStands w b acts → is_up w to ≡ true → IsPeer b to
peer_up b acts w to stands up =
    let f = found_by (λ (p : PeerState Purpose). not p.exchange.stopped) w w.own w.format w.peers to refl up in
    peer_by b acts w to stands (f.differs, by_test (nat_lt w.own to) (slice_get_within w.peers (place_of w.own to) f.peer f.there))
  where
    by_test : (t : Bool) → (if t then to - 1 else to) < length w.peers → to ≤ length w.peers
    by_test true low = omega (arith, low)
    by_test false low = omega (arith, low)

-- ---- numbers

-- more calls were handed over to a node than there are numbers
abbrev pub IsSpent : Beginning → WireActs Purpose → ℕ → Type 0
IsSpent b acts node = never_used < b.first + made_to node acts

made_here : (acts : WireActs Purpose) (to : ℕ) (message : List ℕ) (purpose : Purpose) → made_to to (followed_by acts (CallTo to message purpose)) ≡ made_to to acts + 1
unfolding made_to
made_here acts to message purpose = ap (λ t. if t then made_to to acts + 1 else made_to to acts) (eq-eqb to to refl)

made_on : (node : ℕ) (acts : WireActs Purpose) (act : WireAct Purpose) → made_to node acts ≤ made_to node (followed_by acts act)
unfolding made_to
made_on node acts (CallTo to message purpose) = by_test (eqb to node)
  where
    by_test : (t : Bool) → made_to node acts ≤ cond t (made_to node acts + 1) (made_to node acts)
    by_test true = omega arith
    by_test false = omega arith
made_on node acts (AnswerTo caller message) = omega arith
made_on node acts (CameFrom from s) = omega arith
made_on node acts TickAll = omega arith
made_on node acts (StopOf down) = omega arith

pub made_behind : (node : ℕ) (acts : WireActs Purpose) (more : List (WireAct Purpose)) → made_to node acts ≤ made_to node (with_all acts more)
made_behind node acts [] = omega arith
made_behind node acts (act ∷ more) =
    (let one = made_on node acts act in let rest = made_behind node (followed_by acts act) more in omega (arith, one, rest))

-- where pairs stand for acts there are no more
pub numbers_stand : (b : Beginning) (acts : WireActs Purpose) (w : WireState Purpose) → b.first ≤ never_used → WireStands w b acts → ComeOfPeers b acts → (node : ℕ) → b.first + made_to node acts ≤ never_used
numbers_stand b acts w low stands of_peers node = elim (is_peer_or_not b node) [
  | inl peer ↦
      (let few = few_made b.first b.format (acts_at (pair_of b) node acts) low (lawful_then b acts w node stands peer) in
      let same = made_is b acts node in omega (arith, few, same))
  | inr no_peer ↦ (let none = none_made b node no_peer acts of_peers in omega (arith, none, low))
]

-- ---- a node stays up while calls and returns are handed over

module _ (change : PeerState Purpose → PeerState Purpose) (same : (p : PeerState Purpose) → (change p).exchange.stopped ≡ p.exchange.stopped) where
  up_there : (peers : List (PeerState Purpose)) (place other : ℕ)
      → of_peer false (λ p. not p.exchange.stopped) (slice_get (changed_at change peers place) other) ≡ of_peer false (λ p. not p.exchange.stopped) (slice_get peers other)
  unfolding changed_at
  up_there [] place other = refl
  up_there (p ∷ peers) zero zero = ap not (same p)
  up_there (p ∷ peers) zero (suc other) = refl
  up_there (p ∷ peers) (suc place) zero = refl
  up_there (p ∷ peers) (suc place) (suc other) = up_there peers place other

  up_either : (t : Bool) (o q : Option (PeerState Purpose)) → of_peer false (λ p. not p.exchange.stopped) o ≡ of_peer false (λ p. not p.exchange.stopped) q
      → of_peer false (λ p. not p.exchange.stopped) (cond t None o) ≡ of_peer false (λ p. not p.exchange.stopped) (cond t None q)
  up_either true o q is = refl
  up_either false o q is = is

  up_changed : (w : WireState Purpose) (at node : ℕ) → is_up (change_peer change w at) node ≡ is_up w node
  unfolding peer_at
  up_changed w at node =
      up_either (eqb node w.own) (slice_get (changed_at change w.peers (place_of w.own at)) (place_of w.own node)) (slice_get w.peers (place_of w.own node))
      (up_there w.peers (place_of w.own at) (place_of w.own node))

up_called : (w : WireState Purpose) (to node : ℕ) (message : List ℕ) (purpose : Purpose) → is_up (called_to w to message purpose) node ≡ is_up w node
up_called w to node message purpose = up_changed (λ p. peer_called p message purpose) (λ p. (lasts_called p.exchange message).stopped) w to node

up_answered : (w : WireState Purpose) (caller : Caller) (message : List ℕ) (node : ℕ) → is_up (change_peer (λ p. peer_answered p caller.number message) w caller.node) node ≡ is_up w node
up_answered w caller message node =
    up_changed (λ p. peer_answered p caller.number message) (λ p. (lasts_returned p.exchange caller.number message).stopped) w caller.node node

-- ---- a call or a return is handed over

-- the pairs stand for acts, and are up as they were
pub record Hands (b : Beginning) (acts : WireActs Purpose) (old w : WireState Purpose) : Type 0 where
  pub stands : WireStands w b acts
  pub of_peers : ComeOfPeers b acts
  pub up : (node : ℕ) → is_up w node ≡ is_up old node
  pub format : w.format ≡ old.format

-- and this was given; else there is no number for the last call
abbrev pub HandsSo : Beginning → WireActs Purpose → WireState Purpose → List Give → Sending → Type 0
HandsSo b acts old given (sent w gives) = Hands b acts old w × (gives ≡ given)
HandsSo b acts old given (spent node) = IsSpent b acts node

can_send : (format : ℕ) (message : List ℕ) → is_sendable format message ≡ true → IsSendable format message
can_send format message is =
    let parts = and_parts (nat_lt 0 (length message)) (nat_le (length message) (part_size * most_segments format)) is in
    (ltb-true 0 (length message) parts.0, leb-true (length message) (part_size * most_segments format) parts.1)

module _ (b : Beginning) (low : b.first ≤ never_used) (acts : WireActs Purpose) (old w : WireState Purpose) (gives : List Give) (so_far : Hands b acts old w) where
  next_is : (to : ℕ) → is_up w to ≡ true → next_number w to ≡ b.first + made_to to acts
  next_is to up = knows_next w b acts to so_far.stands (other_by b acts w to so_far.stands (peer_up b acts w to so_far.stands up))

  -- a number is left
  left_for : (to : ℕ) → is_up w to ≡ true → (next_number w to == never_used) ≡ false → next_number w to < never_used
  left_for to up differs =
      let next = next_is to up in
      let most = numbers_stand b acts w low so_far.stands so_far.of_peers to in
      let other : next_number w to ≢ never_used = eqb-false (next_number w to) never_used differs in
      omega (arith, next, most, other)

  -- or none is
  none_for : (to : ℕ) (message : List ℕ) (purpose : Purpose) → is_up w to ≡ true → (next_number w to == never_used) ≡ true → IsSpent b (followed_by acts (CallTo to message purpose)) to
  none_for to message purpose up is =
      (let next = next_is to up in let last = eqb-true (next_number w to) never_used is in let one = made_here acts to message purpose in omega (arith, next, last, one))

  call_on : (to : ℕ) (message : List ℕ) (purpose : Purpose)
      → HandsSo b (with_all acts (handed_by w (made.Call to message purpose))) old (gives ++ gives_for_all b acts (handed_by w (made.Call to message purpose))) (hand_over w gives (made.Call to message purpose))
  call_on to message purpose = by_test (is_up w to && is_sendable w.format message) refl
    where
      next : WireState Purpose
      next = called_to w to message purpose

      by_number : is_up w to ≡ true → is_sendable w.format message ≡ true → (none : Bool) → (next_number w to == never_used) ≡ none
          → HandsSo b (followed_by acts (CallTo to message purpose)) old (gives ++ gives_for_all b acts (CallTo to message purpose ∷ [])) (if none then spent to else sent next (gives ++ gives_of (sent_by_call w to message)))
      by_number up sendable true is = none_for to message purpose up is
      by_number up sendable false is =
          let may = can_send w.format message sendable in
          let left = left_for to up is in (
            record {
              stands = call_stands b acts w to message purpose up may left so_far.stands next refl;
              of_peers = (so_far.of_peers, peer_up b acts w to so_far.stands up);
              up = λ node. up_called w to node message purpose ∙ so_far.up node;
              format = so_far.format;
            },
            ap (λ (x : Batch). gives ++ gives_of x) (call_owes b acts w to message purpose up may left so_far.stands (sent_by_call w to message).datagrams refl)
                ∙ ap (λ l. gives ++ l) (sym (append-nil (gives_for b acts (CallTo to message purpose)))),
          )

      by_test : (test : Bool) → (is_up w to && is_sendable w.format message) ≡ test
          → HandsSo b (with_all acts (if test then CallTo to message purpose ∷ [] else [])) old (gives ++ gives_for_all b acts (if test then CallTo to message purpose ∷ [] else []))
          (if test then (if next_number w to == never_used then spent to else sent next (gives ++ gives_of (sent_by_call w to message))) else sent w gives)
      by_test true is = (let parts = and_parts (is_up w to) (is_sendable w.format message) is in by_number parts.0 parts.1 (next_number w to == never_used) refl)
      by_test false is = (so_far, sym (append-nil gives))

  -- for a return that is not awaited nothing is owed
  unawaited : (caller : Caller) (message : List ℕ) → is_awaited w caller ≡ false → gives_for b acts (AnswerTo caller message) ≡ []
  unawaited caller message none = elim (is_peer_or_not b caller.node) [
    | inl peer ↦
        (let one = so_far.stands.one in let all = so_far.stands.nodes in let below = peer.1 in
        sym (ap gives_of (unawaited_owes b acts w caller message so_far.stands [] ((λ same. peer.0 (same ∙ so_far.stands.own)), omega (arith, one, all, below)) none refl)))
    | inr no_peer ↦
        (let e = pair_of b in let here = acts_at e caller.node acts in
        (λ j. gives_of (let x : Batch = record { to = caller.node; datagrams = outputs_for e here (cond (eqb caller.node caller.node && none_awaited b caller.node no_peer acts so_far.of_peers caller.number j) (Some (Return caller.number message)) None) } in x))
        ∙ (λ j. gives_of (let x : Batch = record { to = caller.node; datagrams = outputs_for e here (cond (neither (eqb caller.node caller.node) j) (Some (Return caller.number message)) None) } in x)))
  ]

  answer_on : (caller : Caller) (message : List ℕ)
      → HandsSo b (with_all acts (handed_by w (made.Answer caller message))) old (gives ++ gives_for_all b acts (handed_by w (made.Answer caller message))) (hand_over w gives (made.Answer caller message))
  answer_on caller message = by_test (is_sendable w.format message) refl
    where
      next : WireState Purpose
      next = change_peer (λ p. peer_answered p caller.number message) w caller.node

      sends : Batch
      sends = sent_to (λ p. datagrams_of_return p.exchange caller.number message) w caller.node

      none : Batch
      none = record { to = caller.node; datagrams = [] }

      by_call : IsSendable w.format message → (awaited : Bool) → is_awaited w caller ≡ awaited
          → Hands b (followed_by acts (AnswerTo caller message)) old (if awaited then next else w)
          × ((gives ++ gives_of (if awaited then sends else none)) ≡ gives ++ gives_for_all b acts (AnswerTo caller message ∷ []))
      by_call may true is = (
        record {
          stands = answer_stands b acts w caller message so_far.stands next may is (sym (ap (λ (x : Bool). if x then next else w) is));
          of_peers = (so_far.of_peers, tt);
          up = λ node. up_answered w caller message node ∙ so_far.up node;
          format = so_far.format;
        },
        ap (λ (x : Batch). gives ++ gives_of x) (answer_owes b acts w caller message so_far.stands sends.datagrams is (sym (ap (λ (x : Bool). let y : Batch = if x then sends else none in y.datagrams) is)))
            ∙ ap (λ l. gives ++ l) (sym (append-nil (gives_for b acts (AnswerTo caller message)))),
      )
      by_call may false is = (
        record {
          stands = unawaited_stands b acts w caller message so_far.stands is;
          of_peers = (so_far.of_peers, tt);
          up = so_far.up;
          format = so_far.format;
        },
        ap (λ l. gives ++ l) (sym (append-nil (gives_for b acts (AnswerTo caller message)) ∙ unawaited caller message is)),
      )

      by_test : (test : Bool) → is_sendable w.format message ≡ test
          → HandsSo b (with_all acts (if test then AnswerTo caller message ∷ [] else [])) old (gives ++ gives_for_all b acts (if test then AnswerTo caller message ∷ [] else []))
          (if test then sent (answer_caller w caller message) (gives ++ gives_of (sent_by_answer w caller message)) else sent w gives)
      by_test true is = by_call (can_send w.format message is) (is_awaited w caller) refl
      by_test false is = (so_far, sym (append-nil gives))

-- ---- all of them

handed_alike : (b : Beginning) (acts : WireActs Purpose) (old w : WireState Purpose) (e : Effect) → Hands b acts old w → handed_by w e ≡ handed_by old e
handed_alike b acts old w (made.Call to message purpose) so_far =
    λ i. if so_far.up to i && is_sendable (so_far.format i) message then CallTo to message purpose ∷ [] else []
handed_alike b acts old w (made.Answer caller message) so_far =
    λ i. if is_sendable (so_far.format i) message then AnswerTo caller message ∷ [] else []

one_on : (b : Beginning) → b.first ≤ never_used → (acts : WireActs Purpose) (old w : WireState Purpose) (gives : List Give) (e : Effect) → Hands b acts old w
    → HandsSo b (with_all acts (handed_by old e)) old (gives ++ gives_for_all b acts (handed_by old e)) (hand_over w gives e)
one_on b low acts old w gives (made.Call to message purpose) so_far =
    subst (λ l. HandsSo b (with_all acts l) old (gives ++ gives_for_all b acts l) (hand_over w gives (made.Call to message purpose))) (handed_alike b acts old w (made.Call to message purpose) so_far)
    (call_on b low acts old w gives so_far to message purpose)
one_on b low acts old w gives (made.Answer caller message) so_far =
    subst (λ l. HandsSo b (with_all acts l) old (gives ++ gives_for_all b acts l) (hand_over w gives (made.Answer caller message))) (handed_alike b acts old w (made.Answer caller message) so_far)
    (answer_on b low acts old w gives so_far caller message)

spent_on : (b : Beginning) (acts : WireActs Purpose) (old : WireState Purpose) (given : List Give) (node : ℕ) (effects : List Effect) → IsSpent b acts node → HandsSo b acts old given (all_handed (spent node) effects)
spent_on b acts old given node [] is = is
spent_on b acts old given node (e ∷ effects) is = spent_on b acts old given node effects is

spent_behind : (b : Beginning) (acts : WireActs Purpose) (more : List (WireAct Purpose)) (node : ℕ) → IsSpent b acts node → IsSpent b (with_all acts more) node
spent_behind b acts more node is = (let low = made_behind node acts more in omega (arith, is, low))

given_as : (b : Beginning) (acts : WireActs Purpose) (old : WireState Purpose) (s : Sending) (given other : List Give) → given ≡ other → HandsSo b acts old given s → HandsSo b acts old other s
given_as b acts old s given other same h = subst (λ l. HandsSo b acts old l s) same h

pub all_on : (b : Beginning) → b.first ≤ never_used → (acts : WireActs Purpose) (old : WireState Purpose) (s : Sending) (given : List Give) (effects : List Effect) → HandsSo b acts old given s
    → HandsSo b (with_all acts (flat_map (handed_by old) effects)) old (given ++ gives_for_all b acts (flat_map (handed_by old) effects)) (all_handed s effects)
all_on b low acts old s given [] so_far = given_as b acts old s given (given ++ []) (sym (append-nil given)) so_far
all_on b low acts old (spent node) given (e ∷ effects) so_far =
    spent_on b (with_all acts (flat_map (handed_by old) (e ∷ effects))) old (given ++ gives_for_all b acts (flat_map (handed_by old) (e ∷ effects))) node effects
    (spent_behind b acts (flat_map (handed_by old) (e ∷ effects)) node so_far)
all_on b low acts old (sent w gives) given (e ∷ effects) so_far =
    let now = handed_by old e in
    let rest = flat_map (handed_by old) effects in
    let one = one_on b low acts old w gives e so_far.0 in
    let all = all_on b low (with_all acts now) old (hand_over w gives e) (gives ++ gives_for_all b acts now) effects one in
    let same : (gives ++ gives_for_all b acts now) ++ gives_for_all b (with_all acts now) rest ≡ given ++ gives_for_all b acts (now ++ rest) =
    append_assoc gives (gives_for_all b acts now) (gives_for_all b (with_all acts now) rest) ∙ ap (λ l. gives ++ l) (sym (gives_both b acts now rest)) ∙ ap (λ l. l ++ gives_for_all b acts (now ++ rest)) so_far.1 in
    subst (λ x. HandsSo b x old (given ++ gives_for_all b acts (now ++ rest)) (all_handed (hand_over w gives e) effects)) (sym (with_both acts now rest))
    (given_as b (with_all (with_all acts now) rest) old (all_handed (hand_over w gives e) effects) _ _ same all)

-- ---- a step

-- the pairs of a node stand for acts, and this was given, and nobody was suspected but these
pub record Sends {M : Type 0} (b : Beginning) (acts : WireActs Purpose) (gives : List Give) (suspects : List ℕ) (r : NodeState M × Outputs) : Type 0 where
  pub stands : WireStands r.0.wire b acts
  pub of_peers : ComeOfPeers b acts
  pub gives_are : r.1.gives ≡ gives
  pub suspects_are : r.1.suspects ≡ suspects

module _ {M : Type 0} where
  ended_sends : (b : Beginning) (acts : WireActs Purpose) (old : WireState Purpose) (given : List Give) (n : NodeState M) (m : Made M) (s : Sending) (r : NodeState M × Outputs)
      → HandsSo b acts old given s → end_step n m.came s ≡ Ok r → Sends b acts given [] r
  ended_sends b acts old given n m (sent w gives) r on is =
      subst (Sends b acts given []) (same_end _ r is) (record { stands = on.0.stands; of_peers = on.0.of_peers; gives_are = on.1; suspects_are = refl })
  ended_sends b acts old given n m (spent node) r on is = absurd (let clash : ◌≡◌ {A = Result (NodeState M × Outputs) ℕ} (Err node) (Ok r) = is in cc)

  ended_spent : (b : Beginning) (acts : WireActs Purpose) (old : WireState Purpose) (given : List Give) (n : NodeState M) (m : Made M) (s : Sending) (peer : ℕ)
      → HandsSo b acts old given s → end_step n m.came s ≡ Err peer → IsSpent b acts peer
  ended_spent b acts old given n m (sent w gives) peer on is = absurd (let clash : ◌≡◌ {A = Ended M} (end_step n m.came (sent w gives)) (Err peer) = is in cc)
  ended_spent b acts old given n m (spent node) peer on is = subst (IsSpent b acts) (let same : ◌≡◌ {A = Ended M} (Err node) (Err peer) = is in cc) on

  -- what came of an event is sent
  concluded_sends : (b : Beginning) → b.first ≤ never_used → (acts : WireActs Purpose) (n : NodeState M) (gives : List Give) (m : Made M) (r : NodeState M × Outputs)
      → WireStands n.wire b acts → ComeOfPeers b acts → conclude_step n gives m.came ≡ Ok r
      → Sends b (with_all acts (flat_map (handed_by n.wire) m.came.effects)) (gives ++ gives_for_all b acts (flat_map (handed_by n.wire) m.came.effects)) [] r
  concluded_sends b low acts n gives m r stands of_peers is =
      ended_sends b (with_all acts (flat_map (handed_by n.wire) m.came.effects)) n.wire (gives ++ gives_for_all b acts (flat_map (handed_by n.wire) m.came.effects)) n m (all_handed (sent n.wire gives) m.came.effects) r
      (all_on b low acts n.wire (sent n.wire gives) gives m.came.effects (record { stands = stands; of_peers = of_peers; up = λ node. refl; format = refl }, refl))
      is

  -- or no number is left for a call of it
  concluded_spent : (b : Beginning) → b.first ≤ never_used → (acts : WireActs Purpose) (n : NodeState M) (gives : List Give) (m : Made M) (peer : ℕ)
      → WireStands n.wire b acts → ComeOfPeers b acts → conclude_step n gives m.came ≡ Err peer
      → IsSpent b (with_all acts (flat_map (handed_by n.wire) m.came.effects)) peer
  concluded_spent b low acts n gives m peer stands of_peers is =
      ended_spent b (with_all acts (flat_map (handed_by n.wire) m.came.effects)) n.wire (gives ++ gives_for_all b acts (flat_map (handed_by n.wire) m.came.effects)) n m (all_handed (sent n.wire gives) m.came.effects) peer
      (all_on b low acts n.wire (sent n.wire gives) gives m.came.effects (record { stands = stands; of_peers = of_peers; up = λ node. refl; format = refl }, refl))
      is

module _ (b : Beginning) (acts : WireActs Purpose) (w : WireState Purpose) (from : ℕ) (other : IsOther w from) (stands : WireStands w b acts) (of_peers : ComeOfPeers b acts) where
  pub datagram_stands : (segment : Result Piece SegmentFault) → ((s : Piece) → segment ≡ Ok s → IsSegment s)
      → WireStands (after_datagram w from segment) b (with_all acts (acts_of_datagram from segment))
  datagram_stands (Ok s) is = came_stands b acts w from s s other stands refl (is s refl) (after_datagram w from (Ok s)) refl
  datagram_stands (Err fault) is = stands

  pub datagram_of : (segment : Result Piece SegmentFault) → ComeOfPeers b (with_all acts (acts_of_datagram from segment))
  datagram_of (Ok s) = (of_peers, peer_by b acts w from stands other)
  datagram_of (Err fault) = of_peers

  pub datagram_gives : (segment : Result Piece SegmentFault) → ((s : Piece) → segment ≡ Ok s → IsSegment s)
      → gives_of (sent_by_datagram w from segment) ≡ gives_for_all b acts (acts_of_datagram from segment)
  datagram_gives (Ok s) is =
      ap gives_of (came_owes b acts w from s s other stands refl (is s refl)) ∙ sym (append-nil (gives_for b acts (CameFrom from s)))
  datagram_gives (Err fault) is = refl

-- once an event has come
pub behind_stands : {M : Type 0} (b : Beginning) (acts : WireActs Purpose) (event : Event) (n : NodeState M) → WireStands n.wire b acts → ComeOfPeers b acts → CanCome n event → IsRead event
    → WireStands (wire_behind event n) b (with_all acts (came_by event))
behind_stands b acts (comes.Datagram from bytes) n stands of_peers can read = datagram_stands b acts n.wire from can stands of_peers (reading bytes) read
behind_stands b acts comes.Tick n stands of_peers can read = stands_ticked b acts n.wire stands
behind_stands b acts (comes.Down node) n stands of_peers can read = stands_stopped b acts n.wire node can.0 stands
behind_stands b acts comes.Join n stands of_peers can read = stands

module _ {M : Type 0} (declared : M → Signature) (turn : M → List ValueTree → ℕ → List ValueTree → List Outcome → NextTurn) where
  -- behind what came, what is handed over
  behind : (b : Beginning) (acts : WireActs Purpose) (some more : List (WireAct Purpose)) (gives : List Give) (r : NodeState M × Outputs) → gives ≡ gives_for_all b acts some
      → Sends b (with_all (with_all acts some) more) (gives ++ gives_for_all b (with_all acts some) more) [] r → Sends b (with_all acts (some ++ more)) (gives_for_all b acts (some ++ more)) [] r
  behind b acts some more gives r same s =
      record {
        stands = subst (λ x. WireStands r.0.wire b x) (sym (with_both acts some more)) s.stands;
        of_peers = subst (ComeOfPeers b) (sym (with_both acts some more)) s.of_peers;
        gives_are = s.gives_are ∙ ap (λ l. l ++ gives_for_all b (with_all acts some) more) same ∙ sym (gives_both b acts some more);
        suspects_are = s.suspects_are;
      }

  pub step_sends : (b : Beginning) → b.first ≤ never_used → (acts : WireActs Purpose) (at : ℕ) (event : Event) (n : NodeState M) (r : NodeState M × Outputs)
      → WireStands n.wire b acts → ComeOfPeers b acts → CanCome n event → IsRead event → step_node declared turn at event n ≡ Ok r
      → Sends b (with_all acts (acts_in declared turn at event n)) (gives_for_all b acts (acts_in declared turn at event n)) (suspects_in b acts event) r
  step_sends b low acts at (comes.Datagram from bytes) n r stands of_peers can read is =
      let m = hears declared turn n.deployment at from (heard_from n.wire from (reading bytes)) n.acting in
      let wire = after_datagram n.wire from (reading bytes) in
      behind b acts (acts_of_datagram from (reading bytes)) _ (gives_of (sent_by_datagram n.wire from (reading bytes))) r (datagram_gives b acts n.wire from can stands of_peers (reading bytes) read)
      (concluded_sends b low (with_all acts (acts_of_datagram from (reading bytes))) (record n { wire = wire; acting = m.acting }) (gives_of (sent_by_datagram n.wire from (reading bytes))) m r
      (datagram_stands b acts n.wire from can stands of_peers (reading bytes) read) (datagram_of b acts n.wire from can stands of_peers (reading bytes)) is)
  step_sends b low acts at comes.Tick n r stands of_peers can read is =
      subst (Sends b (followed_by acts TickAll) (gives_for_all b acts (TickAll ∷ [])) (suspects_in b acts comes.Tick)) (same_end _ r is)
      (record {
        stands = stands_ticked b acts n.wire stands;
        of_peers = (of_peers, tt);
        gives_are = ap (flat_map gives_of) (tick_owed n.wire b acts stands) ∙ sym (append-nil (gives_for b acts TickAll));
        suspects_are = suspects_owed n.wire b acts stands;
      })
  step_sends b low acts at (comes.Down node) n r stands of_peers can read is =
      let m = learns_down declared turn at node n.acting in
      concluded_sends b low (followed_by acts (StopOf node)) (record n { wire = stopped_at n.wire node; acting = m.acting }) [] m r
      (stands_stopped b acts n.wire node can.0 stands) (of_peers, tt) is
  step_sends b low acts at comes.Join n r stands of_peers can read is =
      let m = is_told_to_join declared turn at n.acting in
      concluded_sends b low acts (record n { acting = m.acting }) [] m r stands of_peers is

  -- a step in which no number is left
  pub step_spends : (b : Beginning) → b.first ≤ never_used → (acts : WireActs Purpose) (at : ℕ) (event : Event) (n : NodeState M) (peer : ℕ)
      → WireStands n.wire b acts → ComeOfPeers b acts → CanCome n event → IsRead event → step_node declared turn at event n ≡ Err peer
      → IsSpent b (with_all acts (acts_in declared turn at event n)) peer
  step_spends b low acts at (comes.Datagram from bytes) n peer stands of_peers can read is =
      let m = hears declared turn n.deployment at from (heard_from n.wire from (reading bytes)) n.acting in
      let wire = after_datagram n.wire from (reading bytes) in
      subst (λ x. IsSpent b x peer) (sym (with_both acts (acts_of_datagram from (reading bytes)) (flat_map (handed_by wire) m.came.effects)))
      (concluded_spent b low (with_all acts (acts_of_datagram from (reading bytes))) (record n { wire = wire; acting = m.acting }) (gives_of (sent_by_datagram n.wire from (reading bytes))) m peer
      (datagram_stands b acts n.wire from can stands of_peers (reading bytes) read) (datagram_of b acts n.wire from can stands of_peers (reading bytes)) is)
  step_spends b low acts at comes.Tick n peer stands of_peers can read is = absurd (let clash : tick_node n ≡ Err peer = is in cc)
  step_spends b low acts at (comes.Down node) n peer stands of_peers can read is =
      let m = learns_down declared turn at node n.acting in
      concluded_spent b low (followed_by acts (StopOf node)) (record n { wire = stopped_at n.wire node; acting = m.acting }) [] m peer
      (stands_stopped b acts n.wire node can.0 stands) (of_peers, tt) is
  step_spends b low acts at comes.Join n peer stands of_peers can read is =
      let m = is_told_to_join declared turn at n.acting in
      concluded_spent b low acts (record n { acting = m.acting }) [] m peer stands of_peers is

  module _ (first : M → List ValueTree) where
    pub boot_spends : (d : Deployment) (hosted : Option M) (node peer : ℕ) → node < length d.nodes → boot_node declared turn first d hosted node ≡ Err peer
        → IsSpent (beginning_of d node) (with_all begun (acts_at_boot declared turn first d hosted node)) peer
    boot_spends d hosted node peer within is =
        let m = made_at_boot declared turn first d (home_of d node) hosted in
        concluded_spent (beginning_of d node) (omega arith) begun (record { deployment = d; wire = fresh_wire d node; acting = m.acting; dropped = 0 }) [] m peer
        (stands_begun (beginning_of d node) (fresh_wire d node) within refl) tt is

    pub boot_sends : (d : Deployment) (hosted : Option M) (node : ℕ) (r : NodeState M × Outputs) → node < length d.nodes
        → boot_node declared turn first d hosted node ≡ Ok r
        → Sends (beginning_of d node) (with_all begun (acts_at_boot declared turn first d hosted node)) (gives_for_all (beginning_of d node) begun (acts_at_boot declared turn first d hosted node)) [] r
    boot_sends d hosted node r within is =
        let m = made_at_boot declared turn first d (home_of d node) hosted in
        concluded_sends (beginning_of d node) (omega arith) begun (record { deployment = d; wire = fresh_wire d node; acting = m.acting; dropped = 0 }) [] m r
        (stands_begun (beginning_of d node) (fresh_wire d node) within refl) tt is
