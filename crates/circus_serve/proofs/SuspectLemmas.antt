-- The nodes that are suspected are other ones.
use Rattle.std.proofs.Common.{◌≡◌, ℕ, zero, suc, ◌+◌, ◌<◌, ◌≤◌, Bool, true, false, not, ◌&&◌, nat_lt, if◌then◌else◌, List, [], ◌∷◌, length, All, slice_get, Option, None, Some, refl, sym, subst, ◌∙◌, arith}
use Rattle.std.proofs.lemmas.Bool.{ltb-true, ltb-false}
use Rattle.std.proofs.lemmas.List.Elements.{All-nil, All-cons, All-append, All-weaker}
use Rattle.circus_exchange.specs.Exchange.{is_suspect}
use Rattle.circus_value.specs.ValueTree.{ValueTree}
use Rattle.circus_value.specs.declared.outcome.Outcome.{Outcome}
use Rattle.circus_collate.specs.declared.deployment.Deployment.{Deployment}
use Rattle.circus_model.specs.NextTurn.{NextTurn}
use Rattle.circus_model.specs.declared.signature.Signature.{Signature}
use Rattle.circus_segment.specs.Segment.{reading}
use Rattle.circus_wire.specs.Wire.{PeerState, WireState, IsOther, of_peer, node_at, suspicion, given_below, after_datagram, sent_by_datagram, heard_from, stopped_at}
use Rattle.circus_node.specs.declared.event.Event.{Event}
use Rattle.circus_node.specs.declared.event.Event.TheVariants.{Datagram, Tick, Down, Join}
use Rattle.circus_node.specs.Node.{IsNodeOf}
use Rattle.circus_node.specs.NodeState.{NodeState}
use Rattle.circus_node.specs.Making.{hears, learns_down, is_told_to_join}
use Rattle.circus_node.specs.Sending.{Sending, sent, spent, gives_of, all_handed}
use Rattle.circus_node.specs.Step as step
use Rattle.circus_serve.specs.Serving.{Served, suspects_by, suspects_in}

module _ {P : Type 0} (w : WireState P) where
  -- the node at a place among the others is another one
  is_other_at : (place : ℕ) → place < length w.peers → IsOther w (node_at w.own place)
  is_other_at place few = by_side (nat_lt place w.own) refl
    where
      by_side : (b : Bool) → nat_lt place w.own ≡ b → IsOther w (if b then place else place + 1)
      by_side true is = let below = ltb-true place w.own is in (λ same. omega (arith, below, same), omega arith)
      by_side false is = let above = ltb-false place w.own is in (λ same. omega (arith, above, same), omega arith)

  suspicion_of : (place : ℕ) → place < length w.peers → (peer : Option (PeerState P)) → All (IsOther w) (of_peer [] (suspicion (node_at w.own place)) peer)
  suspicion_of place few None = All-nil (IsOther w)
  suspicion_of place few (Some p) = by_test (not p.exchange.stopped && is_suspect p.exchange)
    where
      by_test : (b : Bool) → All (IsOther w) (if b then node_at w.own place ∷ [] else [])
      by_test true = All-cons (IsOther w) (node_at w.own place) [] (is_other_at place few) (All-nil (IsOther w))
      by_test false = All-nil (IsOther w)

  suspects_below : (place : ℕ) → place ≤ length w.peers → All (IsOther w) (given_below suspicion w place)
  unfolding given_below
  suspects_below zero few = All-nil (IsOther w)
  suspects_below (suc place) few =
      All-append (IsOther w) (given_below suspicion w place) (of_peer [] (suspicion (node_at w.own place)) (slice_get w.peers place)) (suspects_below place (omega arith))
      (suspicion_of place (omega arith) (slice_get w.peers place))

module _ {M : Type 0} where
  -- what is sent has no suspects
  none_suspected : (n : NodeState M) (came : _) (sending : Sending) → suspects_in (step.end_step n came sending) ≡ []
  none_suspected n came (sent w gives) = refl
  none_suspected n came (spent node) = refl

  pub own_node : (d : Deployment) (own : ℕ) (n : NodeState M) → IsNodeOf d own n → IsNodeOf d n.wire.own n
  own_node d own n node = subst (λ k. IsNodeOf d k n) (sym node.own) node

  -- another one for the node is another one for it afterwards
  pub still_other : (d : Deployment) (own : ℕ) (n m : NodeState M) (node : ℕ) → IsNodeOf d own n → IsNodeOf d own m → IsOther n.wire node → IsOther m.wire node
  still_other d own n m node old new other = (λ same. other.0 (same ∙ new.own ∙ sym old.own), omega (arith, other.1, old.pairs, new.pairs))

  still_others : (d : Deployment) (own : ℕ) (n m : NodeState M) (nodes : List ℕ) → IsNodeOf d own n → IsNodeOf d own m → All (IsOther n.wire) nodes → All (IsOther m.wire) nodes
  still_others d own n m nodes old new others =
      All-weaker (IsOther n.wire) (IsOther m.wire) (λ node other. still_other d own n m node old new other) nodes others

module _ {M : Type 0} (declared : M → Signature) (turn : M → List ValueTree → ℕ → List ValueTree → List Outcome → NextTurn) where
  none_here : (n m : NodeState M) (came : _) (sending : Sending) → All (IsOther n.wire) (suspects_in (step.end_step m came sending))
  none_here n m came sending = subst (All (IsOther n.wire)) (sym (none_suspected m came sending)) (All-nil (IsOther n.wire))

  suspects_are_others : (at : ℕ) (event : Event) (n : NodeState M) → All (IsOther n.wire) (suspects_in (step.step_node declared turn at event n))
  suspects_are_others at (Datagram from bytes) n =
      let segment = reading bytes in
      let made = hears declared turn n.deployment at from (heard_from n.wire from segment) n.acting in
      let wire = after_datagram n.wire from segment in
      none_here n (record n { wire = wire; acting = made.acting }) made.came (all_handed (sent wire (gives_of (sent_by_datagram n.wire from segment))) made.came.effects)
  suspects_are_others at Tick n = suspects_below n.wire (length n.wire.peers) (omega arith)
  suspects_are_others at (Down node) n =
      let made = learns_down declared turn at node n.acting in
      let wire = stopped_at n.wire node in
      none_here n (record n { wire = wire; acting = made.acting }) made.came (all_handed (sent wire []) made.came.effects)
  suspects_are_others at Join n =
      let made = is_told_to_join declared turn at n.acting in
      none_here n (record n { acting = made.acting }) made.came (all_handed (sent n.wire []) made.came.effects)

  pub suspects_others : (d : Deployment) (own : ℕ) (event : Event) (s : Served M) (m : NodeState M) (suspects : List ℕ) → IsNodeOf d own s.node → IsNodeOf d own m
      → suspects ≡ suspects_by declared turn event s → All (IsOther m.wire) suspects
  unfolding suspects_by
  suspects_others d own event s m suspects old new is =
      subst (All (IsOther m.wire)) (sym is) (still_others d own s.node m (suspects_in (step.step_node declared turn s.next event s.node)) old new (suspects_are_others s.next event s.node))
