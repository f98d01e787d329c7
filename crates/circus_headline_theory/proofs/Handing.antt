-- What a trace says to be handed over is handed over: to a node that isn't down by what happened at its pair.
use Rattle.std.proofs.Common.{◌≡◌, ℕ, false, not, ◌&&◌, List, [], ◌∷◌, ◌++◌, refl, sym, ap, ◌∙◌}
use Rattle.std.specs.Prelude.{flat_map, if◌then◌else◌}
use Rattle.std.proofs.lemmas.List.Elements.{All-head, All-tail}
use Rattle.circus_collate.specs.declared.deployment.Deployment.{Deployment}
use Rattle.circus_pair.specs.Lawful.{is_stopped_after}
use Rattle.circus_wire.specs.Wire.{PeerState, WireState, Beginning, IsOther, place_of, of_peer, is_up}
use Rattle.circus_wire.specs.WireActs.{WireActs, CallTo, AnswerTo, acts_at}
use Rattle.circus_wire.specs.WireStanding.{WireStands, pair_of}
use Rattle.circus_wire.proofs.Changing.{peer_is}
use Rattle.circus_wire.proofs.Owing.{found_stands}
use Rattle.circus_wire.proofs.Performing.{other_peer}
use Rattle.circus_wire.proofs.Standing.{down_is}
use Rattle.circus_member_rules.specs.declared.occurrence.Purpose.{Purpose}
use Rattle.circus_member_rules.specs.declared.occurrence.Effect.{Effect}
use Rattle.circus_member_rules.specs.declared.occurrence.Effect.TheVariants as made
use Rattle.circus_node.specs.Sending.{is_sendable}
use Rattle.circus_world_theory.specs.Histories.{beginning_of}
use Rattle.circus_world_theory.specs.NodeActs.{handed_by}
use Rattle.circus_world_theory.proofs.Border.Hosting.{IsOtherOf}
use Rattle.circus_world_theory.proofs.Border.Reaching.{Reaches, AllReach}
use Rattle.circus_headline_theory.proofs.Datagrams.AtPairs.{other_by}
use Rattle.circus_headline_theory.specs.Trace.{handed_over}

pub up_is : (b : Beginning) (acts : WireActs Purpose) (w : WireState Purpose) (to : ℕ) → WireStands w b acts → IsOther w to → is_up w to ≡ not (is_stopped_after (acts_at (pair_of b) to acts))
up_is b acts w to stands other =
    let peer = other_peer b acts w to stands other in
    ap (of_peer false (λ (p : PeerState Purpose). not p.exchange.stopped)) (peer_is w w.own w.format w.peers to (place_of w.own to) peer.0 refl other.0 refl peer.1)
    ∙ ap not (down_is b acts to peer.0 (found_stands b acts w to peer.0 other.0 peer.1 stands))

module _ (d : Deployment) (node : ℕ) (acts : WireActs Purpose) (w : WireState Purpose) (stands : WireStands w (beginning_of d node) acts) (down : List ℕ) where
  one_as : (e : Effect) → Reaches down (IsOtherOf d node) e → handed_over (beginning_of d node) acts e ≡ handed_by w e
  one_as (made.Call to message purpose) reaches =
      let other = other_by (beginning_of d node) acts w to stands (reaches.1.1, reaches.1.0) in
      let up = sym (up_is (beginning_of d node) acts w to stands other) in
      let format = sym stands.format in
      λ j. if up j && is_sendable (format j) message then CallTo to message purpose ∷ [] else []
  one_as (made.Answer caller message) reaches = (let format = sym stands.format in λ j. if is_sendable (format j) message then AnswerTo caller message ∷ [] else [])

  pub handed_as : (effects : List Effect) → AllReach down (IsOtherOf d node) effects → flat_map (handed_over (beginning_of d node) acts) effects ≡ flat_map (handed_by w) effects
  handed_as [] all = refl
  handed_as (e ∷ effects) all =
      let one = one_as e (All-head (Reaches down (IsOtherOf d node)) e effects all) in
      let rest = handed_as effects (All-tail (Reaches down (IsOtherOf d node)) e effects all) in
      λ j. one j ++ rest j
