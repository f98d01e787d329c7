-- What a node lived through: what came to it in each step, what it made of that, and what it gave.
use Rattle.std.specs.Prelude.{◌≡◌, ℕ, List, [], Option, Ok}
use Rattle.circus_value.specs.ValueTree.{ValueTree}
use Rattle.circus_value.specs.declared.outcome.Outcome.{Outcome}
use Rattle.circus_segment.specs.Segment.{reading}
use Rattle.circus_collate.specs.declared.deployment.Deployment.{Deployment}
use Rattle.circus_model.specs.NextTurn.{NextTurn}
use Rattle.circus_model.specs.declared.signature.Signature.{Signature}
use Rattle.circus_wire.specs.Wire.{heard_from}
use Rattle.circus_member_rules.specs.declared.occurrence.Effect.{Effect}
use Rattle.circus_node.specs.declared.event.Event.{Event}
use Rattle.circus_node.specs.declared.event.Event.TheVariants.{Datagram, Tick, Down, Join}
use Rattle.circus_node.specs.declared.event.Outputs.{Outputs}
use Rattle.circus_node.specs.NodeState.{NodeState}
use Rattle.circus_node.specs.Making.{hears, learns_down, is_told_to_join}
use Rattle.circus_node.specs.Booting as booting
use Rattle.circus_node.specs.Booting.{home_of, made_at_boot}
use Rattle.circus_node.specs.Step as step

-- oldest first; boot is step 0
pub data Trace : Type 0 where
  booted : (made : List Effect) → (outputs : Outputs) → Trace
  stepped : Trace → (at : ℕ) → Event → (made : List Effect) → (outputs : Outputs) → Trace

module _ {M : Type 0} (declared : M → Signature) (turn : M → List ValueTree → ℕ → List ValueTree → List Outcome → NextTurn) where
  -- the calls and returns that a node makes in a step
  abbrev pub effects_in : ℕ → Event → NodeState M → List Effect
  effects_in at (Datagram from bytes) n = (hears declared turn n.deployment at from (heard_from n.wire from (reading bytes)) n.acting).came.effects
  effects_in at Tick n = []
  effects_in at (Down node) n = (learns_down declared turn at node n.acting).came.effects
  effects_in at Join n = (is_told_to_join declared turn at n.acting).came.effects

  module _ (first : M → List ValueTree) where
    -- those that it makes at boot
    abbrev pub effects_at_boot : Deployment → Option M → ℕ → List Effect
    effects_at_boot d hosted node = (made_at_boot declared turn first d (home_of d node) hosted).came.effects

    -- a node of a program that hosts this has lived through a trace, from boot on
    abbrev pub StandsFor : Deployment → Option M → ℕ → Trace → NodeState M → Type 0
    StandsFor d hosted node (booted made outputs) n =
        (booting.boot_node declared turn first d hosted node ≡ Ok (n, outputs)) × (made ≡ effects_at_boot d hosted node)
    StandsFor d hosted node (stepped t at event made outputs) n =
        (before : NodeState M) × StandsFor d hosted node t before
        × (step.step_node declared turn at event before ≡ Ok (n, outputs)) × (made ≡ effects_in at event before)
