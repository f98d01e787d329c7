-- A node that boots and steps stands for what it lived through.
use Rattle.std.proofs.Common.{ℕ, List, Option, Result, Ok, Err, refl}
use Rattle.std.specs.Prelude.{IfOk}
use Rattle.circus_value.specs.ValueTree.{ValueTree}
use Rattle.circus_value.specs.declared.outcome.Outcome.{Outcome}
use Rattle.circus_collate.specs.declared.deployment.Deployment.{Deployment}
use Rattle.circus_model.specs.NextTurn.{NextTurn}
use Rattle.circus_model.specs.declared.signature.Signature.{Signature}
use Rattle.circus_node.specs.declared.event.Event.{Event}
use Rattle.circus_node.specs.declared.event.Outputs.{Outputs}
use Rattle.circus_node.specs.declared.event.StepFault.{StepFault}
use Rattle.circus_node.specs.NodeState.{NodeState}
use Rattle.circus_node.specs.Step.{IsEnded}
use Rattle.circus_node.specs.Step as step
use Rattle.circus_node.specs.Booting as booting
use Rattle.circus_node.specs.Trace.{Trace, booted, stepped, effects_in, effects_at_boot, StandsFor}

module _ {M : Type 0} (declared : M → Signature) (turn : M → List ValueTree → ℕ → List ValueTree → List Outcome → NextTurn) (first : M → List ValueTree) where
  pub boot_stands : (result : Result (NodeState M × Outputs) StepFault) (d : Deployment) (hosted : Option M) (node : ℕ)
      → IsEnded result (booting.boot_node declared turn first d hosted node)
      → IfOk result (λ b. StandsFor declared turn first d hosted node (booted (effects_at_boot declared turn first d hosted node) b.1) b.0)
  boot_stands (Ok b) d hosted node is = (is, refl)
  boot_stands (Err fault) d hosted node is = tt

  pub step_stands : (result : Result (NodeState M × Outputs) StepFault) (at : ℕ) (event : Event) (n : NodeState M)
      → IsEnded result (step.step_node declared turn at event n)
      → (d : Deployment) (hosted : Option M) (node : ℕ) (t : Trace) → StandsFor declared turn first d hosted node t n
      → IfOk result (λ s. StandsFor declared turn first d hosted node (stepped t at event (effects_in declared turn at event n) s.1) s.0)
  step_stands (Ok s) at event n is d hosted node t stood = (n, stood, is, refl)
  step_stands (Err fault) at event n is d hosted node t stood = tt
