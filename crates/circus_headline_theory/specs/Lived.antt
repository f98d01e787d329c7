-- The trace of a node that lives, as its steps make it.
use Rattle.std.specs.Prelude.{ℕ, List, [], ◌∷◌, Some, Ok, Err}
use Rattle.circus_value.specs.ValueTree.{ValueTree}
use Rattle.circus_value.specs.declared.outcome.Outcome.{Outcome}
use Rattle.circus_collate.specs.declared.deployment.Deployment.{Deployment}
use Rattle.circus_model.specs.NextTurn.{NextTurn}
use Rattle.circus_model.specs.declared.signature.Signature.{Signature}
use Rattle.circus_node.specs.NodeState.{NodeState}
use Rattle.circus_node.specs.Step as step
use Rattle.circus_node.specs.Step.{Ended}
use Rattle.circus_node.specs.declared.event.Outputs.{Outputs}
use Rattle.circus_node.specs.Trace.{effects_in, effects_at_boot, Trace, booted, stepped}
use Rattle.circus_world_theory.specs.NodeLives.{Events}

module _ {M : Type 0} where
  -- and then behind other events, if the step came to an end
  abbrev pub then_on : (Trace → NodeState M → Trace) → Trace → (Outputs → Trace) → Ended M → Trace
  then_on others t grown (Ok ended) = others (grown ended.1) ended.0
  then_on others t grown (Err node) = t

module _ {M : Type 0} (declared : M → Signature) (turn : M → List ValueTree → ℕ → List ValueTree → List Outcome → NextTurn) where
  abbrev pub with_events : Trace → Events → NodeState M → Trace
  with_events t [] n = t
  with_events t (next ∷ events) n =
      then_on (λ grown after. with_events grown events after) t
      (stepped t next.0 next.1 (effects_in declared turn next.0 next.1 n))
      (step.step_node declared turn next.0 next.1 n)

  -- from boot on, where a node hosts this and gives that at boot
  abbrev pub trace_behind : (M → List ValueTree) → Deployment → M → ℕ → Outputs → Events → NodeState M → Trace
  trace_behind first d own node outputs events begun =
      with_events (booted (effects_at_boot declared turn first d (Some own) node) outputs) events begun
