-- A served node in which the behaviour of its module stands for the module.
use Rattle.std.specs.Prelude.{ℕ, List}
use Rattle.circus_value.specs.ValueTree.{ValueTree}
use Rattle.circus_value.specs.declared.outcome.Outcome.{Outcome}
use Rattle.circus_model.specs.NextTurn.{NextTurn}
use Rattle.circus_model.specs.Behaviour.{Behaviour}
use Rattle.circus_model.specs.declared.signature.Signature.{Signature}
use Rattle.circus_node.specs.Alike.{node_as}
use Rattle.circus_serve.specs.Serving.{Served, Progress, on, spent}
use Rattle.circus_serve.specs.Recorded.{Recorded}

module _ {M : Type 0} (declared : M → Signature) (turn : M → List ValueTree → ℕ → List ValueTree → List Outcome → NextTurn) (first : M → List ValueTree) where
  abbrev pub served_as : Served M → Served Behaviour
  served_as s = record { node = node_as declared turn first s.node; next = s.next; happened = s.happened }

  abbrev pub progress_as : Progress M → Progress Behaviour
  progress_as (on s) = on (served_as s)
  progress_as (spent node happened) = spent node happened

  -- its record
  abbrev pub recorded_as : Recorded M → Recorded Behaviour
  recorded_as recorded = record { happened = recorded.happened; node = node_as declared turn first recorded.node }
