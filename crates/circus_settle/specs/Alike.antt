-- A world that has settled, in which behaviours stand for modules.
use Rattle.std.specs.Prelude.{ℕ, List, Ok, Err}
use Rattle.circus_value.specs.ValueTree.{ValueTree}
use Rattle.circus_value.specs.declared.outcome.Outcome.{Outcome}
use Rattle.circus_model.specs.NextTurn.{NextTurn}
use Rattle.circus_model.specs.Behaviour.{Behaviour}
use Rattle.circus_model.specs.declared.signature.Signature.{Signature}
use Rattle.circus_world.specs.Alike.{world_as}
use Rattle.circus_settle.specs.Settled.{Settling}

module _ {M : Type 0} (declared : M → Signature)
    (turn : M → List ValueTree → ℕ → List ValueTree → List Outcome → NextTurn)
    (first : M → List ValueTree) where
  abbrev pub settling_as : Settling M → Settling Behaviour
  settling_as (Ok done) =
      Ok (record { world = world_as declared turn first done.world; given = done.given })
  settling_as (Err nodes) = Err nodes
