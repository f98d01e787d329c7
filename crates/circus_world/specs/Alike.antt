-- A world in which behaviours stand for modules.
use Rattle.std.specs.Prelude.{ℕ, List, map, Ok, Err}
use Rattle.circus_value.specs.ValueTree.{ValueTree}
use Rattle.circus_value.specs.declared.outcome.Outcome.{Outcome}
use Rattle.circus_model.specs.NextTurn.{NextTurn}
use Rattle.circus_model.specs.Behaviour.{Behaviour}
use Rattle.circus_model.specs.declared.signature.Signature.{Signature}
use Rattle.circus_performing.specs.Record.{behaviour}
use Rattle.circus_node.specs.Alike.{node_as}
use Rattle.circus_world.specs.WorldState.{WorldState, Standing}
use Rattle.circus_world.specs.Course.{Stepped}

module _ {M : Type 0} (declared : M → Signature) (turn : M → List ValueTree → ℕ → List ValueTree → List Outcome → NextTurn) (first : M → List ValueTree) where
  abbrev pub standing_as : Standing M → Standing Behaviour
  standing_as s = record { node = node_as declared turn first s.node; crashed = s.crashed; joins = s.joins }

  abbrev pub world_as : WorldState M → WorldState Behaviour
  world_as w =
      record {
        deployment = w.deployment;
        modules = map (behaviour declared turn first) w.modules;
        nodes = map standing_as w.nodes;
        sent = w.sent;
        steps = w.steps;
      }

  -- after a step
  abbrev pub step_as : Stepped M → Stepped Behaviour
  step_as (Ok w) = Ok (world_as w)
  step_as (Err spent) = Err spent
