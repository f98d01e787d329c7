-- Worlds of programs whose modules agree, as lines have led to them.
use Rattle.std.specs.Prelude.{◌≡◌, ℕ, List, Option, Ok, map}
use Rattle.circus_value.specs.ValueTree.{ValueTree}
use Rattle.circus_value.specs.declared.outcome.Outcome.{Outcome}
use Rattle.circus_collate.specs.Deployment.{IsDeployment}
use Rattle.circus_collate.specs.declared.deployment.Deployment.{Deployment}
use Rattle.circus_model.specs.NextTurn.{NextTurn}
use Rattle.circus_model.specs.Behaviour.{Behaviour, behaviours}
use Rattle.circus_model.specs.Agree.{Agree, AreModules}
use Rattle.circus_model.specs.declared.signature.Signature.{Signature}
use Rattle.circus_node.specs.Booting.{AreOfTroupes}
use Rattle.circus_schedule.specs.declared.line.Line.{Line}
use Rattle.circus_node.specs.Alike.{declared_of, turn_of, first_of}
use Rattle.circus_world.specs.WorldState.{WorldState}
use Rattle.circus_world.specs.Boot.{before_any, all_booted, AreHosted}
use Rattle.circus_world.specs.Lines.{Lead}

-- modules that agree boot on the nodes of a deployment, and lines lead from there to a world
module _ {M : Type 0} (declared : M → Signature) (turn : M → List ValueTree → ℕ → List ValueTree → List Outcome → NextTurn) (first : M → List ValueTree) where
  pub record IsWorldOf (d : Deployment) (modules : List M) (hosted : List (Option M)) (lines : List Line) (booted last : WorldState M) : Type 0 where
    pub deployment : IsDeployment d
    pub troupes : AreOfTroupes d (map declared modules)
    pub agree : Agree (behaviours declared turn first modules)
    pub hosts : AreHosted declared turn first d modules hosted
    pub boots : all_booted declared turn first hosted (before_any d modules) ≡ Ok booted
    pub leads : Lead declared turn lines booted last

-- the same of behaviours that keep to the laws of modules
pub record IsPlainWorldOf (d : Deployment) (program : List Behaviour) (hosted : List (Option Behaviour)) (lines : List Line) (booted last : WorldState Behaviour) : Type 0 where
  pub deployment : IsDeployment d
  pub troupes : AreOfTroupes d (map declared_of program)
  pub modules : AreModules program
  pub agree : Agree program
  pub hosts : AreHosted declared_of turn_of first_of d program hosted
  pub boots : all_booted declared_of turn_of first_of hosted (before_any d program) ≡ Ok booted
  pub leads : Lead declared_of turn_of lines booted last
