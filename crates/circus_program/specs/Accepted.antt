-- What an audit accepts that a served node wrote.
use Rattle.std.specs.Prelude.{ℕ, ◌≡◌, ◌<◌, ◌^◌, List, length, map, All, Ok}
use Rattle.std.specs.List.{AllByRecursion}
use Rattle.circus_text.specs.Form.{IsWord}
use Rattle.circus_check.specs.Meaning.{ModuleMeant}
use Rattle.circus_check.specs.Resolved.{module_as}
use Rattle.circus_model.specs.Behaviour.{Behaviour}
use Rattle.circus_node.specs.Alike.{declared_of, turn_of}
use Rattle.circus_node.specs.NodeState.{NodeState}
use Rattle.circus_node.specs.declared.event.Outputs.{Outputs}
use Rattle.circus_serve.specs.Answers.{IsServed}
use Rattle.circus_serve.specs.Outside.{Tells}
use Rattle.circus_serve.specs.Recorded.{Recorded}
use Rattle.circus_node_command.specs.NodeEnds.{booted_node}
use Rattle.circus_value.specs.Parts.{AreOctets}
use Rattle.circus_outside.specs.declared.link.TakenFrom.{TakenFrom}
use Rattle.circus_outside.specs.declared.link.TakenFrom.TheVariants.{From, Nothing}
use Rattle.circus_audit.specs.declared.given.Given.{Given}
use Rattle.circus_config.specs.declared.plan.Plan.{Plan}
use Rattle.circus_plan_modules.specs.Loaded.{behaviours_in}
use Rattle.circus_verdict.specs.Audited.{IsAudited}
use Rattle.circus_program.specs.Audit.{IsRecord}

-- what is taken is bytes, from a port
abbrev pub IsFromPort : TakenFrom → Type 0
IsFromPort (From port bytes) = (port < 2 ^ 16) × AreOctets bytes
IsFromPort Nothing = Unit {0}

-- a text is a record of a node of the plan, with no bad line, and what it says is audited
pub record IsAccepted (plan : Plan) (text : List ℕ) : Type 0 where
  pub given : Given
  pub is_record : IsRecord plan text given
  pub audited : IsAudited plan.deployment (behaviours_in plan) given

-- the names of the modules of a plan are those that it keeps apart, and words
pub record HasModuleNames (plan : Plan) : Type 0 where
  pub names : plan.names ≡ map (λ (m : ModuleMeant). m.name) (map module_as plan.checked.modules)
  pub words : AllByRecursion IsWord plan.names

-- a node of a plan was served for so many takes, where the link tells this before and after; and where what was taken is bytes, from
-- ports, the text is accepted, if an audit reads so long a one
pub record IsAcceptedOf (plan : Plan) (node turns : ℕ) (old new : Tells) (text : List ℕ) : Type 0 where
  pub recorded : Recorded Behaviour
  pub boot : NodeState Behaviour × Outputs
  pub booted_is : booted_node plan node ≡ Ok boot
  pub served : IsServed declared_of turn_of plan.deployment node boot.0 boot.1.gives turns old new recorded
  pub accepted : All IsFromPort served.takes → length text < 4294967295 → IsAccepted plan text
