-- What clauses see of a world that has just booted.
use Rattle.std.specs.Prelude.{◌≡◌, All, IsAscii, length}
use Rattle.circus_model.specs.Behaviour.{Behaviour}
use Rattle.circus_machine.specs.declared.text.TextModule.{TextModule}
use Rattle.circus_record.specs.Naming.{host_name}
use Rattle.circus_config.specs.declared.plan.Plan.{Plan}
use Rattle.circus_plan_modules.specs.Seen.Behaving.{declared_signature, turn, first}
use Rattle.circus_world.specs.WorldState.{WorldState}
use Rattle.circus_world.specs.Alike.{world_as}
use Rattle.circus_simulation.specs.Sampled.{IsUntouched}
use Rattle.circus_simulation.specs.declared.simulated.Simulated.{Simulated}

-- a world, by what its modules do
abbrev pub world_of : WorldState TextModule → WorldState Behaviour
world_of w = world_as declared_signature turn first w

-- it has just booted; names are ASCII
pub record IsFresh (s : Simulated) : Type 0 where
  pub deployed : s.world.deployment.nodes ≡ s.hosts
  pub nodes : length s.world.nodes ≡ length s.hosts
  pub steps : s.world.steps ≡ 0
  pub untouched : IsUntouched s.world
  pub ascii : All (λ h. IsAscii (host_name h)) s.hosts
  pub named : All IsAscii s.names

-- with the nodes and the names of a plan
pub record IsOfPlan (plan : Plan) (s : Simulated) : Type 0 where
  pub hosts : s.hosts ≡ plan.deployment.nodes
  pub names : s.names ≡ plan.names
  pub fresh : IsFresh s
