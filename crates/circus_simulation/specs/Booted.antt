-- The world of a plan at boot.
use Rattle.std.specs.Prelude.{map, Ok, Err}
use Rattle.circus_model.specs.Behaviour.{Behaviour}
use Rattle.circus_record.specs.Naming.{Names, names_of}
use Rattle.circus_config.specs.declared.plan.Plan.{Plan}
use Rattle.circus_plan_modules.specs.Loaded.{behaviours_in, hosted_by}
use Rattle.circus_world.specs.WorldState.{WorldState}
use Rattle.circus_world.specs.Course.{Stepped}
use Rattle.circus_world.specs.Boot.{before_any, all_booted}
use Rattle.circus_commands.specs.Ending.{Ending}
use Rattle.circus_commands.specs.Spent.{end_of_spent}

-- by what its modules do
abbrev pub boot_world : Plan → Stepped Behaviour
boot_world plan =
    all_booted (λ b. b.declared) (λ b. b.turn) (λ b. b.first) (map (hosted_by (behaviours_in plan)) plan.deployment.nodes)
    (before_any plan.deployment (behaviours_in plan))

-- what the nodes and modules of a plan are called
abbrev pub names_in : Plan → Names
names_in plan = names_of plan.deployment.nodes plan.names

-- what comes after a step, unless a node has no number left
abbrev pub after_step : {M : Type 0} → Names → (WorldState M → Ending) → Stepped M → Ending
after_step names next (Ok w) = next w
after_step names next (Err nodes) = end_of_spent names nodes
