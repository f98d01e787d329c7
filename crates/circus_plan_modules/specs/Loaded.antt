-- What the modules of a plan do.
use Rattle.std.specs.Prelude.{List, map, slice_get, Option, option_and_then}
use Rattle.circus_collate.specs.declared.deployment.Host.{Host}
use Rattle.circus_model.specs.Behaviour.{Behaviour}
use Rattle.circus_check.specs.Resolved.{module_as}
use Rattle.circus_modules.specs.Behaviours.{program_of}
use Rattle.circus_config.specs.declared.plan.Plan.{Plan}
use Rattle.circus_limits.specs.Limits.{limit_of}

-- one for each troupe, in their order
abbrev pub behaviours_in : Plan → List Behaviour
behaviours_in plan = program_of (limit_of plan.deployment.format) plan.checked.interfaces (map module_as plan.checked.modules)

-- the module that a node hosts, of those of the troupes
abbrev pub hosted_by : {M : Type 0} → List M → Host → Option M
hosted_by modules host = option_and_then (slice_get modules) host.module
