-- The answer that a fault gives.
use Rattle.std.specs.Prelude.{ℕ, List, [], Option, unwrap_or}
use Rattle.circus_fault.specs.declared.fault.Fault.{Fault}
use Rattle.circus_deployment.specs.declared.cause.Cause.{Cause}
use Rattle.circus_deployment.specs.declared.cause.Cause.TheVariants as cause
use Rattle.circus_deployment.specs.declared.deployment_fault.DeploymentFault.{DeploymentFault}
use Rattle.circus_deployment.specs.declared.deployment_fault.DeploymentFault.TheVariants.{Unknown, Repeated, OutOfRange, Missing, TooMany}

-- where this module has no troupe
abbrev pub answer_at : Option (List ℕ) → ℕ → Cause → DeploymentFault
answer_at lacks place cause.Unknown = Unknown place
answer_at lacks place cause.Repeated = Repeated place
answer_at lacks place cause.OutOfRange = OutOfRange place
answer_at lacks place cause.Missing = Missing place (unwrap_or lacks [])
answer_at lacks place cause.TooMany = TooMany place

abbrev pub answer_of : Option (List ℕ) → Fault Cause → DeploymentFault
answer_of lacks f = answer_at lacks f.place f.cause
