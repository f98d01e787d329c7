-- Deployments in which every number is one of one word, as in one without a fault.
use Rattle.std.specs.Prelude.{List}
use Rattle.std.specs.List.{AllByRecursion}
use Rattle.circus_type.specs.InRange.{IsOneWord}
use Rattle.circus_troupe.specs.declared.deployment_text.WrittenKind.{WrittenKind}
use Rattle.circus_troupe.specs.declared.deployment_text.WrittenKind.TheVariants.{First, Majority, Unanimous, AtLeast, Watchdog}
use Rattle.circus_troupe.specs.declared.deployment_text.HostText.{HostText}
use Rattle.circus_troupe.specs.declared.deployment_text.TroupeText.{TroupeText}
use Rattle.circus_troupe.specs.declared.deployment_text.DeploymentText.{DeploymentText}
use Rattle.circus_deployment.specs.Nodes.{spares_of}

-- the number behind LEAST
abbrev pub IsKindInRange : WrittenKind → Type 0
IsKindInRange First = Unit {0}
IsKindInRange Majority = Unit {0}
IsKindInRange Unanimous = Unit {0}
IsKindInRange (AtLeast n) = IsOneWord n
IsKindInRange Watchdog = Unit {0}

-- the ports of nodes
abbrev pub AreHostsInRange : List HostText → Type 0
AreHostsInRange hosts = AllByRecursion (λ (h : HostText). IsOneWord h.port) hosts

pub record IsTroupeInRange (t : TroupeText) : Type 0 where
  pub calls : IsKindInRange t.calls.kind
  pub replies : IsKindInRange t.replies.kind
  pub members : AreHostsInRange t.members
  pub spares : AreHostsInRange (spares_of t)

pub record IsInRange (d : DeploymentText) : Type 0 where
  pub ringmaster : IsOneWord d.ringmaster.port
  pub troupes : AllByRecursion IsTroupeInRange d.troupes
