-- What a deployment means: the nodes in the order of the text, and the troupes in that of their modules.
use Rattle.std.specs.Prelude.{ℕ, ◌+◌, List, [], ◌∷◌, map, length, Option, None, option_map, option_and_then, option_to_list, slice_get}
use Rattle.std.proofs.Common.{zero, suc}
use Rattle.std.specs.List.{flat_map}
use Rattle.circus_fault.specs.Known.{Known}
use Rattle.circus_lang.specs.ModuleTree.{ModuleTree}
use Rattle.circus_troupe.specs.declared.deployment_text.WrittenKind.{WrittenKind}
use Rattle.circus_troupe.specs.declared.deployment_text.WrittenKind.TheVariants as written
use Rattle.circus_troupe.specs.declared.deployment_text.HostText.{HostText}
use Rattle.circus_troupe.specs.declared.deployment_text.TroupeText.{TroupeText}
use Rattle.circus_troupe.specs.declared.deployment_text.DeploymentText.{DeploymentText}
use Rattle.circus_collate.specs.declared.kind.Kind.{Kind}
use Rattle.circus_collate.specs.declared.kind.Kind.TheVariants.{First, Majority, Unanimous, AtLeast, Watchdog}
use Rattle.circus_collate.specs.declared.deployment.Troupe.{Troupe}
use Rattle.circus_collate.specs.declared.deployment.Host.{Host}
use Rattle.circus_collate.specs.declared.deployment.Deployment.{Deployment}
use Rattle.circus_deployment.specs.Nodes.{Numbered, spares_of, hosts_of, ringmaster_host, number_troupes, module_numbers, troupe_numbers}

abbrev pub kind_of : WrittenKind → Kind
kind_of written.First = First
kind_of written.Majority = Majority
kind_of written.Unanimous = Unanimous
kind_of (written.AtLeast n) = AtLeast n.value
kind_of written.Watchdog = Watchdog

-- a node that hosts a member of this module
abbrev pub host_meant : Option ℕ → HostText → Host
host_meant «module» h = record { name = h.name.name; port = h.port.value; «module» = «module» }

-- the number of a troupe's module
abbrev pub module_of_troupe : Known → TroupeText → Option ℕ
module_of_troupe modules t = modules t.name.name

abbrev pub hosts_meant : Known → TroupeText → List Host
hosts_meant modules t = map (host_meant (module_of_troupe modules t)) (hosts_of t)

abbrev pub nodes_meant : Known → DeploymentText → List Host
nodes_meant modules d = host_meant None (ringmaster_host d.ringmaster) ∷ flat_map (hosts_meant modules) d.troupes

-- so many numbers from this one on
abbrev pub numbers_from : ℕ → ℕ → List ℕ
numbers_from first zero = []
numbers_from first (suc more) = first ∷ numbers_from (first + 1) more

-- the troupe of a module
abbrev pub troupe_meant : ModuleTree → Numbered → Troupe
troupe_meant m n = record {
  root = m.root;
  calls = kind_of n.troupe.calls.kind;
  replies = kind_of n.troupe.replies.kind;
  founders = numbers_from n.first (length n.troupe.members);
  spares = numbers_from (n.first + length n.troupe.members) (length (spares_of n.troupe));
}

-- the troupe of this number, if the module has one
abbrev pub troupe_at : List Numbered → Option ℕ → Option Numbered
troupe_at troupes number = option_and_then (λ k. slice_get troupes k) number

-- the troupes of modules, by their numbers and their names
abbrev pub troupes_meant : List Numbered → Known → List ModuleTree → List Troupe
troupes_meant troupes numbers modules =
    flat_map (λ (m : ModuleTree). option_to_list (option_map (troupe_meant m) (troupe_at troupes (numbers m.name.name)))) modules

abbrev pub deployment_meant : List ModuleTree → ℕ → DeploymentText → Deployment
deployment_meant modules format d = record {
  troupes = troupes_meant (number_troupes d.troupes) (troupe_numbers d.troupes) modules;
  nodes = nodes_meant (module_numbers modules) d;
  format = format;
}
