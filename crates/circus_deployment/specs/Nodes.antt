-- The nodes of a deployment as it is written, and what its names of modules and troupes stand for.
use Rattle.std.specs.Prelude.{ℕ, ◌+◌, List, [], ◌∷◌, ◌++◌, length, unwrap_or}
use Rattle.std.specs.List.{flat_map}
use Rattle.circus_fault.specs.Known.{Known, numbers_of}
use Rattle.circus_lang.specs.ModuleTree.{ModuleTree}
use Rattle.circus_troupe.specs.declared.deployment_text.HostText.{HostText}
use Rattle.circus_troupe.specs.declared.deployment_text.RingmasterText.{RingmasterText}
use Rattle.circus_troupe.specs.declared.deployment_text.TroupeText.{TroupeText}
use Rattle.circus_troupe.specs.declared.deployment_text.DeploymentText.{DeploymentText}

abbrev pub spares_of : TroupeText → List HostText
spares_of t = unwrap_or t.spares []

-- the nodes of a troupe: its members, then its spares
abbrev pub hosts_of : TroupeText → List HostText
hosts_of t = t.members ++ spares_of t

abbrev pub ringmaster_host : RingmasterText → HostText
ringmaster_host r = record { name = r.name; port = r.port }

-- all nodes, in the order of the text
abbrev pub nodes_of : DeploymentText → List HostText
nodes_of d = ringmaster_host d.ringmaster ∷ flat_map hosts_of d.troupes

-- a troupe with the number of its first node
pub record Numbered : Type 0 where
  pub troupe : TroupeText
  pub first : ℕ

-- troupes, where so many nodes stand before them
abbrev pub numbered_from : ℕ → List TroupeText → List Numbered
numbered_from first [] = []
numbered_from first (t ∷ ts) = record { troupe = t; first = first } ∷ numbered_from (first + length (hosts_of t)) ts

-- troupes behind the Ringmaster, whose node is 0
abbrev pub number_troupes : List TroupeText → List Numbered
number_troupes troupes = numbered_from 1 troupes

-- the numbers of modules by their names
abbrev pub module_numbers : List ModuleTree → Known
module_numbers modules = numbers_of (λ (m : ModuleTree). m.name.name) modules

-- the numbers of troupes by their names
abbrev pub troupe_numbers : List TroupeText → Known
troupe_numbers troupes = numbers_of (λ (t : TroupeText). t.name.name) troupes
