-- How code is seen: what is kept of nodes, troupes with the numbers of their nodes, and numbers that are kept as words.
use Rattle.std.specs.Prelude.{ℕ, ◌+◌, min, List, option_map}
use Rattle.circus_fault.specs.Known.{Known}
use Rattle.circus_fault.specs.Seen.Tables.{known_of, holds_number}
use Rattle.circus_type.specs.Limits.{greatest_word}
use Rattle.circus_lang.specs.ModuleTree.{ModuleTree}
use Rattle.circus_troupe.specs.declared.deployment_text.DeploymentText.{DeploymentText}
use Rattle.circus_collate.specs.declared.deployment.Deployment.{Deployment}
use Rattle.circus_limits.specs.Limits.{most_nodes}
use Rattle.circus_deployment.specs.declared.nodes.SeenNodes.{SeenNodes}
use Rattle.circus_deployment.specs.declared.meaning.NumberedTroupe.{NumberedTroupe}
use Rattle.circus_deployment.specs.Nodes.{Numbered, number_troupes, module_numbers, troupe_numbers}
use Rattle.circus_deployment.specs.Faults.{Before}
use Rattle.circus_deployment.specs.Meaning.{nodes_meant, troupes_meant}

abbrev pub before_of : SeenNodes → Before
before_of s = record { names = known_of s.names; ports = holds_number s.ports; count = s.count }

-- with a count that stops one above the limit
abbrev pub as_counted : Before → Before
as_counted before = record { names = before.names; ports = before.ports; count = min before.count (most_nodes + 1) }

abbrev pub numbered_as : NumberedTroupe → Numbered
numbered_as n = record { troupe = n.troupe.now; first = n.first }

-- numbers that stop at the greatest word
abbrev pub as_words : Known → Known
as_words numbers name = option_map (λ number. min number greatest_word) (numbers name)

-- what a deployment means, where the numbers of modules are kept so
abbrev pub deployment_made : List ModuleTree → ℕ → DeploymentText → Deployment
deployment_made modules format d = record {
  troupes = troupes_meant (number_troupes d.troupes) (troupe_numbers d.troupes) modules;
  nodes = nodes_meant (as_words (module_numbers modules)) d;
  format = format;
}
