use Rattle.std.proofs.Common.{◌≡◌, ◌+◌, ◌≤◌, ◌++◌, drop, length, map}
use Rattle.std.specs.List.{flat_map}
use Rattle.circus_limits.specs.Limits.{most_nodes}
use Rattle.circus_deployment.specs.Nodes.{hosts_of, numbered_from, number_troupes}
use Rattle.circus_deployment.specs.Seen.{numbered_as}
use Rattle.circus_deployment.proofs.meaning.number_troupes.Given as goal

-- what is made so far and of what is left, whose nodes are few
abbrev pub invariant-loop-troupe : goal.invariant-loop-troupe
invariant-loop-troupe l = record {
  made : map numbered_as l.numbered.items ++ numbered_from l.first (drop l.troupe-index l.texts) ≡ number_troupes l.texts;
  few : l.first + length (flat_map hosts_of (drop l.troupe-index l.texts)) ≤ most_nodes;
}
