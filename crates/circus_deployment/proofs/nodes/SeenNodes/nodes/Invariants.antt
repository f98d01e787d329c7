use Rattle.std.proofs.Common.{◌≡◌, drop}
use Rattle.circus_fault.specs.Least.{least_from}
use Rattle.circus_deployment.specs.Rank.{rank_of}
use Rattle.circus_deployment.specs.Faults.{nodes_faults, behind_nodes}
use Rattle.circus_deployment.specs.Seen.{before_of, as_counted}
use Rattle.circus_deployment.proofs.nodes.SeenNodes.nodes.Given as goal

-- the nodes that are left decide with what is kept
abbrev pub invariant-loop-host : goal.invariant-loop-host
invariant-loop-host l = record {
  found : least_from rank_of l.best.fault (nodes_faults (before_of l.self) (drop l.host-index l.hosts)) ≡ least_from rank_of l.fn.best.fault (nodes_faults (before_of l.fn.self) l.hosts);
  behind : as_counted (behind_nodes (before_of l.self) (drop l.host-index l.hosts)) ≡ as_counted (behind_nodes (before_of l.fn.self) l.hosts);
}
