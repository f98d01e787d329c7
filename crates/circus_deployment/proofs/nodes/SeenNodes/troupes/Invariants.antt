use Rattle.std.proofs.Common.{◌≡◌, drop}
use Rattle.std.specs.List.{flat_map}
use Rattle.circus_fault.specs.Least.{least_from}
use Rattle.circus_deployment.specs.Rank.{rank_of}
use Rattle.circus_deployment.specs.Nodes.{hosts_of}
use Rattle.circus_deployment.specs.Faults.{nodes_faults}
use Rattle.circus_deployment.specs.Seen.{before_of}
use Rattle.circus_deployment.proofs.nodes.SeenNodes.troupes.Given as goal

-- the nodes of the troupes that are left decide with what is kept
abbrev pub invariant-loop-troupe : goal.invariant-loop-troupe
invariant-loop-troupe l =
    least_from rank_of l.best.fault (nodes_faults (before_of l.self) (flat_map hosts_of (drop l.troupe-index l.troupes))) ≡ least_from rank_of l.fn.best.fault (nodes_faults (before_of l.fn.self) (flat_map hosts_of l.troupes))
