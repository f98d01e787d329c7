use Rattle.std.proofs.Common.{◌≡◌, ◌++◌, map, drop}
use Rattle.circus_collate.specs.declared.deployment.Host.{Host}
use Rattle.circus_node.proofs.home.troupes_of.Given as goal

-- the troupes so far stand in front of those that are left
abbrev pub invariant-loop-node : goal.invariant-loop-node
invariant-loop-node l =
    map (λ (h : Host). h.module) l.nodes ≡ l.troupes ++ map (λ (h : Host). h.module) (drop l.node-index l.nodes)
