use Rattle.std.proofs.Common.{◌≡◌, ◌++◌, drop}
use Rattle.circus_simulation.specs.Sampled.{spares_from}
use Rattle.circus_simulation.proofs.sampling.spares_of.Given as goal

-- those that were found and those from the next node on are all
abbrev pub invariant-loop-node : goal.invariant-loop-node
invariant-loop-node g l =
    l.spares ++ spares_from l.world.deployment l.node (drop l.node l.world.nodes) ≡ spares_from l.world.deployment 0 l.world.nodes
