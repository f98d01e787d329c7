use Rattle.circus_world.proofs.BootLemmas.{HaveSome}
use Rattle.circus_world.proofs.world.boot_all.Given as goal

-- the nodes so far have booted
abbrev pub invariant-loop-node : goal.invariant-loop-node
invariant-loop-node g l = HaveSome g.M.Module.declared g.M.Module.turn g.M.Module.first l.deployment l.modules l.node l.slots.items l.sent
