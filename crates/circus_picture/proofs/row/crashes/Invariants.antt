use Rattle.std.proofs.Common.{◌≡◌, take, map}
use Rattle.circus_picture.proofs.row.crashes.Given as goal

-- those of the nodes before this one
abbrev pub invariant-loop-node : goal.invariant-loop-node
invariant-loop-node g l = l.crashes ≡ map (λ s. s.crashed) (take l.node l.world.nodes)
