use Rattle.std.proofs.Common.{take, map}
use Rattle.circus_picture.specs.Deeds.{deeds_of}
use Rattle.circus_picture.specs.Seen.Kept.{AreKept}
use Rattle.circus_picture.proofs.deeds.deeds_of.Given as goal

-- the deeds of the nodes before this one are kept
abbrev pub invariant-loop-node : goal.invariant-loop-node
invariant-loop-node g l = AreKept l.count (deeds_of 0 (take l.node l.world.nodes)) (map (λ own. own.items) l.steps.items)
