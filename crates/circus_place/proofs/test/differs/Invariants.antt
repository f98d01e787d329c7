use Rattle.std.proofs.Common.{◌≡◌, length}
use Rattle.circus_place.specs.Seen.Test.{differs}
use Rattle.circus_place.proofs.test.differs.Given as goal

-- the machines that are left decide
abbrev pub invariant-loop-first : goal.invariant-loop-first
invariant-loop-first l = differs l.has l.same l.machines ≡ differs l.has l.same l.left

abbrev pub decreases-loop-first : goal.decreases-loop-first
decreases-loop-first l = length l.left
