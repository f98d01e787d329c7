use Rattle.std.proofs.Common.{ℕ, ◌<◌}
use Rattle.circus_world_theory.specs.Quiet.{IsDelivered}
use Rattle.circus_settle.proofs.quietness.quiet.Given as goal

-- those before this number were delivered
abbrev pub invariant-loop-number : goal.invariant-loop-number
invariant-loop-number g l = (k : ℕ) → k < l.number → IsDelivered l.lines k
