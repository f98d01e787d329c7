use Rattle.std.proofs.Common.{ℕ, ◌<◌}
use Rattle.std.specs.List.{HoldsAt}
use Rattle.circus_world_theory.specs.Quiet.{IsDelivery}
use Rattle.circus_settle.proofs.quietness.are_deliveries.Given as goal

-- the lines before this one are deliveries
abbrev pub invariant-loop-line : goal.invariant-loop-line
invariant-loop-line l = (k : ℕ) → k < l.line-index → HoldsAt IsDelivery l.lines k
