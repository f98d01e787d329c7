use Rattle.std.proofs.Common.{◌≡◌, ◌-◌, ◌≤◌, length, drop}
use Rattle.circus_dues.specs.Seen.Steps as steps
use Rattle.circus_dues.proofs.walk.is_in_order.Given as goal

-- the runs that are left decide
abbrev pub invariant-loop-place : goal.invariant-loop-place
invariant-loop-place l = (l.place ≤ length l.runs) × (steps.runs_in_order l.step (drop l.place l.runs) ≡ steps.runs_in_order 0 l.runs)

abbrev pub decreases-loop-place : goal.decreases-loop-place
decreases-loop-place l = length l.runs - l.place
