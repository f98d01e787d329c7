use Rattle.std.proofs.Common.{◌≡◌, ◌-◌, ◌≤◌, length, drop}
use Rattle.circus_dues.specs.Seen.Steps as steps
use Rattle.circus_dues.proofs.walk.are_asked_in_order.Given as goal

-- the asks that are left decide
abbrev pub invariant-loop-place : goal.invariant-loop-place
invariant-loop-place l = (l.place ≤ length l.asks) × (steps.asks_in_order l.step (drop l.place l.asks) ≡ steps.asks_in_order l.started l.asks)

abbrev pub decreases-loop-place : goal.decreases-loop-place
decreases-loop-place l = length l.asks - l.place
