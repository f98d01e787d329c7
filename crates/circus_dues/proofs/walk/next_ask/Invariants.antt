use Rattle.std.proofs.Common.{◌≡◌, ◌-◌, ◌≤◌, length, drop}
use Rattle.circus_dues.specs.Seen.Steps as steps
use Rattle.circus_dues.proofs.walk.next_ask.Given as goal

-- the threads of the asks so far had no calls left
abbrev pub invariant-loop-number : goal.invariant-loop-number
invariant-loop-number l =
    (l.number ≤ length l.run.asks)
    × (steps.next_ask l.number l.clock (drop l.number l.run.asks) ≡ steps.next_ask l.from (steps.clock_at l.run l.from) (drop l.from l.run.asks))

abbrev pub decreases-loop-number : goal.decreases-loop-number
decreases-loop-number l = length l.run.asks - l.number
