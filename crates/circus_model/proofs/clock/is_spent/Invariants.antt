use Rattle.std.proofs.Common.{◌≡◌, ◌<◌, take, sum}
use Rattle.circus_model.proofs.clock.is_spent.Given as goal

-- the counts so far are fewer than all calls of a thread
abbrev pub invariant-loop-count : goal.invariant-loop-count
invariant-loop-count l = record { total : l.calls ≡ sum (take l.count-index l.clock); within : l.calls < 16777216 }
