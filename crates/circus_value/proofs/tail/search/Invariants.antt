use Rattle.std.proofs.Common.{◌-◌, ◌<◌, ◌≤◌, length, get_or}
use Rattle.circus_value.proofs.tail.search.Given as goal

-- all before `low` were seen to be at most `at`, and what stands at `high` to be above it
abbrev pub invariant-loop-low : goal.invariant-loop-low
invariant-loop-low l = record {
  ordered : l.low ≤ l.high;
  within : l.high ≤ length l.ends;
  before : 0 < l.low → get_or l.ends (l.low - 1) 0 ≤ l.at;
  above : l.high < length l.ends → l.at < get_or l.ends l.high 0;
}

abbrev pub decreases-loop-low : goal.decreases-loop-low
decreases-loop-low l = l.high - l.low
