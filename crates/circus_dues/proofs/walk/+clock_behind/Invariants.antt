use Rattle.std.proofs.Common.{length}
use Rattle.circus_dues.proofs.walk.+clock_behind.Given as goal

abbrev pub decreases-clock_behind : goal.decreases-clock_behind
decreases-clock_behind l = length l.asks.now
