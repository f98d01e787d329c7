use Rattle.std.proofs.Common.{length}
use Rattle.circus_dues.proofs.walk.+step_after.Given as goal

abbrev pub decreases-step_after : goal.decreases-step_after
decreases-step_after l = length l.asks.now
