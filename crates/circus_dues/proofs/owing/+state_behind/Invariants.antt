use Rattle.std.proofs.Common.{length}
use Rattle.circus_dues.proofs.owing.+state_behind.Given as goal

abbrev pub decreases-state_behind : goal.decreases-state_behind
decreases-state_behind l = length l.runs.now
