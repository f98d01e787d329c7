use Rattle.std.proofs.Common.{length}
use Rattle.circus_performing.specs.Record.{behaviour}
use Rattle.circus_dues.proofs.FollowingLemmas.{IsAlong}
use Rattle.circus_dues.proofs.following.go_on.Given as goal

-- the runs that are left decide
abbrev pub invariant-loop-run : goal.invariant-loop-run
invariant-loop-run g l =
    IsAlong (behaviour g.M.Module.declared g.M.Module.turn g.M.Module.first l.«module») l.kept l.began l.state l.count l.runs

abbrev pub decreases-loop-run : goal.decreases-loop-run
decreases-loop-run g l = length l.runs
