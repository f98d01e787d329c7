use Rattle.std.proofs.Common.{length}
use Rattle.circus_performing.specs.Record.{behaviour}
use Rattle.circus_dues.proofs.FollowingLemmas.{IsPassing}
use Rattle.circus_dues.proofs.following.is_run_of.Given as goal

-- the turn is that on the replies so far, and the asks that are left decide
abbrev pub invariant-loop-ask : goal.invariant-loop-ask
invariant-loop-ask g l =
    IsPassing (g.M.Module.stands l.«module») (behaviour g.M.Module.declared g.M.Module.turn g.M.Module.first l.«module») l.state l.run l.turn l.clock l.step l.asks

abbrev pub decreases-loop-ask : goal.decreases-loop-ask
decreases-loop-ask g l = length l.asks
