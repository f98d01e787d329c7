use Rattle.std.proofs.Common.{◌+◌, ◌-◌, length}
use Rattle.circus_limits.specs.Limits.{most_asks}
use Rattle.circus_performing.specs.Performing.{replies_of}
use Rattle.circus_performing.specs.Record.{behaviour}
use Rattle.circus_performing.proofs.Members.{IsGoing}
use Rattle.circus_performing.proofs.performer.Going.go_on.Given as goal

-- the run goes on, and comes to what it comes to from its beginning
abbrev pub invariant-loop-turn : goal.invariant-loop-turn
invariant-loop-turn g l =
    let h = l.held.value in
    let b = behaviour g.M.Module.declared g.M.Module.turn g.M.Module.first h.hosted in
    IsGoing (g.M.Module.stands h.hosted) b h.began h.kept l.step l.initial.run l.run l.turn

abbrev pub decreases-loop-turn : goal.decreases-loop-turn
decreases-loop-turn g l = most_asks + 1 - length (replies_of l.run.asks)
