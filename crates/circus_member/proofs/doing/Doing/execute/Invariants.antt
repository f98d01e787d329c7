use Rattle.std.proofs.Common.{◌≡◌}
use Rattle.circus_performing.specs.Record.{behaviour}
use Rattle.circus_member_rules.specs.Step.{start_runs, execute}
use Rattle.circus_member_rules.specs.Seen.Sound.{IsSound}
use Rattle.circus_member_rules.proofs.Enough.{held_by}
use Rattle.circus_member.proofs.Going.{starts_left}
use Rattle.circus_member.proofs.doing.Doing.execute.Given as goal

-- what is left to start comes to the whole execution
abbrev pub invariant-starts : goal.invariant-starts
invariant-starts g l = record {
  sound : IsSound (behaviour g.M.Module.declared g.M.Module.turn g.M.Module.first l.doing.value.member.performing.hosted) l.doing.value.member;
  same : start_runs g.M.Module.declared g.M.Module.turn l.at (held_by l.doing.value) l.doing.value ≡ execute g.M.Module.declared g.M.Module.turn l.at l.fn.doing.value;
}

abbrev pub decreases-starts : goal.decreases-starts
decreases-starts g l = starts_left l.doing.value
