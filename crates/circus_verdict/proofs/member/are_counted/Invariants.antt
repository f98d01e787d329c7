use Rattle.std.proofs.Common.{All, take}
use Rattle.circus_verdict.specs.Seen.Judging.{IsCounted}
use Rattle.circus_verdict.proofs.member.are_counted.Given as goal

-- those before this one are counted
abbrev pub invariant-loop-run : goal.invariant-loop-run
invariant-loop-run l = All (IsCounted l.modules) (take l.run-index l.runs)
