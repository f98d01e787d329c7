use Rattle.std.proofs.Common.{All, take}
use Rattle.circus_record.specs.declared.record.AskRecord.{AskRecord}
use Rattle.circus_verdict.specs.Seen.Judging.{HasCounts}
use Rattle.circus_verdict.proofs.member.have_counts.Given as goal

-- those before this one have so many
abbrev pub invariant-loop-ask : goal.invariant-loop-ask
invariant-loop-ask l = All (λ (ask : AskRecord). HasCounts l.modules ask.after) (take l.ask-index l.asks)
