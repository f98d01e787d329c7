use Rattle.std.proofs.Common.{◌≡◌, ◌∙◌, true, false, refl, sym}
use Rattle.circus_record.specs.declared.record.AskRecord.{AskRecord}
use Rattle.circus_verdict.specs.Seen.Judging.{HasCounts}
use Rattle.circus_verdict.proofs.Lists.{all_more, all_past, all_at}
use Rattle.circus_verdict.proofs.member.have_counts.Goals as goal

pub returns-then-not-has_counts : goal.returns-then-not-has_counts
returns-then-not-has_counts c = (
  λ is. absurd (let clash : false ≡ true = is in cc),
  λ all.
      sym c.if-not-has_counts.true
      ∙ c.has_counts.ensures.1 (all_at (λ (ask : AskRecord). HasCounts c.args.modules ask.after) c.args.asks.now c.loop-ask.ask-index c.ask-item.result c.loop-ask-test.true c.ask-item.is all),
)

pub loop-ask-preserved : goal.loop-ask-preserved
loop-ask-preserved c =
    all_more (λ (ask : AskRecord). HasCounts c.args.modules ask.after) c.args.asks.now c.loop-ask.ask-index c.ask-item.result c.loop-ask-test.true c.ask-item.is c.loop-ask.invariant
    (c.has_counts.ensures.0 c.if-not-has_counts.false)

pub returns : goal.returns
returns c = (λ is. all_past (λ (ask : AskRecord). HasCounts c.args.modules ask.after) c.args.asks.now c.loop-ask.ask-index c.loop-ask-test.false c.loop-ask.invariant, λ all. refl)
