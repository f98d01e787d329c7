use Rattle.std.proofs.Common.{◌≡◌, ◌∙◌, true, false, refl, sym}
use Rattle.circus_verdict.specs.Seen.Judging.{IsCounted}
use Rattle.circus_verdict.proofs.Lists.{all_more, all_past, all_at}
use Rattle.circus_verdict.proofs.member.are_counted.Goals as goal

pub returns-then-not-is_counted : goal.returns-then-not-is_counted
returns-then-not-is_counted c = (
  λ is. absurd (let clash : false ≡ true = is in cc),
  λ all. sym c.if-not-is_counted.true ∙ c.is_counted.ensures.1 (all_at (IsCounted c.args.modules) c.args.runs.now c.loop-run.run-index c.run-item.result c.loop-run-test.true c.run-item.is all),
)

pub loop-run-preserved : goal.loop-run-preserved
loop-run-preserved c =
    all_more (IsCounted c.args.modules) c.args.runs.now c.loop-run.run-index c.run-item.result c.loop-run-test.true c.run-item.is c.loop-run.invariant (c.is_counted.ensures.0 c.if-not-is_counted.false)

pub returns : goal.returns
returns c = (λ is. all_past (IsCounted c.args.modules) c.args.runs.now c.loop-run.run-index c.loop-run-test.false c.loop-run.invariant, λ all. refl)
