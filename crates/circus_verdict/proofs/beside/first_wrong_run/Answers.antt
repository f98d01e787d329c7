use Rattle.std.proofs.Common.{◌≡◌, ◌∙◌, true, false, Option, sym, subst, below_more}
use Rattle.std.specs.Prelude.{IsSomeAnd}
use Rattle.circus_model.specs.declared.history.Run.{Run}
use Rattle.circus_verdict.specs.Beside.{IsSoFar, IsRight}
use Rattle.circus_verdict.proofs.BesideLemmas.{right_here, wrong_here, right_past}
use Rattle.circus_verdict.proofs.beside.first_wrong_run.Goals as goal

pub returns-then-not-is_that-clause-wrong : goal.returns-then-not-is_that-clause-wrong
returns-then-not-is_that-clause-wrong c =
    wrong_here c.args.runs.now c.args.kept.now c.as_slice-run-items.result.now c.loop-number.number c.run-item.result c.as_slice-run-items.ensures c.loop-number-test.true c.run-item.is
    (λ so.
    let is = c.is_that.ensures.1 (subst (λ (o : Option Run). IsSomeAnd o (λ run. IsSoFar run c.run-item.result)) (sym c.run_at.ensures) so) in
    let clash : false ≡ true = sym c.if-not-is_that.true ∙ is in cc)
    c.loop-number.invariant

pub loop-number-preserved : goal.loop-number-preserved
loop-number-preserved c =
    below_more (IsRight c.args.runs.now c.args.kept.now) c.loop-number.number c.loop-number.invariant
    (right_here c.args.runs.now c.args.kept.now c.as_slice-run-items.result.now c.loop-number.number c.run-item.result c.as_slice-run-items.ensures c.loop-number-test.true c.run-item.is
    (subst (λ (o : Option Run). IsSomeAnd o (λ run. IsSoFar run c.run-item.result)) c.run_at.ensures (c.is_that.ensures.0 c.if-not-is_that.false)))

pub returns-clause-right : goal.returns-clause-right
returns-clause-right c = right_past c.args.runs.now c.args.kept.now c.as_slice-run-items.result.now c.loop-number.number c.as_slice-run-items.ensures c.loop-number-test.false c.loop-number.invariant
