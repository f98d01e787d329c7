use Rattle.std.proofs.Common.{map}
use Rattle.circus_evaluate.specs.Steps.{step_as}
use Rattle.circus_evaluate.proofs.Stopping.{passes}
use Rattle.circus_evaluate.proofs.Stepping.{steps_fail, steps_more}
use Rattle.circus_evaluate.proofs.evaluate.steps_of.Goals as goal

pub returns-in_err-step : goal.returns-in_err-step
returns-in_err-step c =
    passes (map step_as) step_as c.from_residual.result c.in_err-step.field-0.0 _ _ c.from_residual.ensures c.in_err-step.ensures
    (λ error err. steps_fail c.args.limit c.args.variables.now c.as_slice-suffix-items.result.now c.loop-suffix.suffix-index c.suffix-item.result c.loop-suffix.steps _ c.loop-suffix-test.true c.suffix-item.is error err c.loop-suffix.invariant)

pub loop-suffix-preserved : goal.loop-suffix-preserved
loop-suffix-preserved c =
    steps_more c.args.limit c.args.variables.now c.as_slice-suffix-items.result.now c.loop-suffix.suffix-index c.suffix-item.result c.loop-suffix.steps _ c.loop-suffix-test.true c.suffix-item.is
    c.in_ok-step.field-0 c.push.new.self c.in_ok-step.ensures c.in_ok-push.ensures.ok c.loop-suffix.invariant
