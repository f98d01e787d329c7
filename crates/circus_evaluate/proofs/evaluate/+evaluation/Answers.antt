use Rattle.std.proofs.Common.{ap, arith}
use Rattle.circus_checked.specs.ExpressionTree.{expression_trees, suffix_trees}
use Rattle.circus_checked.specs.Seen.ExpressionWeight.{list_weight, suffix_weights}
use Rattle.circus_evaluate.proofs.Stopping.{weight-expression, weight-suffix}
use Rattle.circus_evaluate.proofs.evaluate.+evaluation.Goals as goal

pub evaluate_all-value_in-requires : goal.evaluate_all-value_in-requires
evaluate_all-value_in-requires t c =
    let light = weight-expression c.as_slice-expression-items.result.now c.loop-expression.expression-index c.expression-item.result c.loop-expression-test.true c.expression-item.is in
    (omega (arith, light, ap (λ es. list_weight (expression_trees es)) c.as_slice-expression-items.ensures, c.decreases), tt)

pub read-step-requires : goal.read-step-requires
read-step-requires t c =
    let light = weight-suffix c.as_slice-suffix-items.result.now c.loop-suffix.suffix-index c.suffix-item.result c.loop-suffix-test.true c.suffix-item.is in
    (omega (arith, light, ap (λ ss. suffix_weights (suffix_trees ss)) c.as_slice-suffix-items.ensures, c.decreases), tt)
