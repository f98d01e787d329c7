-- An expression's parts are lighter than the expression.
use Rattle.std.specs.Prelude.{◌≤◌, List, [], ◌∷◌, map}
use Rattle.std.proofs.Common.{arith}
use denote.Param.Weighed.{most}
use Rattle.circus_checked.specs.ExpressionTree.{expression_trees, suffix_trees}
use Rattle.circus_checked.specs.ExpressionOf.{tree_of, suffix_of}
use Rattle.circus_checked.specs.Seen.ExpressionWeight.{weight, list_weight, suffix_weights}
use Rattle.circus_checked.specs.declared.expression.CheckedExpression.{CheckedExpression}
use Rattle.circus_checked.specs.declared.expression.CheckedExpression.TheVariants as E
use Rattle.circus_checked.specs.declared.expression.CheckedSuffix.{CheckedSuffix}
use Rattle.circus_checked.specs.declared.expression.CheckedSuffix.TheVariants as S
use Rattle.circus_checked.specs.declared.expression.CheckedExpressions.TheDeep.{deep-CheckedExpression, deep-CheckedSuffix}

pub deep_le-weight : (e : CheckedExpression) → deep-CheckedExpression e ≤ weight (tree_of e)
deep_le-weight (E.Or a b) = omega arith
deep_le-weight (E.And a b) = omega arith
deep_le-weight (E.Not a) = omega arith
deep_le-weight (E.Equal a b) = omega arith
deep_le-weight (E.Compare o a b) = omega arith
deep_le-weight (E.Calculate o a b) = omega arith
deep_le-weight (E.Minus a) = omega arith
deep_le-weight (E.Join a b) = omega arith
deep_le-weight (E.Is n a) = omega arith
deep_le-weight (E.Number n) = omega arith
deep_le-weight (E.Text bytes) = omega arith
deep_le-weight (E.Truth b) = omega arith
deep_le-weight (E.Length a) = omega arith
deep_le-weight (E.Label n) = omega arith
deep_le-weight (E.Arm n a) = omega arith
deep_le-weight (E.Items form es) = omega arith
deep_le-weight (E.Convert kind a) = omega arith
deep_le-weight (E.Read place) = omega arith

pub most_deep_le-list_weight : (es : List CheckedExpression) → most deep-CheckedExpression es ≤ list_weight (expression_trees (map tree_of es))
most_deep_le-list_weight [] = omega arith
most_deep_le-list_weight (e ∷ es) = omega (arith, deep_le-weight e, most_deep_le-list_weight es)

pub most_deep_le-suffix_weights : (ss : List CheckedSuffix) → most deep-CheckedSuffix ss ≤ suffix_weights (suffix_trees (map suffix_of ss))
most_deep_le-suffix_weights [] = omega arith
most_deep_le-suffix_weights (S.Field n ∷ ss) = omega (arith, most_deep_le-suffix_weights ss)
most_deep_le-suffix_weights (S.Arm n ∷ ss) = omega (arith, most_deep_le-suffix_weights ss)
most_deep_le-suffix_weights (S.Subscript e ∷ ss) = omega (arith, deep_le-weight e, most_deep_le-suffix_weights ss)
