-- An expression's parts are lighter than the expression.
use Rattle.std.specs.Prelude.{◌≤◌, List, [], ◌∷◌, map, Some, None}
use Rattle.std.proofs.Common.{arith}
use denote.Param.Weighed.{most}
use Rattle.circus_expression.specs.ExpressionTree.{expression_trees, suffix_trees}
use Rattle.circus_expression.specs.ExpressionOf.{kind_tree, tree_of, suffix_of}
use Rattle.circus_expression.specs.Seen.ExpressionWeight.{weight, kind_weight, list_weight, suffix_weights}
use Rattle.circus_expression.specs.declared.expression.ExpressionKind.{ExpressionKind}
use Rattle.circus_expression.specs.declared.expression.ExpressionKind.TheVariants as K
use Rattle.circus_expression.specs.declared.expression.Expression.{Expression}
use Rattle.circus_expression.specs.declared.expression.Suffix.{Suffix}
use Rattle.circus_expression.specs.declared.expression.Suffix.TheVariants as S
use Rattle.circus_expression.specs.declared.expression.Expressions.TheDeep.{deep-Expression, deep-ExpressionKind, deep-Suffix}

pub kind_deep_le-kind_weight : (k : ExpressionKind) → deep-ExpressionKind k ≤ kind_weight (kind_tree k)
kind_deep_le-kind_weight (K.Binary op left right) = omega arith
kind_deep_le-kind_weight (K.Not e) = omega arith
kind_deep_le-kind_weight (K.Minus e) = omega arith
kind_deep_le-kind_weight (K.Is e name) = omega arith
kind_deep_le-kind_weight (K.Number value) = omega arith
kind_deep_le-kind_weight (K.Text bytes) = omega arith
kind_deep_le-kind_weight (K.Truth b) = omega arith
kind_deep_le-kind_weight (K.Length e) = omega arith
kind_deep_le-kind_weight (K.Arm of name None) = omega arith
kind_deep_le-kind_weight (K.Arm of name (Some e)) = omega arith
kind_deep_le-kind_weight (K.Items of es) = omega arith
kind_deep_le-kind_weight (K.Read place) = omega arith

pub deep_le-weight : (e : Expression) → deep-Expression e ≤ weight (tree_of e)
deep_le-weight e = omega (arith, kind_deep_le-kind_weight e.kind)

pub most_deep_le-list_weight : (es : List Expression) → most deep-Expression es ≤ list_weight (expression_trees (map tree_of es))
most_deep_le-list_weight [] = omega arith
most_deep_le-list_weight (e ∷ es) = omega (arith, deep_le-weight e, most_deep_le-list_weight es)

pub most_deep_le-suffix_weights : (ss : List Suffix) → most deep-Suffix ss ≤ suffix_weights (suffix_trees (map suffix_of ss))
most_deep_le-suffix_weights [] = omega arith
most_deep_le-suffix_weights (S.Field name ∷ ss) = omega (arith, most_deep_le-suffix_weights ss)
most_deep_le-suffix_weights (S.Subscript e ∷ ss) = omega (arith, deep_le-weight e, most_deep_le-suffix_weights ss)
