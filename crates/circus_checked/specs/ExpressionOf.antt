-- The tree of an expression, whose own parts contracts see as trees.
use Rattle.circus_checked.specs.ExpressionTree.{ExpressionTree, SuffixTree, either, both, negation, equal, compare, calculate, minus, join, is_arm, number, text, truth, length_of, label, arm, items, convert, read, field, arm_of, subscript, expression_trees, suffix_trees}
use Rattle.circus_checked.specs.declared.expression.CheckedExpression.{CheckedExpression}
use Rattle.circus_checked.specs.declared.expression.CheckedExpression.TheVariants as E
use Rattle.circus_checked.specs.declared.expression.CheckedSuffix.{CheckedSuffix}
use Rattle.circus_checked.specs.declared.expression.CheckedSuffix.TheVariants as S

abbrev pub tree_of : CheckedExpression → ExpressionTree
tree_of (E.Or a b) = either a b
tree_of (E.And a b) = both a b
tree_of (E.Not a) = negation a
tree_of (E.Equal a b) = equal a b
tree_of (E.Compare o a b) = compare o a b
tree_of (E.Calculate o a b) = calculate o a b
tree_of (E.Minus a) = minus a
tree_of (E.Join a b) = join a b
tree_of (E.Is n a) = is_arm n a
tree_of (E.Number n) = number n
tree_of (E.Text bytes) = text bytes
tree_of (E.Truth b) = truth b
tree_of (E.Length a) = length_of a
tree_of (E.Label n) = label n
tree_of (E.Arm n a) = arm n a
tree_of (E.Items form es) = items form (expression_trees es)
tree_of (E.Convert kind a) = convert kind a
tree_of (E.Read place) = read place.variable (suffix_trees place.suffixes)

abbrev pub suffix_of : CheckedSuffix → SuffixTree
suffix_of (S.Field n) = field n
suffix_of (S.Arm n) = arm_of n
suffix_of (S.Subscript e) = subscript (tree_of e)
