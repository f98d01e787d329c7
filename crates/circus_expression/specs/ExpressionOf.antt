-- The tree of an expression, whose own parts contracts see as trees.
use Rattle.std.specs.Prelude.{Option, Some, None}
use Rattle.circus_syntax.specs.declared.named.Named.{Named}
use Rattle.circus_syntax.specs.declared.named.TypeName.{TypeName}
use Rattle.circus_expression.specs.ExpressionTree.{ExpressionTree, KindTree, SuffixTree, PlaceTree, expression, binary, negation, minus, is_arm, number, text, truth, length_of, label, arm, items, read, field, subscript, expression_trees, suffix_trees}
use Rattle.circus_expression.specs.declared.expression.ExpressionKind.{ExpressionKind}
use Rattle.circus_expression.specs.declared.expression.ExpressionKind.TheVariants as K
use Rattle.circus_expression.specs.declared.expression.Expression.{Expression}
use Rattle.circus_expression.specs.declared.expression.PlaceText.{PlaceText}
use Rattle.circus_expression.specs.declared.expression.Suffix.{Suffix}
use Rattle.circus_expression.specs.declared.expression.Suffix.TheVariants as S

-- a label, or an arm with its value
abbrev pub arm_tree : TypeName → Named → Option ExpressionTree → KindTree
arm_tree of name None = label of name
arm_tree of name (Some value) = arm of name value

abbrev pub kind_tree : ExpressionKind → KindTree
kind_tree (K.Binary op left right) = binary op left right
kind_tree (K.Not e) = negation e
kind_tree (K.Minus e) = minus e
kind_tree (K.Is e name) = is_arm e name
kind_tree (K.Number value) = number value
kind_tree (K.Text bytes) = text bytes
kind_tree (K.Truth b) = truth b
kind_tree (K.Length e) = length_of e
kind_tree (K.Arm of name value) = arm_tree of name value
kind_tree (K.Items of es) = items of (expression_trees es)
kind_tree (K.Read place) = read place.name (suffix_trees place.suffixes)

abbrev pub tree_of : Expression → ExpressionTree
tree_of e = expression e.at (kind_tree e.kind)

abbrev pub suffix_of : Suffix → SuffixTree
suffix_of (S.Field name) = field name
suffix_of (S.Subscript e) = subscript (tree_of e)

abbrev pub place_of : PlaceText → PlaceTree
place_of p = record { name = p.name; suffixes = p.suffixes }
