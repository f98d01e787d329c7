-- Which tree a written expression stands for: its parentheses are left out, but for the place of the outermost, and its
-- chains lean to the left.
use Rattle.std.specs.Prelude.{ℕ, List, [], ◌∷◌}
use Rattle.circus_syntax.specs.declared.named.TypeName.{TypeName}
use Rattle.circus_syntax.specs.Reading.{type_name_place}
use Rattle.circus_syntax.specs.Reader.{Reader}
use Rattle.circus_expression.specs.declared.operator.Operator.{Operator}
use Rattle.circus_expression.specs.ExpressionTree as tree
use Rattle.circus_expression.specs.ExpressionTree.{ExpressionTree, SuffixTree, PlaceTree, expression, expression_trees, suffix_trees}
use Rattle.circus_expression.specs.ExpressionReading.{Related, alone, compared, arm_named}
use Rattle.circus_expression.specs.Written.{Written, Links, WrittenList, WrittenSuffixes, WrittenPlace, chain, negation, comparison, is_arm, minus, number, text, truth, parentheses, length_of, label, arm, items, place, no_links, link, no_items, more_items, no_suffixes, field, subscript}

-- where an expression begins
abbrev pub place_of_tree : ExpressionTree → ℕ
place_of_tree (expression at kind) = at

-- two expressions as one, which begins with the first
abbrev pub join_with : Operator → ExpressionTree → ExpressionTree → ExpressionTree
join_with o a b = expression (place_of_tree a) (tree.binary o a b)

-- the same expression, beginning here
abbrev pub beginning : ℕ → ExpressionTree → ExpressionTree
beginning at (expression _ kind) = expression at kind

-- where a type's name begins
abbrev pub type_place : TypeName → ℕ
type_place t = type_name_place t.«module» t.name

abbrev mutual
  pub stands_for : Written → ExpressionTree
  stands_for (chain c w ls) = lean_left (stands_for w) ls
  stands_for (negation at w) = expression at (tree.negation (stands_for w))
  stands_for (comparison a o b) = join_with o (stands_for a) (stands_for b)
  stands_for (is_arm a n) = expression (place_of_tree (stands_for a)) (tree.is_arm (stands_for a) n)
  stands_for (minus at w) = expression at (tree.minus (stands_for w))
  stands_for (number n) = expression n.at (tree.number n.value)
  stands_for (text content at) = expression at (tree.text content)
  stands_for (truth b at) = expression at (tree.truth b)
  stands_for (parentheses at w) = beginning at (stands_for w)
  stands_for (length_of at w) = expression at (tree.length_of (stands_for w))
  stands_for (label t n) = expression (type_place t) (tree.label t n)
  stands_for (arm t n w) = expression (type_place t) (tree.arm t n (stands_for w))
  stands_for (items t ws) = expression (type_place t) (tree.items t (expression_trees (stand_for ws)))
  stands_for (place n ss) = expression n.at (tree.read n (suffix_trees (suffixes_stand_for ss)))

  -- what stands in front, joined to one operand after the other
  pub lean_left : ExpressionTree → Links → ExpressionTree
  lean_left e no_links = e
  lean_left e (link o w ls) = lean_left (join_with o e (stands_for w)) ls

  pub stand_for : WrittenList → List ExpressionTree
  stand_for no_items = []
  stand_for (more_items w ws) = stands_for w ∷ stand_for ws

  pub suffixes_stand_for : WrittenSuffixes → List SuffixTree
  suffixes_stand_for no_suffixes = []
  suffixes_stand_for (field n ss) = tree.field n ∷ suffixes_stand_for ss
  suffixes_stand_for (subscript w ss) = tree.subscript (stands_for w) ∷ suffixes_stand_for ss

abbrev pub place_stands_for : WrittenPlace → PlaceTree
place_stands_for p = record { name = p.name; suffixes = suffixes_stand_for p.suffixes }

-- a sum with what stands behind it
abbrev pub related_tree : ExpressionTree → Related → ExpressionTree
related_tree e alone = e
related_tree e (compared o w) = join_with o e (stands_for w)
related_tree e (arm_named n) = expression (place_of_tree e) (tree.is_arm e n)

-- what is read, as it stands for something else
abbrev pub show_as : {A B : Type 0} → (A → B) → A × Reader → B × Reader
show_as f x = (f x.0, x.1)
