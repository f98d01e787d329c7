-- A number for each expression that is above that of its parts.
use Rattle.std.specs.Prelude.{ℕ, ◌+◌}
use Rattle.circus_checked.specs.ExpressionTree.{ExpressionTree, ExpressionTrees, SuffixTrees, either, both, negation, equal, compare, calculate, minus, join, is_arm, number, text, truth, length_of, label, arm, items, convert, read, no_expressions, more_expressions, no_suffixes, in_field, in_arm, in_item}

abbrev mutual
  pub weight : ExpressionTree → ℕ
  weight (either a b) = 2 + weight a + weight b
  weight (both a b) = 2 + weight a + weight b
  weight (negation a) = 2 + weight a
  weight (equal a b) = 2 + weight a + weight b
  weight (compare _ a b) = 2 + weight a + weight b
  weight (calculate _ a b) = 2 + weight a + weight b
  weight (minus a) = 2 + weight a
  weight (join a b) = 2 + weight a + weight b
  weight (is_arm _ a) = 2 + weight a
  weight (number _) = 1
  weight (text _) = 1
  weight (truth _) = 1
  weight (length_of a) = 2 + weight a
  weight (label _) = 1
  weight (arm _ a) = 2 + weight a
  weight (items _ es) = 2 + list_weight es
  weight (convert _ a) = 2 + weight a
  weight (read _ ss) = 3 + suffix_weights ss

  pub list_weight : ExpressionTrees → ℕ
  list_weight no_expressions = 1
  list_weight (more_expressions e es) = 3 + weight e + list_weight es

  pub suffix_weights : SuffixTrees → ℕ
  suffix_weights no_suffixes = 1
  suffix_weights (in_field _ ss) = 3 + suffix_weights ss
  suffix_weights (in_arm _ ss) = 3 + suffix_weights ss
  suffix_weights (in_item e ss) = 4 + weight e + suffix_weights ss
