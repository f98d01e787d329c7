-- A number for each expression that is above that of its parts.
use Rattle.std.specs.Prelude.{ℕ, ◌+◌}
use Rattle.circus_expression.specs.ExpressionTree.{ExpressionTree, KindTree, ExpressionTrees, SuffixTrees, expression, binary, negation, minus, is_arm, number, text, truth, length_of, label, arm, items, read, no_expressions, more_expressions, no_suffixes, more_fields, more_subscripts}

abbrev mutual
  pub weight : ExpressionTree → ℕ
  weight (expression _ k) = 1 + kind_weight k

  pub kind_weight : KindTree → ℕ
  kind_weight (binary _ a b) = 2 + weight a + weight b
  kind_weight (negation e) = 2 + weight e
  kind_weight (minus e) = 2 + weight e
  kind_weight (is_arm e _) = 2 + weight e
  kind_weight (number _) = 1
  kind_weight (text _) = 1
  kind_weight (truth _) = 1
  kind_weight (length_of e) = 2 + weight e
  kind_weight (label _ _) = 1
  kind_weight (arm _ _ e) = 3 + weight e
  kind_weight (items _ es) = 2 + list_weight es
  kind_weight (read _ ss) = 3 + suffix_weights ss

  pub list_weight : ExpressionTrees → ℕ
  list_weight no_expressions = 1
  list_weight (more_expressions e es) = 3 + weight e + list_weight es

  pub suffix_weights : SuffixTrees → ℕ
  suffix_weights no_suffixes = 1
  suffix_weights (more_fields _ ss) = 3 + suffix_weights ss
  suffix_weights (more_subscripts e ss) = 4 + weight e + suffix_weights ss
