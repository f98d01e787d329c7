-- A number for each statement that is above that of its parts.
use Rattle.std.specs.Prelude.{ℕ, ◌+◌, List}
use Rattle.std.specs.Prelude.{[], ◌∷◌}
use Rattle.circus_checked.specs.ExpressionTree.{expression_trees, suffix_trees}
use Rattle.circus_checked.specs.declared.expression.CheckedPlace.{CheckedPlace}
use Rattle.circus_checked.specs.Seen.ExpressionWeight as expressions
use Rattle.circus_checked.specs.StatementTree.{StatementTree, StatementTrees, HandlerTrees, assign, branch, repeat, append, call, give, raise, no_statements, more_statements, no_handlers, more_handlers}

abbrev pub place_weight : CheckedPlace → ℕ
place_weight p = 2 + expressions.suffix_weights (suffix_trees p.suffixes)

abbrev pub place_weights : List CheckedPlace → ℕ
place_weights [] = 1
place_weights (p ∷ ps) = 3 + place_weight p + place_weights ps

abbrev mutual
  pub weight : StatementTree → ℕ
  weight (assign p e) = 3 + place_weight p + expressions.weight e
  weight (branch e a b) = 3 + expressions.weight e + list_weight a + list_weight b
  weight (repeat e body) = 3 + expressions.weight e + list_weight body
  weight (append e p _ _) = 3 + place_weight p + expressions.weight e
  weight (call _ _ es ps hs) = 9 + expressions.list_weight (expression_trees es) + place_weights ps + handler_weights hs
  weight (give es) = 3 + expressions.list_weight (expression_trees es)
  weight (raise _ es) = 3 + expressions.list_weight (expression_trees es)

  pub list_weight : StatementTrees → ℕ
  list_weight no_statements = 1
  list_weight (more_statements s ss) = 3 + weight s + list_weight ss

  pub handler_weights : HandlerTrees → ℕ
  handler_weights no_handlers = 1
  handler_weights (more_handlers _ ps ss hs) = 9 + place_weights ps + list_weight ss + handler_weights hs
