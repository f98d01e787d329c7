-- A number for each statement that is above that of its parts.
use Rattle.std.specs.Prelude.{ℕ, ◌+◌}
use Rattle.circus_statement.specs.StatementTree.{StatementTree, StatementTrees, HandlerTrees, assign, only_then, then_else, while, append, call, return, raise, no_statements, more_statements, no_handlers, more_handlers}

abbrev mutual
  pub weight : StatementTree → ℕ
  weight (assign _ _ _) = 2
  weight (only_then _ _ ss) = 4 + list_weight ss
  weight (then_else _ _ ss os) = 4 + list_weight ss + list_weight os
  weight (while _ _ ss) = 4 + list_weight ss
  weight (append _ _ _) = 2
  weight (call _ _ hs) = 4 + handlers_weight hs
  weight (return _ _) = 2
  weight (raise _ _ _) = 2

  pub list_weight : StatementTrees → ℕ
  list_weight no_statements = 1
  list_weight (more_statements s ss) = 3 + weight s + list_weight ss

  pub handlers_weight : HandlerTrees → ℕ
  handlers_weight no_handlers = 1
  handlers_weight (more_handlers _ ss hs) = 4 + list_weight ss + handlers_weight hs
