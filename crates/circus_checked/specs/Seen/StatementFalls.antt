-- A statement's parts are lighter than the statement.
use Rattle.std.specs.Prelude.{◌≤◌, List, [], ◌∷◌, map, Some, None}
use Rattle.std.proofs.Common.{arith}
use denote.Param.Weighed.{most}
use Rattle.circus_checked.specs.StatementTree.{statement_trees, handler_trees}
use Rattle.circus_checked.specs.StatementOf.{tree_of, handler_of}
use Rattle.circus_checked.specs.Seen.StatementWeight.{weight, list_weight, handler_weights}
use Rattle.circus_checked.specs.declared.statement.CheckedStatement.{CheckedStatement}
use Rattle.circus_checked.specs.declared.statement.CheckedStatement.TheVariants as S
use Rattle.circus_checked.specs.declared.statement.CheckedHandler.{CheckedHandler}
use Rattle.circus_checked.specs.declared.statement.CheckedHandlers.TheDeep.{deep-CheckedStatement, deep-CheckedHandler}

pub deep_le-weight : (s : CheckedStatement) → deep-CheckedStatement s ≤ weight (tree_of s)
deep_le-weight (S.Assign p e) = omega arith
deep_le-weight (S.If e a b) = omega arith
deep_le-weight (S.While e body) = omega arith
deep_le-weight (S.Append e p bound None) = omega arith
deep_le-weight (S.Append e p bound (Some k)) = omega arith
deep_le-weight (S.Call c) = omega arith
deep_le-weight (S.Return es) = omega arith
deep_le-weight (S.Raise n es) = omega arith

pub deep_le-handler_weight : (h : CheckedHandler) → deep-CheckedHandler h ≤ handler_weights (handler_trees (handler_of h ∷ []))
deep_le-handler_weight h = omega arith

pub most_deep_le-list_weight : (ss : List CheckedStatement) → most deep-CheckedStatement ss ≤ list_weight (statement_trees (map tree_of ss))
most_deep_le-list_weight [] = omega arith
most_deep_le-list_weight (s ∷ ss) = omega (arith, deep_le-weight s, most_deep_le-list_weight ss)

pub most_deep_le-handler_weights : (hs : List CheckedHandler) → most deep-CheckedHandler hs ≤ handler_weights (handler_trees (map handler_of hs))
most_deep_le-handler_weights [] = omega arith
most_deep_le-handler_weights (h ∷ hs) = omega (arith, deep_le-handler_weight h, most_deep_le-handler_weights hs)
