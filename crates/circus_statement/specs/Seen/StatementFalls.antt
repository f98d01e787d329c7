-- A statement's parts are lighter than the statement.
use Rattle.std.specs.Prelude.{ℕ, ◌+◌, ◌≤◌, List, [], ◌∷◌, map, Some, None}
use Rattle.std.proofs.Common.{arith}
use denote.Param.Weighed.{most}
use Rattle.circus_statement.specs.StatementTree.{statement_trees, handler_trees}
use Rattle.circus_statement.specs.StatementOf.{kind_tree, tree_of, handler_of}
use Rattle.circus_statement.specs.Seen.StatementWeight.{weight, list_weight, handlers_weight}
use Rattle.circus_statement.specs.declared.statement.StatementKind.{StatementKind}
use Rattle.circus_statement.specs.declared.statement.StatementKind.TheVariants as K
use Rattle.circus_statement.specs.declared.statement.Statement.{Statement}
use Rattle.circus_statement.specs.declared.statement.Handler.{Handler}
use Rattle.circus_statement.specs.declared.statement.Handlers.TheDeep.{deep-Statement, deep-StatementKind, deep-Handler}

pub kind_deep_le-weight : (at : ℕ) (k : StatementKind) → deep-StatementKind k + 1 ≤ weight (kind_tree at k)
kind_deep_le-weight at (K.Assign p e) = omega arith
kind_deep_le-weight at (K.If e ss None) = omega arith
kind_deep_le-weight at (K.If e ss (Some os)) = omega arith
kind_deep_le-weight at (K.While e ss) = omega arith
kind_deep_le-weight at (K.Append e p) = omega arith
kind_deep_le-weight at (K.Call c) = omega arith
kind_deep_le-weight at (K.Return es) = omega arith
kind_deep_le-weight at (K.Raise n es) = omega arith

pub deep_le-weight : (s : Statement) → deep-Statement s ≤ weight (tree_of s)
deep_le-weight s = omega (arith, kind_deep_le-weight s.at s.kind)

pub most_deep_le-list_weight : (ss : List Statement) → most deep-Statement ss ≤ list_weight (statement_trees (map tree_of ss))
most_deep_le-list_weight [] = omega arith
most_deep_le-list_weight (s ∷ ss) = omega (arith, deep_le-weight s, most_deep_le-list_weight ss)

pub most_deep_le-handlers_weight : (hs : List Handler) → most deep-Handler hs ≤ handlers_weight (handler_trees (map handler_of hs))
most_deep_le-handlers_weight [] = omega arith
most_deep_le-handlers_weight (h ∷ hs) = omega (arith, most_deep_le-handlers_weight hs)
