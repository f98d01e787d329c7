-- The tree of a statement, whose own parts contracts see as trees.
use Rattle.std.specs.Prelude.{ℕ, List, map, Option, Some, None, option_map}
use Rattle.circus_expression.specs.ExpressionTree.{ExpressionTree, PlaceTree}
use Rattle.circus_expression.specs.ExpressionOf.{place_of}
use Rattle.circus_expression.specs.ExpressionOf as expression
use Rattle.circus_statement.specs.StatementTree.{StatementTree, StatementTrees, HandlerTree, IntoOf, assign, only_then, then_else, while, append, call, return, raise, statement_trees, handler_trees}
use Rattle.circus_statement.specs.declared.statement.StatementKind.{StatementKind}
use Rattle.circus_statement.specs.declared.statement.StatementKind.TheVariants as K
use Rattle.circus_statement.specs.declared.statement.Statement.{Statement}
use Rattle.circus_statement.specs.declared.statement.IntoText.{IntoText}
use Rattle.circus_statement.specs.declared.statement.Handler.{Handler}

abbrev pub into_of : IntoText → IntoOf PlaceTree
into_of i = record { at = i.at; places = map place_of i.places }

-- IF with or without ELSE
abbrev pub choose : ℕ → ExpressionTree → StatementTrees → Option (List StatementTree) → StatementTree
choose at e ss None = only_then at e ss
choose at e ss (Some os) = then_else at e ss (statement_trees os)

abbrev pub kind_tree : ℕ → StatementKind → StatementTree
kind_tree at (K.Assign p e) = assign at (place_of p) (expression.tree_of e)
kind_tree at (K.If e ss os) = choose at (expression.tree_of e) (statement_trees ss) os
kind_tree at (K.While e ss) = while at (expression.tree_of e) (statement_trees ss)
kind_tree at (K.Append e p) = append at (expression.tree_of e) (place_of p)
kind_tree at (K.Call c) =
    call at (record { «module» = c.«module»; procedure = c.procedure; arguments = c.arguments; into = option_map into_of c.into }) (handler_trees c.handlers)
kind_tree at (K.Return es) = return at es
kind_tree at (K.Raise n es) = raise at n es

abbrev pub tree_of : Statement → StatementTree
tree_of s = kind_tree s.at s.kind

abbrev pub handler_of : Handler → HandlerTree
handler_of h = record {
  handled = record { at = h.at; error = h.error; places = option_map (map place_of) h.places };
  statements = h.statements;
}
