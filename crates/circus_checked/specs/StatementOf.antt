-- The tree of a statement, whose own parts contracts see as trees.
use Rattle.circus_checked.specs.ExpressionOf as expressions
use Rattle.circus_checked.specs.StatementTree.{StatementTree, HandlerTree, assign, branch, repeat, append, call, give, raise, statement_trees, handler_trees}
use Rattle.circus_checked.specs.declared.statement.CheckedStatement.{CheckedStatement}
use Rattle.circus_checked.specs.declared.statement.CheckedStatement.TheVariants as S
use Rattle.circus_checked.specs.declared.statement.CheckedHandler.{CheckedHandler}

abbrev pub tree_of : CheckedStatement → StatementTree
tree_of (S.Assign place e) = assign place (expressions.tree_of e)
tree_of (S.If e then others) = branch (expressions.tree_of e) (statement_trees then) (statement_trees others)
tree_of (S.While e body) = repeat (expressions.tree_of e) (statement_trees body)
tree_of (S.Append e place bound kind) = append (expressions.tree_of e) place bound kind
tree_of (S.Call c) = call c.callee c.procedure c.arguments c.into (handler_trees c.handlers)
tree_of (S.Return es) = give es
tree_of (S.Raise error es) = raise error es

abbrev pub handler_of : CheckedHandler → HandlerTree
handler_of h = record { error = h.error; places = h.places; statements = h.statements }
