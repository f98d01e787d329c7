-- Which tree a written statement stands for: its expressions and its places are those that they stand for.
use Rattle.std.specs.Prelude.{ℕ, List, map, option_map}
use Rattle.circus_expression.specs.ExpressionTree.{PlaceTree}
use Rattle.circus_expression.specs.Standing.{place_stands_for}
use Rattle.circus_expression.specs.Standing as expression
use Rattle.circus_expression.specs.Written.{WrittenPlace}
use Rattle.circus_statement.specs.StatementTree.{StatementTree, HandlerTree, IntoOf, CallOf, HandledOf, assign, only_then, then_else, while, append, call, return, raise, no_statements, more_statements, no_handlers, more_handlers, StatementTrees, HandlerTrees}
use Rattle.circus_expression.specs.ExpressionTree.{ExpressionTree}
use Rattle.circus_expression.specs.Written.{Written}
use Rattle.circus_statement.specs.WrittenStatement.{WrittenStatement, WrittenStatements, WrittenHandlers, WrittenHandler}

abbrev pub places_stand_for : List WrittenPlace → List PlaceTree
places_stand_for = map place_stands_for

abbrev pub into_stands_for : IntoOf WrittenPlace → IntoOf PlaceTree
into_stands_for i = record { at = i.at; places = places_stand_for i.places }

abbrev pub call_stands_for : CallOf Written WrittenPlace → CallOf ExpressionTree PlaceTree
call_stands_for c = record {
  «module» = c.«module»;
  procedure = c.procedure;
  arguments = map expression.stands_for c.arguments;
  into = option_map into_stands_for c.into;
}

abbrev pub head_stands_for : ℕ × CallOf Written WrittenPlace → ℕ × CallOf ExpressionTree PlaceTree
head_stands_for x = (x.0, call_stands_for x.1)

abbrev pub handled_stands_for : HandledOf WrittenPlace → HandledOf PlaceTree
handled_stands_for h = record { at = h.at; error = h.error; places = option_map places_stand_for h.places }

abbrev mutual
  pub stands_for : WrittenStatement → StatementTree
  stands_for (assign at p e) = assign at (place_stands_for p) (expression.stands_for e)
  stands_for (only_then at e ss) = only_then at (expression.stands_for e) (stand_for ss)
  stands_for (then_else at e ss os) = then_else at (expression.stands_for e) (stand_for ss) (stand_for os)
  stands_for (while at e ss) = while at (expression.stands_for e) (stand_for ss)
  stands_for (append at e p) = append at (expression.stands_for e) (place_stands_for p)
  stands_for (call at c hs) = call at (call_stands_for c) (handlers_stand_for hs)
  stands_for (return at es) = return at (map expression.stands_for es)
  stands_for (raise at n es) = raise at n (map expression.stands_for es)

  pub stand_for : WrittenStatements → StatementTrees
  stand_for no_statements = no_statements
  stand_for (more_statements s ss) = more_statements (stands_for s) (stand_for ss)

  pub handlers_stand_for : WrittenHandlers → HandlerTrees
  handlers_stand_for no_handlers = no_handlers
  handlers_stand_for (more_handlers h ss hs) = more_handlers (handled_stands_for h) (stand_for ss) (handlers_stand_for hs)

abbrev pub handler_stands_for : WrittenHandler → HandlerTree
handler_stands_for h = record { handled = handled_stands_for h.handled; statements = map stands_for h.statements }
