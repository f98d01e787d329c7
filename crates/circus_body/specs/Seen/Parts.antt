-- A call, and one handler by itself.
use Rattle.std.specs.Prelude.{◌++◌, Option, option_map}
use Rattle.circus_expression.specs.ExpressionTree.{ExpressionTree, PlaceTree}
use Rattle.circus_statement.specs.declared.statement.CallText.{CallText}
use Rattle.circus_statement.specs.StatementTree.{CallOf, HandlerTree, statement_trees}
use Rattle.circus_statement.specs.StatementOf.{into_of}
use Rattle.circus_checked.specs.StatementTree as c
use Rattle.circus_resolve.specs.Faults.{Faults}
use Rattle.circus_body.specs.Context.{Offered, Context}
use Rattle.circus_body.specs.Faults.{handled_faults, all_faults}
use Rattle.circus_body.specs.Meaning.{handled_meant, places_meant, all_do}

abbrev pub call_of : CallText → CallOf ExpressionTree PlaceTree
call_of c = record { «module» = c.«module»; procedure = c.procedure; arguments = c.arguments; into = option_map into_of c.into }

abbrev pub one_handler_faults : Context → Option Offered → HandlerTree → Faults
one_handler_faults context o h = handled_faults context o h.handled.at h.handled.error h.handled.places ++ all_faults context (statement_trees h.statements)

abbrev pub one_handler_meant : Context → Option Offered → HandlerTree → c.HandlerTree
one_handler_meant context o h = record {
  error = handled_meant o h.handled.error;
  places = places_meant context h.handled.places;
  statements = all_do context (statement_trees h.statements);
}
