use Rattle.std.specs.Prelude.{◌&&◌, is_none, nat_lt}
use Rattle.std.proofs.Common.{ap, arith, ◌∙◌, ◌+◌, ◌++◌, sym, length}
use Rattle.std.proofs.Math.ListN.{length-map}
use Rattle.circus_statement.specs.StatementTree.{statement_trees, handler_trees}
use Rattle.circus_statement.specs.Seen.StatementWeight.{list_weight, handlers_weight}
use Rattle.circus_statement.specs.StatementOf.{handler_of}
use Rattle.circus_checked.specs.StatementOf as checked
use Rattle.circus_fault.specs.Least.{faults_if}
use Rattle.circus_resolve.specs.declared.cause.CheckCause.TheVariants.{Mistyped}
use Rattle.circus_resolve.specs.Seen.Found.{with_faults}
use Rattle.circus_resolve.proofs.Finding.{found_then}
use Rattle.circus_body.specs.Faults.{called_faults, list_faults, arguments_of, results_of, results_faults, handlers_faults, faults_of_call, into_faults, handled_values, handled_error_faults, all_faults}
use Rattle.circus_body.specs.Seen.Parts.{call_of}
use Rattle.circus_body.specs.Seen.Named.{known_offer, context_as}
use Rattle.circus_body.proofs.Listing.{weight_of_statement, weight_of_handler, statement_step, does_step, handler_step, handle_step}
use Rattle.circus_body.proofs.statement.+resolving.Goals as goal

pub resolve_statements-resolve_statement-requires : goal.resolve_statements-resolve_statement-requires
resolve_statements-resolve_statement-requires t c =
    let light = weight_of_statement c.as_slice-statement-items.result.now c.loop-statement.statement-index c.statement-item.result c.loop-statement-test.true c.statement-item.is in
    (omega (arith, light, ap (λ ss. list_weight (statement_trees ss)) c.as_slice-statement-items.ensures, c.decreases), tt)

pub resolve_statements-loop-statement-preserved : goal.resolve_statements-loop-statement-preserved
resolve_statements-loop-statement-preserved t c =
    let context = context_as c.args.context.now in
    let ss = c.as_slice-statement-items.result.now in
    let i = c.loop-statement.statement-index in (
      statement_step context c.loop-statement.found c.resolve_statement.new.found ss i c.statement-item.result c.loop-statement-test.true c.statement-item.is c.in_ok-resolve_statement.ensures.found
          ∙ c.loop-statement.invariant.0,
      does_step context c.loop-statement.made c.push.new.self ss i c.statement-item.result (checked.tree_of c.in_ok-resolve_statement.field-0) c.loop-statement-test.true c.statement-item.is c.in_ok-resolve_statement.ensures.meant c.in_ok-push.ensures.ok
          ∙ c.loop-statement.invariant.1,
    )

pub handlers_of-resolve_handler-requires : goal.handlers_of-resolve_handler-requires
handlers_of-resolve_handler-requires t c =
    let light = weight_of_handler c.as_slice-handler-items.result.now c.loop-place.place c.handler-item.result c.loop-place-test.true c.handler-item.is in
    (omega (arith, light, ap (λ hs. handlers_weight (handler_trees hs)) c.as_slice-handler-items.ensures, c.decreases), tt)

pub handlers_of-loop-place-preserved : goal.handlers_of-loop-place-preserved
handlers_of-loop-place-preserved t c =
    let context = context_as c.args.context.now in
    let offered = known_offer c.args.offered in
    let hs = c.as_slice-handler-items.result.now in
    let i = c.loop-place.place in (
      handler_step context offered c.loop-place.found c.note.new.self c.resolve_handler.new.found hs i c.handler-item.result c.loop-place-test.true c.handler-item.is
          (c.note.ensures ∙ ap (λ b. with_faults c.loop-place.found (faults_if b c.handler-item.result.at Mistyped)) (c.is_followed-followed.ensures ∙ ap (λ n. is_none c.handler-item.result.error && nat_lt (i + 1) n) (c.len.ensures ∙ sym (ap length c.as_slice-handler-items.ensures) ∙ length-map hs handler_of)))
          c.in_ok-resolve_handler.ensures.found
          ∙ c.loop-place.invariant.0,
      handle_step context offered c.loop-place.made c.push.new.self hs i c.handler-item.result (checked.handler_of c.in_ok-resolve_handler.field-0) c.loop-place-test.true c.handler-item.is c.in_ok-resolve_handler.ensures.meant c.in_ok-push.ensures.ok
          ∙ c.loop-place.invariant.1,
    )

pub resolve_call-returns-clause-found : goal.resolve_call-returns-clause-found
resolve_call-returns-clause-found t c =
    let context = context_as c.args.context.now in
    let call = call_of c.args.call.now in
    let offered = c.called_procedure-callee.ensures.offered in
    let callee = called_faults (context.called call.«module».name) call.«module» call.procedure in
    let arguments = list_faults context (arguments_of (faults_of_call context call)) call.procedure.at call.arguments in
    let results = results_faults context (results_of (faults_of_call context call)) call.into in
    let handlers = handlers_faults context (faults_of_call context call) (handler_trees c.args.call.now.handlers) in
    found_then c.args.found.now c.results.new.found c.handlers_of.new.found (callee ++ arguments ++ results) handlers
    (found_then c.args.found.now c.list.new.found c.results.new.found (callee ++ arguments) results
    (found_then c.args.found.now c.called_procedure-callee.new.found c.list.new.found callee arguments c.called_procedure-callee.ensures.found
    (c.in_ok-arguments.ensures.found ∙ ap (λ s. with_faults c.called_procedure-callee.new.found (list_faults context s call.procedure.at call.arguments)) (c.arguments_of-slots.ensures ∙ ap arguments_of offered)))
    (c.in_ok-into.ensures.found ∙ ap (λ s. with_faults c.list.new.found (results_faults context s call.into)) (c.results_of.ensures ∙ ap results_of offered)))
    (c.in_ok-handlers.ensures.found ∙ ap (λ o. with_faults c.results.new.found (handlers_faults context o (handler_trees c.args.call.now.handlers))) offered)

pub resolve_handler-returns-clause-found : goal.resolve_handler-returns-clause-found
resolve_handler-returns-clause-found t c =
    let context = context_as c.args.context.now in
    let offered = known_offer c.args.offered in
    let handled = (handler_of c.args.handler.now).handled in
    let values = into_faults context (handled_values offered handled.error) handled.at handled.places in
    found_then c.args.found.now c.handler_places.new.found c.resolve_statements.new.found (handled_error_faults offered handled.error ++ values) (all_faults context (statement_trees c.args.handler.now.statements))
    (found_then c.args.found.now c.handled_error-error.new.found c.handler_places.new.found (handled_error_faults offered handled.error) values c.handled_error-error.ensures.found
    (c.in_ok-places.ensures.found ∙ ap (λ s. with_faults c.handled_error-error.new.found (into_faults context s handled.at handled.places)) c.handled_error-error.ensures.values))
    c.in_ok-statements.ensures.found
