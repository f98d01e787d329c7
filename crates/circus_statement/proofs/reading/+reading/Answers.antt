use Rattle.std.proofs.Common.{◌-◌, map, sym, ◌∙◌, ap}
use Rattle.std.specs.Prelude.{option_map, codes}
use Rattle.circus_syntax.specs.Reader.{place}
use Rattle.circus_syntax.proofs.ByWord.{if_ok, suc_before}
use Rattle.circus_expression.specs.ExpressionOf as expression
use Rattle.circus_expression.specs.ExpressionOf.{place_of}
use Rattle.circus_expression.specs.Standing.{show_as}
use Rattle.circus_statement.specs.declared.starts.StatementStart.TheVariants as begins
use Rattle.circus_statement.specs.StatementOf.{tree_of, handler_of, into_of}
use Rattle.circus_statement.specs.StatementReading.{is_word, begins_statement, statement, handler}
use Rattle.circus_statement.specs.StatementStanding.{stands_for, handler_stands_for}
use Rattle.circus_statement.proofs.Sounding.{shrinks_statement}
use Rattle.circus_statement.proofs.Steps.{go_step, go_end, go_shorter, statement_case, choice_is, else_some, else_none, repetition_is, call_is, handler_is, shrinks_handler_within, handlers_begin, block_seen, block_missed, opened_deep, opened_begin}
use Rattle.circus_statement.proofs.reading.+reading.Goals as goal

pub statements_text-returns-then-sees_word : goal.statements_text-returns-then-sees_word
statements_text-returns-then-sees_word t c =
    if_ok c.block_behind.result _ _ (λ read is. ap (show_as (map stands_for)) (block_seen c.args.levels c.args.lead.now c.args.reader.now c.sees_word.result c.sees_word.ensures c.if-sees_word.true) ∙ is) c.block_behind.ensures

pub statements_text-returns : goal.statements_text-returns
statements_text-returns t c = block_missed c.args.levels c.args.lead.now c.args.reader.now c.stop_here.new.self c.new.result c.sees_word.result c.sees_word.ensures c.if-sees_word.false c.stop_here.ensures c.new.ensures

pub block_behind-returns-then-levels-eq0 : goal.block_behind-returns-then-levels-eq0
block_behind-returns-then-levels-eq0 t c = opened_deep c.args.levels c.args.lead.now c.args.reader.now c.stop_here.new.self c.new-statements.result c.if-levels-eq0.true c.stop_here.ensures c.new-statements.ensures

pub block_behind-loop-statements-init : goal.block_behind-loop-statements-init
block_behind-loop-statements-init t c = opened_begin c.args.levels (c.args.levels - 1) c.args.lead.now c.args.reader.now c.word.new.self c.new-statements.result (suc_before c.args.levels c.if-levels-eq0.false) c.word.ensures c.new-statements.ensures

pub block_behind-loop-statements-smaller : goal.block_behind-loop-statements-smaller
block_behind-loop-statements-smaller t c =
    go_shorter stands_for begins_statement (statement (c.args.levels - 1)) (shrinks_statement (c.args.levels - 1)) c.loop-statements.reader c.statement.new.reader (tree_of c.in_ok-statement.field-0) (sym c.sees_statement.ensures ∙ c.loop-statements-test.true) c.in_ok-statement.ensures

pub block_behind-loop-statements-preserved : goal.block_behind-loop-statements-preserved
block_behind-loop-statements-preserved t c =
    go_step stands_for begins_statement (statement (c.args.levels - 1)) (shrinks_statement (c.args.levels - 1)) _ c.loop-statements.statements c.push.new.self c.loop-statements.reader c.statement.new.reader (tree_of c.in_ok-statement.field-0)
    c.loop-statements.invariant (sym c.sees_statement.ensures ∙ c.loop-statements-test.true) c.in_ok-statement.ensures c.in_ok-push.ensures.ok

pub block_behind-returns : goal.block_behind-returns
block_behind-returns t c = go_end stands_for begins_statement (statement (c.args.levels - 1)) _ c.loop-statements.statements c.loop-statements.reader c.loop-statements.invariant (sym c.sees_statement.ensures ∙ c.loop-statements-test.false)

pub statement_kind-returns-in-Assign : goal.statement_kind-returns-in-Assign
statement_kind-returns-in-Assign t c =
    if_ok c.assignment.result _ _ (λ kind is. ap (show_as stands_for) (statement_case c.args.levels c.args.reader.now c.statement_start.result begins.Assign c.statement_start.ensures c.in-Assign.is) ∙ is) c.assignment.ensures

pub statement_kind-returns-in-If : goal.statement_kind-returns-in-If
statement_kind-returns-in-If t c =
    if_ok c.choice.result _ _ (λ kind is. ap (show_as stands_for) (statement_case c.args.levels c.args.reader.now c.statement_start.result begins.If c.statement_start.ensures c.in-If.is) ∙ is) c.choice.ensures

pub statement_kind-returns-in-While : goal.statement_kind-returns-in-While
statement_kind-returns-in-While t c =
    if_ok c.repetition.result _ _ (λ kind is. ap (show_as stands_for) (statement_case c.args.levels c.args.reader.now c.statement_start.result begins.While c.statement_start.ensures c.in-While.is) ∙ is) c.repetition.ensures

pub statement_kind-returns-in-Append : goal.statement_kind-returns-in-Append
statement_kind-returns-in-Append t c =
    if_ok c.addition.result _ _ (λ kind is. ap (show_as stands_for) (statement_case c.args.levels c.args.reader.now c.statement_start.result begins.Append c.statement_start.ensures c.in-Append.is) ∙ is) c.addition.ensures

pub statement_kind-returns-in-Call : goal.statement_kind-returns-in-Call
statement_kind-returns-in-Call t c =
    if_ok c.call.result _ _ (λ kind is. ap (show_as stands_for) (statement_case c.args.levels c.args.reader.now c.statement_start.result begins.Call c.statement_start.ensures c.in-Call.is) ∙ is) c.call.ensures

pub statement_kind-returns-in-Return : goal.statement_kind-returns-in-Return
statement_kind-returns-in-Return t c =
    if_ok c.end.result _ _ (λ kind is. ap (show_as stands_for) (statement_case c.args.levels c.args.reader.now c.statement_start.result begins.Return c.statement_start.ensures c.in-Return.is) ∙ is) c.end.ensures

pub statement_kind-returns-in-Raise : goal.statement_kind-returns-in-Raise
statement_kind-returns-in-Raise t c =
    if_ok c.failure.result _ _ (λ kind is. ap (show_as stands_for) (statement_case c.args.levels c.args.reader.now c.statement_start.result begins.Raise c.statement_start.ensures c.in-Raise.is) ∙ is) c.failure.ensures

pub choice-returns : goal.choice-returns
choice-returns t c =
    choice_is c.args.levels c.args.reader.now c.word.new.self c.expression_text.new.reader c.statements_text.new.reader c.else_part.new.reader c.list_end.new.reader (expression.tree_of c.in_ok-condition.condition) c.in_ok-chosen.chosen c.in_ok-other.other
    c.word.ensures c.in_ok-condition.ensures c.in_ok-chosen.ensures c.in_ok-other.ensures c.list_end.ensures

pub else_part-returns-in_ok-statements_text : goal.else_part-returns-in_ok-statements_text
else_part-returns-in_ok-statements_text t c = else_some c.args.levels c.args.reader.now c.statements_text.new.reader c.in_ok-statements_text.field-0 c.sees_word.result c.sees_word.ensures c.if-sees_word.true c.in_ok-statements_text.ensures

pub else_part-returns-else-sees_word : goal.else_part-returns-else-sees_word
else_part-returns-else-sees_word t c = else_none c.args.levels c.args.reader.now c.sees_word.result c.sees_word.ensures c.if-sees_word.false

pub repetition-returns : goal.repetition-returns
repetition-returns t c =
    repetition_is c.args.levels c.args.reader.now c.word.new.self c.expression_text.new.reader c.statements_text.new.reader c.list_end.new.reader (expression.tree_of c.in_ok-condition.condition) c.in_ok-repeated.repeated c.word.ensures c.in_ok-condition.ensures c.in_ok-repeated.ensures c.list_end.ensures

pub call-returns : goal.call-returns
call-returns t c =
    call_is c.args.levels c.args.reader.now c.call_head.new.reader c.handlers.new.reader c.sign.new.self (place c.args.reader.now)
    (record { «module» = c.in_ok-callee.callee; procedure = c.in_ok-callee.procedure; arguments = c.in_ok-callee.arguments; into = option_map into_of c.in_ok-callee.into }) c.in_ok-handlers.handlers
    c.in_ok-callee.ensures c.in_ok-handlers.ensures c.sign.ensures

pub handlers-loop-handlers-init : goal.handlers-loop-handlers-init
handlers-loop-handlers-init t c = handlers_begin c.args.levels c.args.reader.now c.new-handlers.result c.new-handlers.ensures

pub handlers-loop-handlers-smaller : goal.handlers-loop-handlers-smaller
handlers-loop-handlers-smaller t c =
    go_shorter handler_stands_for (is_word (codes "ON")) (handler c.args.levels) (shrinks_handler_within c.args.levels) c.loop-handlers.reader c.handler.new.reader (handler_of c.in_ok-handler.field-0) (sym c.sees_word.ensures ∙ c.loop-handlers-test.true) c.in_ok-handler.ensures

pub handlers-loop-handlers-preserved : goal.handlers-loop-handlers-preserved
handlers-loop-handlers-preserved t c =
    go_step handler_stands_for (is_word (codes "ON")) (handler c.args.levels) (shrinks_handler_within c.args.levels) _ c.loop-handlers.handlers c.push.new.self c.loop-handlers.reader c.handler.new.reader (handler_of c.in_ok-handler.field-0)
    c.loop-handlers.invariant (sym c.sees_word.ensures ∙ c.loop-handlers-test.true) c.in_ok-handler.ensures c.in_ok-push.ensures.ok

pub handlers-returns : goal.handlers-returns
handlers-returns t c = go_end handler_stands_for (is_word (codes "ON")) (handler c.args.levels) _ c.loop-handlers.handlers c.loop-handlers.reader c.loop-handlers.invariant (sym c.sees_word.ensures ∙ c.loop-handlers-test.false)

pub handler-returns : goal.handler-returns
handler-returns t c =
    handler_is c.args.levels c.args.reader.now c.word.new.self c.handler_head.new.reader c.statements_text.new.reader c.word-2.new.self c.place-at.result c.in_ok-error.error (option_map (map place_of) c.in_ok-error.places) c.in_ok-statements.statements
    c.word.ensures c.place-at.ensures c.in_ok-error.ensures c.in_ok-statements.ensures c.word-2.ensures
