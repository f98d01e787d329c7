use Rattle.std.proofs.Common.{◌≡◌, ◌+◌, ◌-◌, ◌<◌, All, [], ◌∷◌, ◌++◌, length, map, sym, ap, subst, ◌∙◌, arith}
use Rattle.std.proofs.lemmas.List.{length-set}
use Rattle.std.proofs.lemmas.Result.{on_ok_weaker}
use Rattle.circus_checked.specs.ExpressionOf as expressions
use Rattle.circus_checked.specs.StatementTree.{statement_trees, handler_trees}
use Rattle.circus_checked.specs.StatementOf.{handler_of}
use Rattle.circus_checked.specs.Seen.StatementWeight.{handler_weights}
use Rattle.circus_machine.specs.Seen.Code.{unless, jump, again, ask, codes_of, handlers_code, table_of}
use Rattle.circus_machine.specs.Seen.Instructions.{acts_of, catch_of, open_code, exits_from, leading_to}
use Rattle.circus_machine.specs.declared.code.Instruction.TheVariants as I
use Rattle.circus_machine.proofs.Emitting.{emitted_length, acts_pushed, branch_emitted, loop_emitted, exits_within}
use Rattle.circus_machine.proofs.CompilingSteps.{weight_handler, handlers_more, handlers_done, table_more, table_done, exits_more, exits_done, handlers_emitted, call_emitted}
use Rattle.circus_machine.proofs.code.+compiling.Goals as goal

pub append_branch-returns-clause-code : goal.append_branch-returns-clause-code
append_branch-returns-clause-code t c =
    let before = c.args.code.now in
    let ss = codes_of (statement_trees c.args.then.now) in
    let others = codes_of (statement_trees c.args.others.now) in
    let first = c.in_ok-push.ensures.ok in
    let then_is = c.in_ok-append_all.ensures.code in
    let second = c.in_ok-push-2.ensures.ok in
    let others_are = c.in_ok-append_all-2.ensures.code in
    let one = emitted_length c.push.new.self before (jump 0 ∷ []) (acts_pushed c.push.new.self before (I.Jump 0) first) in
    let two = emitted_length c.append_all.new.code c.push.new.self ss then_is in
    let three = emitted_length c.push-2.new.self c.append_all.new.code (jump 0 ∷ []) (acts_pushed c.push-2.new.self c.append_all.new.code (I.Jump 0) second) in
    let four = emitted_length c.append_all-2.new.code c.push-2.new.self others others_are in
    let k = c.offset.result in
    let n = c.offset-offset.result in
    let k_is : k ≡ length ss + 1 = omega (arith, c.offset.ensures, c.len-second.ensures, c.len-at.ensures, one, two, three) in
    let n_is : n ≡ length others = omega (arith, c.offset-offset.ensures, c.len.ensures, c.len-behind.ensures, ap length c.set.ensures, length-set c.append_all-2.new.code c.len-at.result (I.Unless c.in_ok-copy.field-0 k), one, two, three, four) in
    branch_emitted before c.push.new.self c.append_all.new.code c.push-2.new.self c.append_all-2.new.code c.set.new.self c.set-2.new.self ss others (I.Unless c.in_ok-copy.field-0 k) (I.Jump n) c.len-at.result c.len-behind.result
    first then_is second others_are c.set.ensures c.set-2.ensures c.len-at.ensures c.len-behind.ensures
    ∙ ap (λ e. acts_of before ++ unless (expressions.tree_of e) k ∷ (ss ++ jump n ∷ others)) c.in_ok-copy.ensures
    ∙ ap (λ x. acts_of before ++ unless (expressions.tree_of c.args.condition.now) x ∷ (ss ++ jump n ∷ others)) k_is
    ∙ ap (λ x. acts_of before ++ unless (expressions.tree_of c.args.condition.now) (length ss + 1) ∷ (ss ++ jump x ∷ others)) n_is

pub append_loop-returns-clause-code : goal.append_loop-returns-clause-code
append_loop-returns-clause-code t c =
    let before = c.args.code.now in
    let body = codes_of (statement_trees c.args.body.now) in
    let first = c.in_ok-push.ensures.ok in
    let body_is = c.in_ok-append_all.ensures.code in
    let one = emitted_length c.push.new.self before (jump 0 ∷ []) (acts_pushed c.push.new.self before (I.Jump 0) first) in
    let two = emitted_length c.append_all.new.code c.push.new.self body body_is in
    let k = c.offset-offset.result in
    let k_is : k ≡ length body = omega (arith, c.offset-offset.ensures, c.len.ensures, c.len-at.ensures, one, two) in
    on_ok_weaker c.push-2.result
    (λ pushed.
    loop_emitted before c.push.new.self c.append_all.new.code c.set.new.self c.push-2.new.self body (I.Jump k) (I.Again c.in_ok-copy.field-0 k) c.len-at.result first body_is c.set.ensures pushed c.len-at.ensures
    ∙ ap (λ e. acts_of before ++ jump k ∷ (body ++ again (expressions.tree_of e) k ∷ [])) c.in_ok-copy.ensures
    ∙ ap (λ x. acts_of before ++ jump x ∷ (body ++ again (expressions.tree_of c.args.condition.now) x ∷ [])) k_is)
    c.push-2.ensures.ok

pub append_call-returns-clause-code : goal.append_call-returns-clause-code
append_call-returns-clause-code t c =
    let before = c.args.code.now in
    let rest = handlers_code (handler_trees c.args.call.now.handlers) in
    let skip = c.offset.result in
    let first = c.in_ok-push.ensures.ok in
    let handlers = c.in_ok-catches.ensures.code in
    let one = emitted_length c.push.new.self before (jump 0 ∷ []) (acts_pushed c.push.new.self before (I.Jump 0) first) in
    let two = emitted_length c.append_handlers.new.code c.push.new.self rest handlers in
    let skip_is : skip ≡ length rest = omega (arith, c.offset.ensures, c.len.ensures, c.len-at.ensures, one, two) in
    call_emitted before c.push.new.self c.append_handlers.new.code c.set.new.self rest (I.Ask c.in_ok-asking.asking) c.len-at.result first handlers c.set.ensures c.len-at.ensures
    ∙ ap (λ a. acts_of before ++ a ∷ rest) c.in_ok-asking.ensures
    ∙ ap (λ ts. acts_of before ++ ask c.args.call.now.callee c.args.call.now.procedure c.args.call.now.arguments c.args.call.now.into ts skip ∷ rest) c.in_ok-catches.ensures.catches
    ∙ ap (λ n. acts_of before ++ ask c.args.call.now.callee c.args.call.now.procedure c.args.call.now.arguments c.args.call.now.into (table_of 0 (handler_trees c.args.call.now.handlers)) n ∷ rest) skip_is

pub append_handlers-loop-handler-init : goal.append_handlers-loop-handler-init
append_handlers-loop-handler-init t c =
    let hs = map handler_of c.as_slice-handler-items.result.now in
    let before = c.args.code.now in
    let handlers = c.as_slice-handler-items.ensures in
    let none : length before - c.args.at - 1 ≡ 0 = omega (arith, c.requires) in
    record {
      code = ap (λ ts. acts_of before ++ open_code ts) handlers;
      table = ap (λ cs. map catch_of cs ++ table_of (length before - c.args.at - 1) (handler_trees hs)) c.new-catches.ensures
          ∙ ap (λ n. table_of n (handler_trees hs)) none ∙ ap (λ ts. table_of 0 (handler_trees ts)) handlers;
      exits = ap (λ xs. xs ++ exits_from (length before) hs) c.new-exits.ensures ∙ ap (λ n. exits_from n hs) c.requires ∙ ap (exits_from (c.args.at + 1)) handlers;
      here = c.requires;
      longer = omega (arith, c.requires);
    }

pub append_handlers-append_all-requires : goal.append_handlers-append_all-requires
append_handlers-append_all-requires t c =
    let light = weight_handler c.as_slice-handler-items.result.now c.loop-handler.handler-index c.handler-item.result c.loop-handler-test.true c.handler-item.is in
    (omega (arith, light, ap (λ hs. handler_weights (handler_trees hs)) c.as_slice-handler-items.ensures, c.decreases), tt)

pub append_handlers-loop-handler-preserved : goal.append_handlers-loop-handler-preserved
append_handlers-loop-handler-preserved t c =
    let hs = c.as_slice-handler-items.result.now in
    let i = c.loop-handler.handler-index in
    let h = c.handler-item.result in
    let few = c.loop-handler-test.true in
    let is = c.handler-item.is in
    let before = c.loop-handler.code in
    let body = c.in_ok-append_all.ensures.code in
    let out = c.in_ok-push-3.ensures.ok in
    record {
      code = handlers_more hs i h before c.append_all.new.code c.push-in-loop-handler-2.new.self _ few is body out c.loop-handler.invariant.code;
      table = table_more hs i h before c.append_all.new.code c.push-in-loop-handler-2.new.self c.loop-handler.catches c.push.new.self c.args.at c.offset.result _ few is body out c.loop-handler.invariant.longer
          (c.offset.ensures ∙ ap (λ n. n - c.args.at - 1) c.len.ensures)
          (c.in_ok-push.ensures.ok ∙ ap (λ ps. c.loop-handler.catches ++ record { error = h.error; places = ps; offset = c.offset.result } ∷ []) c.in_ok-copy.ensures) c.loop-handler.invariant.table;
      exits = exits_more hs i h before c.append_all.new.code c.push-in-loop-handler-2.new.self c.loop-handler.exits c.push-in-loop-handler.new.self _ few is body out
          (c.in_ok-push-2.ensures.ok ∙ ap (λ n. c.loop-handler.exits ++ n ∷ []) c.len-in-loop-handler.ensures) c.loop-handler.invariant.exits;
      here = c.loop-handler.invariant.here;
      longer = omega (arith, c.loop-handler.invariant.longer, c.in_ok-append_all.ensures.longer, emitted_length c.push-in-loop-handler-2.new.self c.append_all.new.code (jump 0 ∷ []) (acts_pushed c.push-in-loop-handler-2.new.self c.append_all.new.code (I.Jump 0) out));
    }

pub append_handlers-lead_to_end-requires : goal.append_handlers-lead_to_end-requires
append_handlers-lead_to_end-requires t c =
    let hs = c.as_slice-handler-items.result.now in
    let i = c.loop-handler.handler-index in
    let code = handlers_done hs i c.loop-handler.code _ c.loop-handler-test.false c.loop-handler.invariant.code in
    let exits = exits_done hs i c.loop-handler.exits (length c.loop-handler.code) _ c.loop-handler-test.false c.loop-handler.invariant.exits in
    let long = emitted_length c.loop-handler.code c.args.code.now (open_code c.args.handlers.now) code in
    subst (All (λ exit. exit < length c.loop-handler.code)) (sym (c.as_slice.ensures ∙ exits))
    (exits_within c.args.handlers.now (c.args.at + 1) (length c.loop-handler.code) (omega (arith, long, c.loop-handler.invariant.here)))

pub append_handlers-returns-clause-code : goal.append_handlers-returns-clause-code
append_handlers-returns-clause-code t c =
    let hs = c.as_slice-handler-items.result.now in
    let i = c.loop-handler.handler-index in
    let code = handlers_done hs i c.loop-handler.code _ c.loop-handler-test.false c.loop-handler.invariant.code in
    let exits = exits_done hs i c.loop-handler.exits (length c.loop-handler.code) _ c.loop-handler-test.false c.loop-handler.invariant.exits in
    handlers_emitted c.args.code.now c.loop-handler.code c.lead_to_end.new.code c.args.handlers.now c.loop-handler.exits c.args.at code exits c.loop-handler.invariant.here
    (c.lead_to_end.ensures.code ∙ ap (λ xs. leading_to (length c.loop-handler.code) xs (acts_of c.loop-handler.code)) c.as_slice.ensures)

pub append_handlers-returns-clause-catches : goal.append_handlers-returns-clause-catches
append_handlers-returns-clause-catches t c =
    table_done c.as_slice-handler-items.result.now c.loop-handler.handler-index c.loop-handler.catches (length c.loop-handler.code - c.args.at - 1) _ c.loop-handler-test.false c.loop-handler.invariant.table
