use Rattle.std.proofs.Common.{◌≡◌, [], ◌∷◌, take, Ok, Err, Some, None, slice_get, option_map, option_copied, length, refl, sym, ap, subst, ◌∙◌, arith}
use Rattle.std.proofs.lemmas.List.{length-map}
use Rattle.std.proofs.lemmas.Option.{slice_get-map, slice_get_within}
use Rattle.std.proofs.lemmas.Result.{IfOk-weaker}
use Rattle.circus_value.specs.declared.outcome.Outcome.TheVariants.{Raised}
use Rattle.circus_model.specs.LanguageError.{number_of}
use Rattle.circus_model.specs.NextTurn as next_turn
use Rattle.circus_machine.specs.Meaning.{goes_on, ends, asks, fails, turn_by}
use Rattle.circus_machine.specs.Seen.Code.{act, reply_place}
use Rattle.circus_machine.specs.Seen.Instructions.{act_of, acts_of}
use Rattle.circus_machine.specs.Seen.Running.{going_of, Moves, GoesAhead, Awaits}
use Rattle.circus_machine.proofs.Following.{by_move, past}
use Rattle.circus_machine.proofs.Leading.{leads_there, read_there}
use Rattle.circus_machine.proofs.Turning.{gives_end, gives_behind, falls}
use Rattle.circus_machine.proofs.run.run.Goals as goal

pub returns-in_default : goal.returns-in_default
returns-in_default c = λ flow start.
    let code = acts_of c.args.code.now in
    let states = c.args.execution.variables.states in
    let e = c.loop-instruction.execution in
    let none : slice_get code c.loop-instruction.place ≡ None =
    slice_get-map act_of c.args.code.now c.loop-instruction.place ∙ ap (option_map act_of) (sym (read_there c.args.code.now c.loop-instruction.place c.get.result c.get.ensures.lookup.3) ∙ ap option_copied c.in_default.is) in
    IfOk-weaker c.fail_with.result _ _
    (λ turn. gives_behind (Awaits c.args.limit states code flow) c.args.limit states (flow []) turn e c.loop-instruction.invariant.states (going_of e [])
    (past c.args.limit states code (flow []) c.loop-instruction.place (going_of e []) none (c.loop-instruction.invariant.comes flow start [])) refl) c.fail_with.ensures

pub step-requires-clause-place : goal.step-requires-clause-place
step-requires-clause-place c =
    let here = sym (read_there c.args.code.now c.loop-instruction.place c.get.result c.get.ensures.lookup.3) ∙ ap option_copied c.in-Some.is in
    let code = c.args.code.now in
    let i = c.in-Some.instruction.now in
    omega (arith, leads_there (acts_of code) c.loop-instruction.place (act_of i) c.requires.leads (slice_get-map act_of code c.loop-instruction.place ∙ ap (option_map act_of) here), length-map code act_of)

pub loop-instruction-smaller : goal.loop-instruction-smaller
loop-instruction-smaller c =
    let here = sym (read_there c.args.code.now c.loop-instruction.place c.get.result c.get.ensures.lookup.3) ∙ ap option_copied c.in-Some.is in
    falls c.step.new.self.steps c.loop-instruction.execution.steps (length c.args.code.now) c.loop-instruction.place c.in-Ok-Goes.next
    (subst (λ m. GoesAhead c.loop-instruction.place (Ok m) c.loop-instruction.execution c.step.new.self) c.in-Ok-Goes.field-0-is c.in-Ok-Goes.ensures.ahead)
    (slice_get_within c.args.code.now c.loop-instruction.place c.in-Some.instruction.now here)

pub loop-instruction-preserved : goal.loop-instruction-preserved
loop-instruction-preserved c =
    let code = acts_of c.args.code.now in
    let states = c.args.execution.variables.states in
    let e = c.loop-instruction.execution in
    let at = c.loop-instruction.place in
    let a = act_of c.in-Some.instruction.now in
    let same = c.loop-instruction.invariant.states in
    let here : slice_get code at ≡ Some a = slice_get-map act_of c.args.code.now at ∙ ap (option_map act_of) (sym (read_there c.args.code.now c.loop-instruction.place c.get.result c.get.ensures.lookup.3) ∙ ap option_copied c.in-Some.is) in
    let (kept, moves) = subst (λ m. Moves c.args.limit e.variables.states a at (Ok m) e c.step.new.self) c.in-Ok-Goes.field-0-is c.in-Ok-Goes.ensures.moves in
    record {
      states = kept.states ∙ same;
      sized = kept.sized;
      comes = λ flow start replies.
          by_move c.args.limit states code (flow replies) a at (going_of e replies) (goes_on (c.in-Ok-Goes.next, going_of c.step.new.self replies)) here
          (ap (λ n. act c.args.limit n a at (going_of e replies)) (sym same) ∙ moves replies) (c.loop-instruction.invariant.comes flow start replies);
    }

pub returns-in-Ok-Ends : goal.returns-in-Ok-Ends
returns-in-Ok-Ends c = λ flow start.
    let code = acts_of c.args.code.now in
    let states = c.args.execution.variables.states in
    let e = c.loop-instruction.execution in
    let at = c.loop-instruction.place in
    let a = act_of c.in-Some.instruction.now in
    let same = c.loop-instruction.invariant.states in
    let here : slice_get code at ≡ Some a = slice_get-map act_of c.args.code.now at ∙ ap (option_map act_of) (sym (read_there c.args.code.now c.loop-instruction.place c.get.result c.get.ensures.lookup.3) ∙ ap option_copied c.in-Some.is) in
    let (kept, moves) = subst (λ m. Moves c.args.limit e.variables.states a at (Ok m) e c.step.new.self) c.in-Ok-Ends.field-0-is c.in-Ok-Ends.ensures.moves in
    IfOk-weaker c.end_with.result _ _
    (λ turn. gives_end (Awaits c.args.limit states code flow) c.args.limit states (flow []) turn c.step.new.self (kept ∙ same) c.in-Ok-Ends.outcome
    (by_move c.args.limit states code (flow []) a at (going_of e []) (ends c.in-Ok-Ends.outcome c.step.new.self.variables.values) here
    (ap (λ n. act c.args.limit n a at (going_of e [])) (sym same) ∙ moves []) (c.loop-instruction.invariant.comes flow start [])))
    c.end_with.ensures

pub returns-in-Err-Raises : goal.returns-in-Err-Raises
returns-in-Err-Raises c = λ flow start.
    let code = acts_of c.args.code.now in
    let states = c.args.execution.variables.states in
    let e = c.loop-instruction.execution in
    let at = c.loop-instruction.place in
    let a = act_of c.in-Some.instruction.now in
    let same = c.loop-instruction.invariant.states in
    let here : slice_get code at ≡ Some a = slice_get-map act_of c.args.code.now at ∙ ap (option_map act_of) (sym (read_there c.args.code.now c.loop-instruction.place c.get.result c.get.ensures.lookup.3) ∙ ap option_copied c.in-Some.is) in
    let (kept, moves) = subst (λ m. Moves c.args.limit e.variables.states a at (Err m) e c.step.new.self) c.in-Err-Raises.field-0-is c.in-Err-Raises.ensures.moves in
    IfOk-weaker c.fail_with-in-Err-Raises.result _ _
    (λ turn. gives_end (Awaits c.args.limit states code flow) c.args.limit states (flow []) turn c.step.new.self (kept ∙ same) (Raised (number_of c.in-Err-Raises.error) [])
    (by_move c.args.limit states code (flow []) a at (going_of e []) (fails c.in-Err-Raises.error c.step.new.self.variables.values) here
    (ap (λ n. act c.args.limit n a at (going_of e [])) (sym same) ∙ moves []) (c.loop-instruction.invariant.comes flow start [])))
    c.fail_with-in-Err-Raises.ensures

pub returns-in-Ok-Asks : goal.returns-in-Ok-Asks
returns-in-Ok-Asks c = λ flow start.
    let code = acts_of c.args.code.now in
    let states = c.args.execution.variables.states in
    let e = c.loop-instruction.execution in
    let new = c.step.new.self in
    let at = c.loop-instruction.place in
    let a = act_of c.in-Some.instruction.now in
    let same = c.loop-instruction.invariant.states in
    let here : slice_get code at ≡ Some a = slice_get-map act_of c.args.code.now at ∙ ap (option_map act_of) (sym (read_there c.args.code.now c.loop-instruction.place c.get.result c.get.ensures.lookup.3) ∙ ap option_copied c.in-Some.is) in
    let (kept, asking) = subst (λ m. Moves c.args.limit e.variables.states a at (Ok m) e c.step.new.self) c.in-Ok-Asks.field-0-is c.in-Ok-Asks.ensures.moves in
    let callee = c.in-Ok-Asks.callee in
    let procedure = c.in-Ok-Asks.procedure in
    let arguments = c.in-Ok-Asks.arguments in
    let is : flow [] ≡ asks callee procedure arguments asking.before =
    by_move c.args.limit states code (flow []) a at (going_of e []) (asks callee procedure arguments asking.before) here
    (ap (λ n. act c.args.limit n a at (going_of e [])) (sym same) ∙ asking.asks) (c.loop-instruction.invariant.comes flow start []) in (
      ap (turn_by c.args.limit states) is ∙ ap (λ vs. next_turn.asks callee procedure arguments (take states vs)) asking.shows
          ∙ ap (λ n. next_turn.asks callee procedure arguments (take n new.variables.values)) (sym (kept.states ∙ same)) ∙ ap (λ s. next_turn.asks callee procedure arguments s) (sym c.in_ok-state-in-Ok-Asks.ensures),
      record {
        callee = callee;
        procedure = procedure;
        expressions = asking.expressions;
        into = asking.into;
        table = asking.table;
        skip = asking.skip;
        stands = here ∙ ap (λ x. Some x) asking.is;
        kept = kept.states ∙ same;
        sized = kept.sized;
        goes = λ reply replies.
            by_move c.args.limit states code (flow (reply ∷ replies)) a at (going_of e (reply ∷ replies)) (reply_place c.args.limit states at asking.into asking.table asking.skip reply (going_of new replies)) here
            (subst (λ n. act c.args.limit n a at (going_of e (reply ∷ replies)) ≡ reply_place c.args.limit n at asking.into asking.table asking.skip reply (going_of new replies)) same (asking.goes reply replies))
            (c.loop-instruction.invariant.comes flow start (reply ∷ replies));
      },
    )
