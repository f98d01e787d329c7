use Rattle.std.proofs.Common.{◌≡◌, ◌++◌, IfOk, List, [], length, sym, ap, subst, ◌∙◌}
use Rattle.circus_value.specs.declared.outcome.Outcome.{Outcome}
use Rattle.circus_model.specs.Gives.{Gives}
use Rattle.circus_checked.specs.StatementTree.{statement_trees}
use Rattle.circus_machine.specs.Meaning.{Going, Flow, most_steps, beginning, turn_by}
use Rattle.circus_machine.specs.Bodies.{flow_of, next_turn}
use Rattle.circus_machine.specs.Seen.Code.{Comes, LeadsWithin, codes_of}
use Rattle.circus_machine.specs.Seen.Instructions.{acts_of}
use Rattle.circus_machine.specs.Seen.Running.{going_of, Awaits}
use Rattle.circus_machine.specs.declared.execution.Execution.{Execution}
use Rattle.circus_machine.proofs.Compiling.{body_comes}
use Rattle.circus_machine.proofs.Leading.{codes_lead}
use Rattle.circus_machine.proofs.Turning.{result_pauses}
use Rattle.circus_machine.proofs.body.Body.start.Goals as goal

pub run-requires-clause-leads : goal.run-requires-clause-leads
run-requires-clause-leads c =
    let self = c.args.self.now in
    subst LeadsWithin (sym (ap acts_of c.as_slice.ensures ∙ self.compiled)) (codes_lead (statement_trees self.statements))

pub returns-clause-turn : goal.returns-clause-turn
returns-clause-turn c =
    let limit = c.args.limit in
    let self = c.args.self.now in
    let state = c.args.state in
    let others = c.args.arguments.now ++ self.locals in
    let trees = statement_trees self.statements in
    let v = c.in_ok-variables.variables in
    let execution : Execution = record { variables = v; steps = 1000000; asks = 0 } in
    let flow : List Outcome → Flow Going = flow_of limit self.statements self.locals state c.args.arguments.now in
    let code = acts_of c.as_slice.result.now in
    let compiled : code ≡ codes_of trees = ap acts_of c.as_slice.ensures ∙ self.compiled in
    let comes : (replies : List Outcome) → Comes limit v.states code (flow replies) 0 (going_of execution replies) =
    λ replies.
    subst (λ n. Comes limit n code (flow replies) 0 (going_of execution replies)) (sym c.in_ok-variables.ensures.states)
    (subst (λ xs. Comes limit (length state) xs (flow replies) 0 (going_of execution replies)) (sym compiled)
    (subst (λ vs. Comes limit (length state) (codes_of trees) (flow replies) 0 (record { variables = vs; steps = most_steps; replies = replies; asks = 0 })) (sym c.in_ok-variables.ensures.values)
    (body_comes limit (length state) trees (beginning limit (length state) state others replies)))) in
    subst (λ n. IfOk c.run.result (Gives (Awaits limit n (codes_of trees) flow) (turn_by limit n (flow [])))) c.in_ok-variables.ensures.states
    (subst (λ xs. IfOk c.run.result (Gives (Awaits limit v.states xs flow) (turn_by limit v.states (flow [])))) compiled
    (c.run.ensures flow comes))

pub returns-clause-pauses : goal.returns-clause-pauses
returns-clause-pauses c =
    let self = c.args.self.now in
    result_pauses c.args.limit self.statements self.locals c.args.state c.args.arguments.now [] (next_turn c.args.limit self.statements self.locals c.args.state c.args.arguments.now []) c.run.result (returns-clause-turn c)
