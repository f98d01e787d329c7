use Rattle.std.proofs.Common.{◌≡◌, ◌++◌, ◌∷◌, [], IfOk, List, length, slice_get, sym, ap, subst, ◌∙◌, append_assoc}
use Rattle.circus_value.specs.declared.outcome.Outcome.{Outcome}
use Rattle.circus_model.specs.Gives.{Gives}
use Rattle.circus_checked.specs.StatementTree.{statement_trees}
use Rattle.circus_machine.specs.Meaning.{Going, Flow, turn_by}
use Rattle.circus_machine.specs.Bodies.{flow_of, next_turn}
use Rattle.circus_machine.specs.Seen.Code.{LeadsWithin, codes_of}
use Rattle.circus_machine.specs.Seen.Instructions.{acts_of}
use Rattle.circus_machine.specs.Seen.Running.{is_ask, Awaits}
use Rattle.circus_machine.proofs.Leading.{codes_lead}
use Rattle.circus_machine.proofs.Turning.{awaits_same, gives_more, if_ok_more, result_pauses}
use Rattle.circus_machine.proofs.body.Body.resume.Goals as goal

pub resume-requires-clause-leads : goal.resume-requires-clause-leads
resume-requires-clause-leads c =
    let self = c.args.self.now in
    subst LeadsWithin (sym (ap acts_of c.as_slice.ensures ∙ self.compiled)) (codes_lead (statement_trees self.statements))

pub resume-requires-clause-asking : goal.resume-requires-clause-asking
resume-requires-clause-asking c =
    ap (λ xs. is_ask (slice_get xs c.args.paused.place)) (ap acts_of c.as_slice.ensures ∙ c.args.self.now.compiled) ∙ ap is_ask c.requires.stands.stands

pub returns-clause-turn : goal.returns-clause-turn
returns-clause-turn c = λ state arguments replies stands.
    let limit = c.args.limit in
    let self = c.args.self.now in
    let states = length state in
    let seen = c.args.paused.execution.variables.states in
    let reply = c.args.reply.now in
    let codes = codes_of (statement_trees self.statements) in
    let flow : List Outcome → Flow Going = λ more. flow_of limit self.statements self.locals state arguments (replies ++ more) in
    let later : List Outcome → Flow Going = λ more. flow (reply ∷ more) in
    let code = acts_of c.as_slice.result.now in
    let compiled : code ≡ codes = ap acts_of c.as_slice.ensures ∙ self.compiled in
    let awaits : Awaits limit seen code flow c.args.paused =
    subst (λ n. Awaits limit n code flow c.args.paused) (sym stands.kept) (subst (λ xs. Awaits limit states xs flow c.args.paused) (sym compiled) stands) in
    let turn = turn_by limit states (later []) in
    if_ok_more c.resume.result (Gives (Awaits limit states codes later) turn)
    (Gives (Awaits limit states codes (λ more. flow_of limit self.statements self.locals state arguments ((replies ++ reply ∷ []) ++ more))) turn)
    (gives_more (Awaits limit states codes later) (Awaits limit states codes (λ more. flow_of limit self.statements self.locals state arguments ((replies ++ reply ∷ []) ++ more))) turn
    (awaits_same limit states codes later (λ more. flow_of limit self.statements self.locals state arguments ((replies ++ reply ∷ []) ++ more))
    (λ next more. ap (flow_of limit self.statements self.locals state arguments) (sym (append_assoc replies (reply ∷ []) (next ∷ more))))))
    (subst (λ n. IfOk c.resume.result (Gives (Awaits limit n codes later) (turn_by limit n (later [])))) stands.kept
    (subst (λ xs. IfOk c.resume.result (Gives (Awaits limit seen xs later) (turn_by limit seen (later [])))) compiled
    (c.resume.ensures flow awaits)))

pub returns-clause-pauses : goal.returns-clause-pauses
returns-clause-pauses c =
    let limit = c.args.limit in
    let self = c.args.self.now in
    let of = c.requires in
    let replies = of.replies ++ c.args.reply.now ∷ [] in
    result_pauses limit self.statements self.locals of.state of.arguments replies (next_turn limit self.statements self.locals of.state of.arguments replies) c.resume.result (returns-clause-turn c of.state of.arguments of.replies of.stands)
