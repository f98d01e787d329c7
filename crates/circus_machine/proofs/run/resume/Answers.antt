use Rattle.std.proofs.Common.{◌≡◌, ℕ, IfOk, Err, [], ◌∷◌, map, Some, slice_get, option_map, option_copied, sym, ap, subst, ◌∙◌, arith}
use Rattle.std.proofs.lemmas.List.{length-map}
use Rattle.std.proofs.lemmas.Option.{slice_get-map}
use Rattle.std.proofs.lemmas.Result.{IfOk-weaker}
use Rattle.circus_value.specs.declared.outcome.Outcome.TheVariants.{Raised}
use Rattle.circus_model.specs.LanguageError.{number_of}
use Rattle.circus_model.specs.Gives.{Gives}
use Rattle.circus_machine.specs.Meaning.{turn_by}
use Rattle.circus_machine.specs.Seen.Code.{reply_place, Comes, Follows}
use Rattle.circus_machine.specs.Seen.Instructions.{act_of, acts_of, catch_of}
use Rattle.circus_machine.specs.Seen.Running.{going_of, Does, beside, Awaits}
use Rattle.circus_machine.specs.declared.code.Instruction.TheVariants as I
use Rattle.circus_evaluate.proofs.Alike.{some_same}
use Rattle.circus_machine.proofs.Leading.{leads_there, read_there}
use Rattle.circus_machine.proofs.Turning.{gives_end, after_reply}
use Rattle.circus_machine.proofs.run.resume.Goals as goal

pub reply-requires-clause-place : goal.reply-requires-clause-place
reply-requires-clause-place c =
    let code = c.args.code.now in
    let at = c.args.paused.place in
    let ask = act_of (I.Ask c.in-Some-Ask.asking) in
    let here : slice_get (acts_of code) at ≡ Some ask = slice_get-map act_of code at ∙ ap (option_map act_of) (sym (read_there code at c.get.result c.get.ensures.lookup.3) ∙ ap option_copied c.in-Some-Ask.is) ∙ ap (λ i. Some (act_of i)) c.in-Some-Ask.field-0-is in
    omega (arith, leads_there (acts_of code) at ask c.requires.leads here, length-map code act_of)

pub returns-in-Ok : goal.returns-in-Ok
returns-in-Ok c = λ flow awaits.
    let limit = c.args.limit in
    let code = acts_of c.args.code.now in
    let states = c.args.paused.execution.variables.states in
    let at = c.args.paused.place in
    let reply = c.args.reply.now in
    let old = c.args.paused.execution in
    let new = c.reply.new.self in
    let asking = c.in-Some-Ask.asking in
    let here : slice_get code at ≡ Some (act_of (I.Ask asking)) = slice_get-map act_of c.args.code.now at ∙ ap (option_map act_of) (sym (read_there c.args.code.now at c.get.result c.get.ensures.lookup.3) ∙ ap option_copied c.in-Some-Ask.is) ∙ ap (λ i. Some (act_of i)) c.in-Some-Ask.field-0-is in
    let same = some_same _ _ (sym awaits.stands ∙ here) in
    let (kept, goes) = c.in-Ok.ensures in
    subst (λ n. IfOk c.run.result (Gives (Awaits limit n code (λ replies. flow (reply ∷ replies))) (turn_by limit n (flow (reply ∷ []))))) kept.states
    (c.run.ensures (λ replies. flow (reply ∷ replies))
    (λ replies.
    subst (λ n. Comes limit n code (flow (reply ∷ replies)) c.in-Ok.next (going_of new replies)) (sym kept.states)
    (subst (Follows limit states code (flow (reply ∷ replies))) (ap (after_reply limit states at reply (going_of old replies)) same ∙ goes replies) (awaits.goes reply replies))))

pub returns-in-Err-Raises : goal.returns-in-Err-Raises
returns-in-Err-Raises c = λ flow awaits.
    let limit = c.args.limit in
    let code = acts_of c.args.code.now in
    let states = c.args.paused.execution.variables.states in
    let at = c.args.paused.place in
    let reply = c.args.reply.now in
    let old = c.args.paused.execution in
    let new = c.reply.new.self in
    let asking = c.in-Some-Ask.asking in
    let here : slice_get code at ≡ Some (act_of (I.Ask asking)) = slice_get-map act_of c.args.code.now at ∙ ap (option_map act_of) (sym (read_there c.args.code.now at c.get.result c.get.ensures.lookup.3) ∙ ap option_copied c.in-Some-Ask.is) ∙ ap (λ i. Some (act_of i)) c.in-Some-Ask.field-0-is in
    let same = some_same _ _ (sym awaits.stands ∙ here) in
    let (kept, fails_so) = subst (λ f. Does (beside {A = ℕ}) (reply_place limit states at asking.into (map catch_of asking.catches) asking.skip reply) (Err f) old new) c.in-Err-Raises.field-0-is c.in-Err-Raises.ensures in
    IfOk-weaker c.fail_with.result _ _
    (λ turn. gives_end (Awaits limit states code (λ replies. flow (reply ∷ replies))) limit states (flow (reply ∷ [])) turn new kept (Raised (number_of c.in-Err-Raises.error) [])
    (subst (Follows limit states code (flow (reply ∷ []))) (ap (after_reply limit states at reply (going_of old [])) same ∙ fails_so []) (awaits.goes reply [])))
    c.fail_with.ensures
