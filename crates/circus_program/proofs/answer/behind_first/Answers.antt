use Rattle.std.proofs.Common.{inr, refl, subst, IfOk, IfErr}
use Rattle.circus_config.specs.Program.{IsProgramOf}
use Rattle.circus_audit.proofs.ModuleNames.{names_of, words_of}
use Rattle.circus_commands.specs.Refusal.{IsEndOfRefused}
use Rattle.circus_commands.specs.Seen.Ending.{ending_of}
use Rattle.circus_program.proofs.AnswerLemmas.{behind-good}
use Rattle.circus_program.proofs.answer.behind_first.Goals as goal

pub second_file-requires-clause-named : goal.second_file-requires-clause-named
second_file-requires-clause-named g c =
    let means = subst (λ r. IfOk r (IsProgramOf c.args.program.now)) c.in-Ok.is c.in_ok-plan.ensures.program in
    record { names = names_of c.args.program.now c.in-Ok.plan means; words = words_of c.args.program.now c.in-Ok.plan means }

pub returns-in-Ok-clause-due : goal.returns-in-Ok-clause-due
returns-in-Ok-clause-due g c =
    let means = subst (λ r. IfOk r (IsProgramOf c.args.program.now)) c.in-Ok.is c.in_ok-plan.ensures.program in
    behind-good (g.S.Shelf.contents c.args.shelf.now) c.args.second c.args.program.now c.args.file.now c.in-Ok.plan c.second_file.result means c.second_file.ensures.due

pub returns-in-Err-clause-due : goal.returns-in-Err-clause-due
returns-in-Err-clause-due g c =
    let refused = subst (λ r. IfErr r (λ ending. IsEndOfRefused c.args.program.now (ending_of ending))) c.in-Err.is c.in_ok-plan.ensures.refused in
    inr (ending_of c.in-Err.refused, refused, refl)
