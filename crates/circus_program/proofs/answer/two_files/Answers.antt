use Rattle.std.proofs.Common.{[], ◌∷◌, subst}
use Rattle.circus_program.specs.Seen.Step.{due_of, IsStepOfProgram}
use Rattle.circus_program.proofs.AnswerLemmas.{step-of_two, asks-more}
use Rattle.circus_program.proofs.answer.two_files.Goals as goal

pub returns-clause-due : goal.returns-clause-due
returns-clause-due g c =
    let told = rw c.in-Ok.ensures.contents at c.in_ok-step.ensures.due in
    let behind = subst (λ b. IsStepOfProgram (g.S.Shelf.contents c.args.shelf.now) c.args.second b c.args.file.now (due_of c.in_ok-step.step)) c.as_slice.ensures told in
    step-of_two (g.S.Shelf.contents c.args.shelf.now) c.args.second c.args.program.now c.in-Ok.bytes c.args.file.now _ c.in-Ok.ensures.told behind

pub returns-clause-asked : goal.returns-clause-asked
returns-clause-asked g c =
    asks-more _ _ _ c.args.program.now (c.args.file.now ∷ []) c.in-Ok.ensures.fetched c.in_ok-step.ensures.asked

pub returns-in_err-step-clause-asked : goal.returns-in_err-step-clause-asked
returns-in_err-step-clause-asked g c =
    asks-more _ _ _ c.args.program.now (c.args.file.now ∷ []) c.in-Ok.ensures.fetched c.in_err-step.ensures.asked
