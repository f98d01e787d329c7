use Rattle.std.proofs.Common.{refl, subst, [], ◌∷◌}
use Rattle.circus_program.specs.Seen.Asked.{IsDueOfCommand}
use Rattle.circus_program.specs.Seen.Step.{due_of}
use Rattle.circus_program.specs.Seen.Known.{AreKnownBy}
use Rattle.circus_program.proofs.AnswerLemmas.{fetched-none, step-of_file, noted-none}
use Rattle.circus_program.proofs.Known.{of_contents}
use Rattle.circus_program.proofs.answer.one_file.Goals as goal

pub returns-in-Err-Failed-clause-due : goal.returns-in-Err-Failed-clause-due
returns-in-Err-Failed-clause-due g c =
    record { files = []; fetched = fetched-none (g.S.Shelf.contents c.args.shelf.now) (c.args.name.now ∷ []); is_due = refl }

pub returns-clause-due : goal.returns-clause-due
returns-clause-due g c =
    step-of_file (g.S.Shelf.contents c.args.shelf.now) c.args.name.now c.in-Ok.bytes (IsDueOfCommand c.args.command) (due_of c.in_ok-step.step) c.in-Ok.ensures.told
    (subst (λ bytes. IsDueOfCommand c.args.command bytes (due_of c.in_ok-step.step)) c.as_slice.ensures c.in_ok-step.ensures.due)

pub returns-clause-lack : goal.returns-clause-lack
returns-clause-lack g c = noted-none _ _ _ c.in_ok-step.step c.in_ok-step.ensures.whole

pub returns-clause-known : goal.returns-clause-known
returns-clause-known g c = λ none.
    of_contents (g.S.Shelf.contents c.args.shelf.now) (AreKnownBy c.args.command) c.args.name.now c.in-Ok.bytes c.in-Ok.ensures.told
    (subst (AreKnownBy c.args.command) c.as_slice.ensures c.in_ok-step.ensures.known)
