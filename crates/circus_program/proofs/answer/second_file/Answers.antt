use Rattle.std.proofs.Common.{refl, subst, [], ◌∷◌}
use Rattle.circus_program.specs.Answer.{IsDueOfSecond}
use Rattle.circus_program.specs.Seen.Step.{due_of}
use Rattle.circus_program.proofs.AnswerLemmas.{fetched-none, fetched-more, noted-none}
use Rattle.circus_program.proofs.answer.second_file.Goals as goal

pub returns-in-Err-Failed-clause-due : goal.returns-in-Err-Failed-clause-due
returns-in-Err-Failed-clause-due g c =
    record { files = []; fetched = fetched-none (g.S.Shelf.contents c.args.shelf.now) (c.args.file.now ∷ []); is_due = refl }

pub returns-clause-due : goal.returns-clause-due
returns-clause-due g c =
    let shelf = g.S.Shelf.contents c.args.shelf.now in
    record {
      files = c.in-Ok.bytes ∷ [];
      fetched = fetched-more shelf c.args.file.now c.in-Ok.bytes [] [] c.in-Ok.ensures.told (fetched-none shelf []);
      is_due = subst (λ text. IsDueOfSecond c.args.second c.args.plan text (due_of c.in_ok-step.step)) c.as_slice.ensures c.in_ok-step.ensures.due;
    }

pub returns-clause-lack : goal.returns-clause-lack
returns-clause-lack g c = noted-none _ _ _ c.in_ok-step.step c.in_ok-step.ensures.whole
