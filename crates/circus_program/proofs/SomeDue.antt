-- Words come to something.
use Rattle.std.proofs.Common.{◌≡◌, ℕ, ◌⊎◌, inl, inr, Option, Some, None, List, [], ◌∷◌, refl}
use Rattle.circus_config.specs.declared.plan.Plan.{Plan}
use Rattle.circus_config.specs.Program.{IsProgramOf}
use Rattle.circus_commands.specs.Ending.{Ending}
use Rattle.circus_simulation.specs.Sample.{sample_of}
use Rattle.circus_simulation.specs.Schedule.{schedule_of}
use Rattle.circus_simulation.specs.Settle.{settle_of}
use Rattle.circus_node_command.specs.Named.{no_node}
use Rattle.circus_program.specs.Form.{CommandForm, stubs, run, replay, picture, node, sample, draw, settle, place, audit, files_of, IsOfForm, second_form}
use Rattle.circus_program.specs.declared.shown.Shown.TheVariants.{Report, Picture}
use Rattle.circus_program.specs.declared.second.Second.{Second}
use Rattle.circus_program.specs.declared.second.Second.TheVariants.{Schedule, NodeRecord}
use Rattle.circus_program.specs.Answer.{Due, fetch, finish, serve, bad_command_line, IsDueOfTwo, IsDueOfForm, AreContents}
use Rattle.circus_program.specs.Last.{IsLast, IsDueLast, file_read, IsToBeRead, IsSecondAnswered, IsTwoAnswered, IsAnswered}
use Rattle.circus_program.proofs.DecidedWords.{decided_form}
use Rattle.circus_program.proofs.NamedOnce.{decided_named}

module _ (contents : List ℕ → Option (List ℕ)) where
  record Comes (form : CommandForm) : Type 0 where
    due : Due
    files : List (List ℕ)
    fetched : AreContents contents (files_of form) files
    is_due : IsDueOfForm form files due
    last : IsLast contents due

  -- a form that has these words
  due_of : (words : List (List ℕ)) (form : CommandForm) → IsOfForm words form → Comes form → (due : Due) × IsDueLast contents words due
  due_of words form of c = (c.due, record { is_due = inl (record { form = form; of_form = of; files = c.files; fetched = c.fetched; is_due = c.is_due }); last = c.last })

  -- ---- the first file isn't there, or is to be read

  -- the fetch of the first file is due where that isn't there
  fetch_due : (form : CommandForm) → IsDueOfForm form [] (fetch (file_read form))
  fetch_due (replay _ _) = refl
  fetch_due (picture _ _) = refl
  fetch_due (place _) = refl
  fetch_due (stubs _) = refl
  fetch_due (run _) = refl
  fetch_due (node _ _ _) = refl
  fetch_due (sample _ _ _) = refl
  fetch_due (draw _ _ _) = refl
  fetch_due (settle _ _) = refl
  fetch_due (audit _ _) = refl

  abbrev IsThere : CommandForm → Type 0
  IsThere form = (bytes : List ℕ) × (contents (file_read form) ≡ Some bytes)

  comes_to : (form : CommandForm) → Comes form ⊎ IsThere form
  comes_to form =
      elim (contents (file_read form)) as (λ o. contents (file_read form) ≡ o → Comes form ⊎ IsThere form) [
        | None ↦ λ none. inl (record { due = fetch (file_read form); files = []; fetched = tt; is_due = fetch_due form; last = none })
        | Some bytes ↦ λ there. inr (bytes, there)
      ] refl

  pub some_due : (words : List (List ℕ)) → ((due : Due) × IsDueLast contents words due) ⊎ IsToBeRead contents words
  some_due words = elim (decided_form words) [
    | inr none ↦ inl (bad_command_line, record { is_due = inr (none, refl); last = tt })
    | inl (form, of_form) ↦ elim (comes_to form) [
      | inl c ↦ inl (due_of words form of_form c)
      | inr (bytes, there) ↦ inr (record { form = form; of_form = of_form; bytes = bytes; there = there })
    ]
  ]

  -- ---- it is read

  -- what comes of both files, as far as they are there
  record ComesOfTwo (second : Second) (program file : List ℕ) : Type 0 where
    due : Due
    files : List (List ℕ)
    fetched : AreContents contents (program ∷ file ∷ []) files
    is_due : IsDueOfTwo second program file files due
    last : IsLast contents due

  of_two : (second : Second) (program file : List ℕ) → ComesOfTwo second program file → Comes (second_form second program file)
  of_two (Schedule Report) program file c = record { due = c.due; files = c.files; fetched = c.fetched; is_due = c.is_due; last = c.last }
  of_two (Schedule Picture) program file c = record { due = c.due; files = c.files; fetched = c.fetched; is_due = c.is_due; last = c.last }
  of_two NodeRecord program file c = record { due = c.due; files = c.files; fetched = c.fetched; is_due = c.is_due; last = c.last }

  read_second : (second : Second) (program file bytes : List ℕ) (plan : Plan) → contents program ≡ Some bytes → IsProgramOf bytes plan → IsSecondAnswered second plan (contents file)
      → ComesOfTwo second program file
  read_second second program file bytes plan there means =
      elim (contents file) as (λ o. contents file ≡ o → IsSecondAnswered second plan o → ComesOfTwo second program file) [
        | None ↦ λ none answered. record { due = fetch file; files = bytes ∷ []; fetched = (there, tt); is_due = inl ((plan, means), refl); last = none }
        | Some more ↦ λ here answered. record {
          due = finish answered.0;
          files = bytes ∷ more ∷ [];
          fetched = (there, (here, tt));
          is_due = (plan, means, (answered.0, answered.1, refl));
          last = tt;
        }
      ] refl

  read_two : (second : Second) (program file bytes : List ℕ) → contents program ≡ Some bytes → IsTwoAnswered second (contents file) bytes → Comes (second_form second program file)
  read_two second program file bytes there (inl (plan, means, answered)) = of_two second program file (read_second second program file bytes plan there means answered)
  read_two second program file bytes there (inr (ending, refused)) =
      of_two second program file (record { due = finish ending; files = bytes ∷ []; fetched = (there, tt); is_due = inr (ending, refused, refl); last = tt })

  read_node : (program name : List ℕ) (turns : ℕ) (bytes : List ℕ) (plan : Plan) → contents program ≡ Some bytes → IsProgramOf bytes plan → Comes (node program name turns)
  read_node program name turns bytes plan there means = elim (decided_named plan.deployment name) [
    | inl (number, named) ↦ record {
      due = serve plan number turns;
      files = bytes ∷ [];
      fetched = (there, tt);
      is_due = inl (plan, means, inl (number, named, refl));
      last = tt;
    }
    | inr none ↦ record { due = finish (no_node name); files = bytes ∷ []; fetched = (there, tt); is_due = inl (plan, means, inr (none, refl)); last = tt }
  ]

  -- a command of one file that comes to this end
  read_end : (form : CommandForm) (bytes : List ℕ) (ending : Ending) → AreContents contents (files_of form) (bytes ∷ []) → IsDueOfForm form (bytes ∷ []) (finish ending) → Comes form
  read_end form bytes ending fetched is = record { due = finish ending; files = bytes ∷ []; fetched = fetched; is_due = is; last = tt }

  comes_read : (form : CommandForm) (bytes : List ℕ) → contents (file_read form) ≡ Some bytes → IsAnswered contents form bytes → Comes form
  comes_read (replay program schedule) bytes there answered = read_two (Schedule Report) program schedule bytes there answered
  comes_read (picture program schedule) bytes there answered = read_two (Schedule Picture) program schedule bytes there answered
  comes_read (audit program «record») bytes there answered = read_two NodeRecord program «record» bytes there answered
  comes_read (stubs program) bytes there (ending, end) = read_end (stubs program) bytes ending (there, tt) (ending, end, refl)
  comes_read (run program) bytes there (ending, end) = read_end (run program) bytes ending (there, tt) (ending, end, refl)
  comes_read (place placing) bytes there (ending, end) = read_end (place placing) bytes ending (there, tt) (ending, end, refl)
  comes_read (node program own turns) bytes there (inl (plan, means)) = read_node program own turns bytes plan there means
  comes_read (node program own turns) bytes there (inr (ending, refused)) = read_end (node program own turns) bytes ending (there, tt) (inr (ending, refused, refl))
  comes_read (sample program seed steps) bytes there (inl (plan, means)) =
      read_end (sample program seed steps) bytes (sample_of plan seed steps) (there, tt) (inl (plan, means, refl))
  comes_read (sample program seed steps) bytes there (inr (ending, refused)) = read_end (sample program seed steps) bytes ending (there, tt) (inr (ending, refused, refl))
  comes_read (draw program seed steps) bytes there (inl (plan, means)) =
      read_end (draw program seed steps) bytes (schedule_of plan seed steps) (there, tt) (inl (plan, means, refl))
  comes_read (draw program seed steps) bytes there (inr (ending, refused)) = read_end (draw program seed steps) bytes ending (there, tt) (inr (ending, refused, refl))
  comes_read (settle program deliveries) bytes there (inl (plan, means)) =
      read_end (settle program deliveries) bytes (settle_of plan deliveries) (there, tt) (inl (plan, means, refl))
  comes_read (settle program deliveries) bytes there (inr (ending, refused)) = read_end (settle program deliveries) bytes ending (there, tt) (inr (ending, refused, refl))

  pub read_due : (words : List (List ℕ)) (file : IsToBeRead contents words) → IsAnswered contents file.form file.bytes → (due : Due) × IsDueLast contents words due
  read_due words file answered = due_of words file.form file.of_form (comes_read file.form file.bytes file.there answered)
