-- What was fetched and asked for, file by file.
use Rattle.std.proofs.Common.{◌≡◌, ℕ, inl, inr, Option, Some, None, List, [], ◌∷◌, ap, subst, ◌∙◌, Result, Ok, Err, IfOk}
use Rattle.std.specs.Prelude.{IfSome}
use Rattle.circus_outside.specs.Told.{told_more}
use Rattle.circus_program.specs.declared.answer.Step.{Step}
use Rattle.circus_config.specs.declared.plan.Plan.{Plan}
use Rattle.circus_config.specs.Program.{IsProgramOf}
use Rattle.circus_program.specs.declared.answer.Step.TheVariants.{Finish, Lack, History, Replay, Serve}
use Rattle.circus_commands.specs.declared.one_file.OneFile.TheVariants.{Stubs, Run, Place}
use Rattle.circus_program.specs.Form.{CommandForm, stubs, run, node, sample, draw, settle, place, IsOfForm, replay, picture, audit, second_form}
use Rattle.circus_program.specs.declared.answer.Command.{Command}
use Rattle.circus_program.specs.declared.answer.Command.TheVariants.{End, OfPlan}
use Rattle.circus_program.specs.declared.answer.Task.TheVariants.{Sample, Lines, Settle, Node}
use Rattle.circus_program.specs.declared.shown.Shown.TheVariants.{Report, Picture}
use Rattle.circus_program.specs.declared.second.Second.{Second}
use Rattle.circus_program.specs.declared.second.Second.TheVariants.{Schedule, NodeRecord}
use Rattle.circus_program.specs.Answer.{Due, IsDueOfTwo, IsDueOfProgram, IsDue, AreFetchedOf, AsksFirstOf, AsksOnly}
use Rattle.circus_program.specs.Seen.Asked.{IsDueOfCommand, file_form}
use Rattle.circus_program.specs.Seen.Step.{due_of, LacksNone, IsLackNoted, IsDueBehind, IsStepBehind, IsStepOfProgram, IsStepOfTwo, IsStepOfFile}
use Rattle.circus_report.proofs.ToldLemmas.{told_more-twice}

-- nothing was fetched
pub fetched-none : (shelf : Option (List ℕ → Option (List ℕ))) (names : List (List ℕ)) → AreFetchedOf shelf names []
fetched-none None names = tt
fetched-none (Some contents) names = tt

-- one file was fetched before the others
pub fetched-more : (shelf : Option (List ℕ → Option (List ℕ))) (name bytes : List ℕ) (names files : List (List ℕ)) → IfSome shelf (λ told. told name ≡ Some bytes) → AreFetchedOf shelf names files → AreFetchedOf shelf (name ∷ names) (bytes ∷ files)
fetched-more None name bytes names files e h = tt
fetched-more (Some contents) name bytes names files e h = (e, h)

-- what is due behind the program is due of both files
behind-two : (second : Second) (program bytes file : List ℕ) (plan : Plan) (due : Due) (files : List (List ℕ)) → IsProgramOf bytes plan → IsDueBehind second plan file files due
    → IsDueOfTwo second program file (bytes ∷ files) due
behind-two second program bytes file plan due [] means h = inl ((plan, means), h)
behind-two second program bytes file plan due (more ∷ []) means h = (plan, means, h)
behind-two second program bytes file plan due (_ ∷ _ ∷ _) means h = absurd h

-- a step behind the first file is one of both
pub step-of_two : (shelf : Option (List ℕ → Option (List ℕ))) (second : Second) (program bytes file : List ℕ) (due : Due) → IfSome shelf (λ told. told program ≡ Some bytes) → IsStepOfProgram shelf second bytes file due
    → IsStepOfTwo shelf second program file due
step-of_two shelf second program bytes file due told (inl (plan, means, h)) =
    record {
      files = bytes ∷ h.files;
      fetched = fetched-more shelf program bytes (file ∷ []) h.files told h.fetched;
      is_due = behind-two second program bytes file plan due h.files means h.is_due;
    }
step-of_two shelf second program bytes file due told (inr refused) =
    record {
      files = bytes ∷ [];
      fetched = fetched-more shelf program bytes (file ∷ []) [] told (fetched-none shelf (file ∷ []));
      is_due = inr refused;
    }

-- a step behind a program
pub behind-good : {E : Type 0} (shelf : Option (List ℕ → Option (List ℕ))) (second : Second) (program file : List ℕ) (plan : Plan) (r : Result Step E) → IsProgramOf program plan
    → IfOk r (λ step. IsStepBehind shelf second plan file (due_of step)) → IfOk r (λ step. IsStepOfProgram shelf second program file (due_of step))
behind-good shelf second program file plan (Ok step) means behind = inl (plan, means, behind)
behind-good shelf second program file plan (Err e) means behind = tt

-- the name that was asked for first, and then others
pub asks-more : (old middle new : Option (List (List ℕ))) (name : List ℕ) (names : List (List ℕ)) → middle ≡ told_more old (name ∷ []) → AsksFirstOf middle new names → AsksFirstOf old new (name ∷ names)
asks-more old middle new name names e h =
    record {
      asked = name ∷ h.asked;
      rest = h.rest;
      whole = ap (λ l. name ∷ l) h.whole;
      noted = h.noted ∙ ap (λ told. told_more told h.asked) e ∙ told_more-twice old (name ∷ []) h.asked;
    }

-- a step behind the bytes of a file is one of its form
pub step-of_file : (shelf : Option (List ℕ → Option (List ℕ))) (name bytes : List ℕ) (IsNext : List ℕ → Due → Type 0) (due : Due) → IfSome shelf (λ told. told name ≡ Some bytes) → IsNext bytes due
    → IsStepOfFile shelf name IsNext due
step-of_file shelf name bytes IsNext due told is = record { files = bytes ∷ []; fetched = fetched-more shelf name bytes [] [] told (fetched-none shelf []); is_due = is }

-- a step of a command of one file is due of its form
due-of_command : (shelf : Option (List ℕ → Option (List ℕ))) (words : List (List ℕ)) (command : Command) (file : List ℕ) (due : Due) → IsOfForm words (file_form command file)
    → IsStepOfFile shelf file (IsDueOfCommand command) due → IsDue shelf words due
due-of_command shelf words (End Stubs) file due of h = inl (record { form = stubs file; of_form = of; files = h.files; fetched = h.fetched; is_due = h.is_due })
due-of_command shelf words (End Run) file due of h = inl (record { form = run file; of_form = of; files = h.files; fetched = h.fetched; is_due = h.is_due })
due-of_command shelf words (End Place) file due of h = inl (record { form = place file; of_form = of; files = h.files; fetched = h.fetched; is_due = h.is_due })
due-of_command shelf words (OfPlan (Sample seed steps)) file due of h =
    inl (record { form = sample file seed steps; of_form = of; files = h.files; fetched = h.fetched; is_due = h.is_due })
due-of_command shelf words (OfPlan (Lines seed steps)) file due of h =
    inl (record { form = draw file seed steps; of_form = of; files = h.files; fetched = h.fetched; is_due = h.is_due })
due-of_command shelf words (OfPlan (Settle deliveries)) file due of h =
    inl (record { form = settle file deliveries; of_form = of; files = h.files; fetched = h.fetched; is_due = h.is_due })
due-of_command shelf words (OfPlan (Node name turns)) file due of h =
    inl (record { form = node file name.now turns; of_form = of; files = h.files; fetched = h.fetched; is_due = h.is_due })

pub result-of_command : {E : Type 0} (shelf : Option (List ℕ → Option (List ℕ))) (words : List (List ℕ)) (form : CommandForm) (command : Command) (file : List ℕ) (r : Result Step E)
    → IsOfForm words form → form ≡ file_form command file → IfOk r (λ step. IsStepOfFile shelf file (IsDueOfCommand command) (due_of step)) → IfOk r (λ step. IsDue shelf words (due_of step))
result-of_command shelf words form command file (Ok step) of is h = due-of_command shelf words command file (due_of step) (subst (λ (f : CommandForm). IsOfForm words f) is of) h
result-of_command shelf words form command file (Err e) of is h = tt

-- likewise what is due of two files
due-of_two : (shelf : Option (List ℕ → Option (List ℕ))) (words : List (List ℕ)) (second : Second) (program file : List ℕ) (due : Due) → IsOfForm words (second_form second program file)
    → IsStepOfTwo shelf second program file due → IsDue shelf words due
due-of_two shelf words (Schedule Report) program file due of h =
    inl (record { form = replay program file; of_form = of; files = h.files; fetched = h.fetched; is_due = h.is_due })
due-of_two shelf words (Schedule Picture) program file due of h =
    inl (record { form = picture program file; of_form = of; files = h.files; fetched = h.fetched; is_due = h.is_due })
due-of_two shelf words NodeRecord program file due of h =
    inl (record { form = audit program file; of_form = of; files = h.files; fetched = h.fetched; is_due = h.is_due })

pub result-of_two : {E : Type 0} (shelf : Option (List ℕ → Option (List ℕ))) (words : List (List ℕ)) (form : CommandForm) (second : Second) (program file : List ℕ) (r : Result Step E)
    → IsOfForm words form → form ≡ second_form second program file → IfOk r (λ step. IsStepOfTwo shelf second program file (due_of step)) → IfOk r (λ step. IsDue shelf words (due_of step))
result-of_two shelf words form second program file (Ok step) of is h =
    due-of_two shelf words second program file (due_of step) (subst (λ (f : CommandForm). IsOfForm words f) is of) h
result-of_two shelf words form second program file (Err e) of is h = tt

-- and asks for its file alone
asks-of_file : (old new : Option (List (List ℕ))) (words : List (List ℕ)) (command : Command) (file : List ℕ) → IsOfForm words (file_form command file)
    → AsksFirstOf old new (file ∷ []) → AsksOnly old new words
asks-of_file old new words (End Stubs) file of h = inl (record { form = stubs file; of_form = of; asks = h })
asks-of_file old new words (End Run) file of h = inl (record { form = run file; of_form = of; asks = h })
asks-of_file old new words (End Place) file of h = inl (record { form = place file; of_form = of; asks = h })
asks-of_file old new words (OfPlan (Sample seed steps)) file of h = inl (record { form = sample file seed steps; of_form = of; asks = h })
asks-of_file old new words (OfPlan (Lines seed steps)) file of h = inl (record { form = draw file seed steps; of_form = of; asks = h })
asks-of_file old new words (OfPlan (Settle deliveries)) file of h = inl (record { form = settle file deliveries; of_form = of; asks = h })
asks-of_file old new words (OfPlan (Node name turns)) file of h = inl (record { form = node file name.now turns; of_form = of; asks = h })

pub asks-of_command : (old new : Option (List (List ℕ))) (words : List (List ℕ)) (form : CommandForm) (command : Command) (file : List ℕ) → IsOfForm words form → form ≡ file_form command file
    → AsksFirstOf old new (file ∷ []) → AsksOnly old new words
asks-of_command old new words form command file of is h = asks-of_file old new words command file (subst (λ (f : CommandForm). IsOfForm words f) is of) h

-- what comes of the plan of a program is due of its bytes
pub bytes-good : {E : Type 0} (program : List ℕ) (plan : Plan) (IsNext : Plan → Due → Type 0) (r : Result Step E) → IsProgramOf program plan
    → IfOk r (λ step. IsNext plan (due_of step)) → IfOk r (λ step. IsDueOfProgram IsNext program (due_of step))
bytes-good program plan IsNext (Ok step) means is = inl (plan, means, is)
bytes-good program plan IsNext (Err e) means is = tt

-- what lacks no file has none to note
pub noted-none : (fetched : Option (List (List ℕ))) (old new : ℕ) (step : Step) → LacksNone step → IsLackNoted fetched old new step
noted-none fetched old new (Finish ending) none = tt
noted-none fetched old new (Lack name) none = absurd none
noted-none fetched old new (History performance) none = tt
noted-none fetched old new (Replay ready) none = tt
noted-none fetched old new (Serve plan number turns) none = tt
