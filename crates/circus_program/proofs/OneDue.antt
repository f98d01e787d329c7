-- Words come to one thing.
use Rattle.std.proofs.Common.{◌≡◌, ℕ, ◌<◌, ◌^◌, ◌⊎◌, inl, inr, Option, Some, None, List, [], ◌∷◌, Result, Ok, Err, refl, sym, ap, subst, ◌∙◌, codes, arith}
use Rattle.std.specs.Prelude.{cond, bytes_eq}
use Rattle.std.specs.Fmt.{decimal}
use Rattle.std.proofs.lemmas.Fmt.{decimal_injective}
use Rattle.circus_schedule.specs.declared.line.Line.{Line}
use Rattle.circus_schedule.specs.declared.schedule_fault.ScheduleFault.{ScheduleFault}
use Rattle.circus_schedule.specs.declared.schedule_fault.ScheduleFault.TheVariants as schedule_fault
use Rattle.circus_schedule.specs.Meaning.{numbers_of}
use Rattle.circus_schedule.proofs.OneAnswer.{IsAnswer-one}
use Rattle.circus_config.specs.declared.plan.Plan.{Plan}
use Rattle.circus_config.specs.Program.{IsProgramOf}
use Rattle.circus_config.proofs.PlanIs.{plan_is}
use Rattle.circus_audit.proofs.ModuleNames as of_modules
use Rattle.circus_commands.specs.declared.one_file.OneFile.{OneFile}
use Rattle.circus_commands.specs.declared.one_file.OneFile.TheVariants.{Stubs, Run, Place}
use Rattle.circus_commands.specs.Ending.{Ending}
use Rattle.circus_commands.proofs.OneProgram.{refused_one, good_or_refused}
use Rattle.circus_commands.proofs.OneEnding.{end_one}
use Rattle.circus_program.specs.Form.{CommandForm, stubs, run, replay, picture, node, sample, draw, settle, place, audit, words_of, files_of, IsInRange, IsOfForm}
use Rattle.circus_program.specs.declared.shown.Shown.{Shown}
use Rattle.circus_program.specs.declared.shown.Shown.TheVariants.{Report, Picture}
use Rattle.circus_program.specs.declared.second.Second.{Second}
use Rattle.circus_program.specs.declared.second.Second.TheVariants.{Schedule, NodeRecord}
use Rattle.circus_program.specs.Replay.{IsReplayOf, IsEndOfReplay}
use Rattle.circus_program.specs.Answer.{Due, fetch, finish, serve, IsEndOfSecond, IsDueOfSecond, IsDueOfTwo, IsDueOfFile, IsDueOfEnd, IsDueOfProgram, IsDueOfSample, IsDueOfLines, IsDueOfSettle, IsDueOfNode, IsDueOfForm, AreContents, IsDue}
use Rattle.circus_program.specs.Last.{IsLast, IsDueLast}
use Rattle.circus_program.proofs.PlanOne.{plan_is_one}
use Rattle.circus_program.proofs.NamedOnce.{named_once}
use Rattle.circus_program.proofs.Audits.{audit_one}

-- What comes of one plan is one thing.

read_one : (shown : Shown) (plan : Plan) (read : Result (List Line) ScheduleFault) (one another : Ending) → IsReplayOf shown plan read one → IsReplayOf shown plan read another → one ≡ another
read_one shown plan (Ok lines) one another is also = is ∙ sym also
read_one shown plan (Err (schedule_fault.BadLine number)) one another is also = is ∙ sym also
read_one shown plan (Err (schedule_fault.UnknownNode number name)) one another is also = is ∙ sym also
read_one shown plan (Err (schedule_fault.TooManyLines number)) one another is also = is ∙ sym also
read_one shown plan (Err schedule_fault.NoMemory) one another is also = absurd is

replay_one : (shown : Shown) (plan : Plan) (schedule : List ℕ) (one another : Ending) → IsEndOfReplay shown plan schedule one → IsEndOfReplay shown plan schedule another → one ≡ another
replay_one shown plan schedule one another (read, answer, is) (again, answers, also) =
    let reads : read ≡ again = IsAnswer-one (numbers_of plan.deployment.nodes) schedule read again answer answers in
    read_one shown plan again one another (subst (λ (r : Result (List Line) ScheduleFault). IsReplayOf shown plan r one) reads is) also

second_one : (second : Second) (bytes : List ℕ) (plan : Plan) → IsProgramOf bytes plan → (more : List ℕ) (one another : Ending) → IsEndOfSecond second plan more one → IsEndOfSecond second plan more another → one ≡ another
second_one (Schedule shown) bytes plan means more one another is also = replay_one shown plan more one another is also
second_one NodeRecord bytes plan means more one another is also =
    audit_one plan (plan_is bytes plan means) (record { names = of_modules.names_of bytes plan means; words = of_modules.words_of bytes plan means }) more one another is also

node_one : (bytes name : List ℕ) (turns : ℕ) (plan : Plan) (one other : Due) → IsProgramOf bytes plan → IsDueOfNode name turns plan one → IsDueOfNode name turns plan other → one ≡ other
node_one bytes name turns plan one other means (inl (number, named, is)) (inl (another, also, so)) =
    is ∙ ap (λ (n : ℕ). serve plan n turns) (named_once bytes plan name number another means named also) ∙ sym so
node_one bytes name turns plan one other means (inl (number, named, is)) (inr (none, so)) = absurd (none number named)
node_one bytes name turns plan one other means (inr (none, is)) (inl (number, named, so)) = absurd (none number named)
node_one bytes name turns plan one other means (inr (none, is)) (inr (neither, so)) = is ∙ sym so

-- What is asked for, by what comes of it.

data Asked : Type 0 where
  -- program, second file
  two : Second → List ℕ → List ℕ → Asked
  reading : OneFile → List ℕ → Asked
  -- program, node's name, takes as they are written
  serving : List ℕ → List ℕ → List ℕ → Asked
  -- program, seed and steps as they are written: of a sample, and of its lines
  sampling : List ℕ → List ℕ → List ℕ → Asked
  drawing : List ℕ → List ℕ → List ℕ → Asked
  -- program, deliveries as they are written
  settling : List ℕ → List ℕ → Asked
  nothing : Asked

abbrev asked_by : CommandForm → Asked
asked_by (replay program schedule) = two (Schedule Report) program schedule
asked_by (picture program schedule) = two (Schedule Picture) program schedule
asked_by (place placing) = reading Place placing
asked_by (stubs program) = reading Stubs program
asked_by (run program) = reading Run program
asked_by (node program name turns) = serving program name (decimal turns)
asked_by (sample program seed steps) = sampling program (decimal seed) (decimal steps)
asked_by (draw program seed steps) = drawing program (decimal seed) (decimal steps)
asked_by (settle program deliveries) = settling program (decimal deliveries)
asked_by (audit program «record») = two NodeRecord program «record»

abbrev asked_of : List (List ℕ) → Asked
asked_of (command ∷ file ∷ []) =
    cond (bytes_eq command (codes "place")) (reading Place file)
    (cond (bytes_eq command (codes "stubs")) (reading Stubs file) (cond (bytes_eq command (codes "run")) (reading Run file) nothing))
asked_of (command ∷ program ∷ second ∷ []) =
    cond (bytes_eq command (codes "replay")) (two (Schedule Report) program second)
    (cond (bytes_eq command (codes "picture")) (two (Schedule Picture) program second)
    (cond (bytes_eq command (codes "settle")) (settling program second) (cond (bytes_eq command (codes "audit")) (two NodeRecord program second) nothing)))
asked_of (command ∷ program ∷ first ∷ second ∷ []) =
    cond (bytes_eq command (codes "node")) (serving program first second)
    (cond (bytes_eq command (codes "sample")) (sampling program first second) (cond (bytes_eq command (codes "lines")) (drawing program first second) nothing))
asked_of _ = nothing

asked_is : (form : CommandForm) → asked_of (words_of form) ≡ asked_by form
asked_is (replay _ _) = refl
asked_is (picture _ _) = refl
asked_is (place _) = refl
asked_is (stubs _) = refl
asked_is (run _) = refl
asked_is (node _ _ _) = refl
asked_is (sample _ _ _) = refl
asked_is (draw _ _ _) = refl
asked_is (settle _ _) = refl
asked_is (audit _ _) = refl

-- a number that a word spells
abbrev Spells : List ℕ → ℕ → Type 0
Spells word number = (word ≡ decimal number) × (number < 2 ^ 64)

spelled_once : (word : List ℕ) (one other : ℕ) → Spells word one → Spells word other → one ≡ other
spelled_once word one other (is, small) (also, low) = decimal_injective one other small low (sym is ∙ also)

-- words ask for one thing
asked_one : (words : List (List ℕ)) (one other : CommandForm) → IsOfForm words one → IsOfForm words other → asked_by one ≡ asked_by other
asked_one words one other first second =
    sym (asked_is one) ∙ ap asked_of (sym first.spelled ∙ second.spelled) ∙ asked_is other

-- What comes of it at last.

module _ (contents : List ℕ → Option (List ℕ)) where
  -- of a file, where this comes of its bytes
  abbrev pub OfFile : List ℕ → (List ℕ → Due → Type 0) → Due → Type 0
  OfFile file IsNext due =
      ((contents file ≡ None) × (due ≡ fetch file))
      ⊎ ((bytes : List ℕ) × (contents file ≡ Some bytes) × IsNext bytes due)

  abbrev pub OfSecond : Second → List ℕ → Plan → Due → Type 0
  OfSecond second file plan due = OfFile file (IsDueOfSecond second plan) due

  -- of a program, where this comes of its plan
  abbrev pub OfProgram : List ℕ → (Plan → Due → Type 0) → Due → Type 0
  OfProgram program IsNext due = OfFile program (IsDueOfProgram IsNext) due

  -- what comes at last of a form, and of what is asked for
  abbrev pub OfWords : CommandForm → Due → Type 0
  OfWords (replay program schedule) due = OfProgram program (OfSecond (Schedule Report) schedule) due
  OfWords (picture program schedule) due = OfProgram program (OfSecond (Schedule Picture) schedule) due
  OfWords (place placing) due = OfFile placing (IsDueOfEnd Place) due
  OfWords (stubs program) due = OfFile program (IsDueOfEnd Stubs) due
  OfWords (run program) due = OfFile program (IsDueOfEnd Run) due
  OfWords (node program name turns) due = OfProgram program (IsDueOfNode name turns) due
  OfWords (sample program seed steps) due = OfProgram program (IsDueOfSample seed steps) due
  OfWords (draw program seed steps) due = OfProgram program (IsDueOfLines seed steps) due
  OfWords (settle program deliveries) due = OfProgram program (IsDueOfSettle deliveries) due
  OfWords (audit program «record») due = OfProgram program (OfSecond NodeRecord «record») due

  abbrev OfAsked : Asked → Due → Type 0
  OfAsked (two second program file) due = OfProgram program (OfSecond second file) due
  OfAsked (reading command file) due = OfFile file (IsDueOfEnd command) due
  OfAsked (serving program name word) due = (turns : ℕ) × Spells word turns × OfProgram program (IsDueOfNode name turns) due
  OfAsked (sampling program first second) due = (seed : ℕ) × (steps : ℕ) × Spells first seed × Spells second steps × OfProgram program (IsDueOfSample seed steps) due
  OfAsked (drawing program first second) due = (seed : ℕ) × (steps : ℕ) × Spells first seed × Spells second steps × OfProgram program (IsDueOfLines seed steps) due
  OfAsked (settling program word) due = (deliveries : ℕ) × Spells word deliveries × OfProgram program (IsDueOfSettle deliveries) due
  OfAsked nothing due = ⊥

  -- a file that is due at last is not there
  lacking : (name : List ℕ) (due : Due) → due ≡ fetch name → IsLast contents due → contents name ≡ None
  lacking name due is last = subst (λ (d : Due). IsLast contents d) is last

  of_two : (second : Second) (program file : List ℕ) (files : List (List ℕ)) (due : Due) → AreContents contents (program ∷ file ∷ []) files → IsDueOfTwo second program file files due → IsLast contents due → OfProgram program (OfSecond second file) due
  of_two second program file [] due fetched is last = inl (lacking program due is last, is)
  of_two second program file (bytes ∷ []) due fetched (inl ((plan, means), is)) last =
      inr (bytes, fetched.0, inl (plan, means, inl (lacking file due is last, is)))
  of_two second program file (bytes ∷ []) due fetched (inr refused) last = inr (bytes, fetched.0, inr refused)
  of_two second program file (bytes ∷ more ∷ []) due fetched (plan, means, is) last =
      inr (bytes, fetched.0, inl (plan, means, inr (more, fetched.1.0, is)))
  of_two second program file (_ ∷ _ ∷ _ ∷ _) due fetched is last = absurd is

  of_file : (file : List ℕ) (IsNext : List ℕ → Due → Type 0) (files : List (List ℕ)) (due : Due) → AreContents contents (file ∷ []) files → IsDueOfFile file IsNext files due → IsLast contents due → OfFile file IsNext due
  of_file file IsNext [] due fetched is last = inl (lacking file due is last, is)
  of_file file IsNext (bytes ∷ []) due fetched is last = inr (bytes, fetched.0, is)
  of_file file IsNext (_ ∷ _ ∷ _) due fetched is last = absurd is

  pub of_form : (form : CommandForm) (files : List (List ℕ)) (due : Due) → AreContents contents (files_of form) files → IsDueOfForm form files due → IsLast contents due → OfWords form due
  of_form (replay program schedule) files due fetched is last = of_two (Schedule Report) program schedule files due fetched is last
  of_form (picture program schedule) files due fetched is last = of_two (Schedule Picture) program schedule files due fetched is last
  of_form (place file) files due fetched is last = of_file file (IsDueOfEnd Place) files due fetched is last
  of_form (stubs file) files due fetched is last = of_file file (IsDueOfEnd Stubs) files due fetched is last
  of_form (run file) files due fetched is last = of_file file (IsDueOfEnd Run) files due fetched is last
  of_form (node program name turns) files due fetched is last = of_file program (IsDueOfProgram (IsDueOfNode name turns)) files due fetched is last
  of_form (sample program seed steps) files due fetched is last = of_file program (IsDueOfProgram (IsDueOfSample seed steps)) files due fetched is last
  of_form (draw program seed steps) files due fetched is last = of_file program (IsDueOfProgram (IsDueOfLines seed steps)) files due fetched is last
  of_form (settle program deliveries) files due fetched is last = of_file program (IsDueOfProgram (IsDueOfSettle deliveries)) files due fetched is last
  of_form (audit program «record») files due fetched is last = of_two NodeRecord program «record» files due fetched is last

  of_asked : (form : CommandForm) (due : Due) → IsInRange form → OfWords form due → OfAsked (asked_by form) due
  of_asked (replay program schedule) due range of = of
  of_asked (picture program schedule) due range of = of
  of_asked (place file) due range of = of
  of_asked (stubs file) due range of = of
  of_asked (run file) due range of = of
  of_asked (node program name turns) due range of = (turns, (refl, omega (arith, range.1)), of)
  of_asked (sample program seed steps) due range of = (seed, steps, (refl, range.1), (refl, omega (arith, range.2)), of)
  of_asked (draw program seed steps) due range of = (seed, steps, (refl, range.1), (refl, omega (arith, range.2)), of)
  of_asked (settle program deliveries) due range of = (deliveries, (refl, omega (arith, range.1)), of)
  of_asked (audit program «record») due range of = of

  -- It is one thing.

  there_once : (name one other : List ℕ) → contents name ≡ Some one → contents name ≡ Some other → one ≡ other
  there_once name one other first second = let same : ◌≡◌ {A = Option (List ℕ)} (Some one) (Some other) = sym first ∙ second in cc

  one_of_file : (file : List ℕ) (IsNext : List ℕ → Due → Type 0) → ((bytes : List ℕ) (one other : Due) → IsNext bytes one → IsNext bytes other → one ≡ other)
      → (one other : Due) → OfFile file IsNext one → OfFile file IsNext other → one ≡ other
  one_of_file file IsNext one_of one other (inl (none, is)) (inl (neither, also)) = is ∙ sym also
  one_of_file file IsNext one_of one other (inl (none, is)) (inr (bytes, there, also)) = absurd cc
  one_of_file file IsNext one_of one other (inr (bytes, there, is)) (inl (none, also)) = absurd cc
  one_of_file file IsNext one_of one other (inr (bytes, there, is)) (inr (others, here, also)) =
      one_of others one other (subst (λ b. IsNext b one) (there_once file bytes others there here) is) also

  one_of_end : (command : OneFile) (bytes : List ℕ) (one other : Due) → IsDueOfEnd command bytes one → IsDueOfEnd command bytes other → one ≡ other
  one_of_end command bytes one other (ending, end, is) (another, ends, also) = is ∙ ap finish (end_one command bytes ending another end ends) ∙ sym also

  one_of_second : (second : Second) (bytes : List ℕ) (plan : Plan) → IsProgramOf bytes plan → (more : List ℕ) (one other : Due) → IsDueOfSecond second plan more one → IsDueOfSecond second plan more other → one ≡ other
  one_of_second second bytes plan means more one other (ending, end, is) (another, ends, also) = is ∙ ap finish (second_one second bytes plan means more ending another end ends) ∙ sym also

  -- where one thing comes of a plan
  abbrev OneOf : (Plan → Due → Type 0) → Type 0
  OneOf IsNext = (bytes : List ℕ) (plan : Plan) (one other : Due) → IsProgramOf bytes plan → IsNext plan one → IsNext plan other → one ≡ other

  one_of_bytes : (IsNext : Plan → Due → Type 0) → OneOf IsNext → (bytes : List ℕ) (one other : Due)
      → IsDueOfProgram IsNext bytes one → IsDueOfProgram IsNext bytes other → one ≡ other
  one_of_bytes IsNext one_of bytes one other (inl (plan, means, is)) (inl (again, also_means, also)) =
      one_of bytes again one other also_means (subst (λ (p : Plan). IsNext p one) (plan_is_one bytes plan again means also_means) is) also
  one_of_bytes IsNext one_of bytes one other (inl (plan, means, is)) (inr (ending, refused, so)) = absurd (good_or_refused bytes plan ending means refused)
  one_of_bytes IsNext one_of bytes one other (inr (ending, refused, is)) (inl (plan, means, also)) = absurd (good_or_refused bytes plan ending means refused)
  one_of_bytes IsNext one_of bytes one other (inr (ending, refused, is)) (inr (another, again, so)) = is ∙ ap finish (refused_one bytes ending another refused again) ∙ sym so

  one_of_program : (program : List ℕ) (IsNext : Plan → Due → Type 0) → OneOf IsNext → (one other : Due) → OfProgram program IsNext one → OfProgram program IsNext other → one ≡ other
  one_of_program program IsNext one_of one other is also = one_of_file program (IsDueOfProgram IsNext) (one_of_bytes IsNext one_of) one other is also

  one_of_node : (program name : List ℕ) (turns : ℕ) (one other : Due) → OfProgram program (IsDueOfNode name turns) one → OfProgram program (IsDueOfNode name turns) other → one ≡ other
  one_of_node program name turns one other is also = one_of_program program (IsDueOfNode name turns) (λ bytes plan. node_one bytes name turns plan) one other is also

  one_of_sample : (program : List ℕ) (seed steps : ℕ) (one other : Due) → OfProgram program (IsDueOfSample seed steps) one → OfProgram program (IsDueOfSample seed steps) other → one ≡ other
  one_of_sample program seed steps one other is also = one_of_program program (IsDueOfSample seed steps) (λ bytes plan first second means so too. so ∙ sym too) one other is also

  one_of_lines : (program : List ℕ) (seed steps : ℕ) (one other : Due) → OfProgram program (IsDueOfLines seed steps) one → OfProgram program (IsDueOfLines seed steps) other → one ≡ other
  one_of_lines program seed steps one other is also = one_of_program program (IsDueOfLines seed steps) (λ bytes plan first second means so too. so ∙ sym too) one other is also

  one_of_settle : (program : List ℕ) (deliveries : ℕ) (one other : Due) → OfProgram program (IsDueOfSettle deliveries) one → OfProgram program (IsDueOfSettle deliveries) other → one ≡ other
  one_of_settle program deliveries one other is also = one_of_program program (IsDueOfSettle deliveries) (λ bytes plan first second means so too. so ∙ sym too) one other is also

  one_of_asked : (asked : Asked) (one other : Due) → OfAsked asked one → OfAsked asked other → one ≡ other
  one_of_asked (two second program file) one other is also =
      one_of_program program (OfSecond second file) (λ bytes plan first next means. one_of_file file (IsDueOfSecond second plan) (one_of_second second bytes plan means) first next) one other is also
  one_of_asked (reading command file) one other is also = one_of_file file (IsDueOfEnd command) (one_of_end command) one other is also
  one_of_asked (serving program name word) one other (turns, spelled, is) (others, again, also) =
      one_of_node program name others one other (subst (λ n. OfProgram program (IsDueOfNode name n) one) (spelled_once word turns others spelled again) is) also
  one_of_asked (sampling program first second) one other (seed, steps, seeds, counts, is) (seed', steps', seeds', counts', also) =
      one_of_sample program seed' steps' one other
      (subst (λ n. OfProgram program (IsDueOfSample n steps') one) (spelled_once first seed seed' seeds seeds') (subst (λ n. OfProgram program (IsDueOfSample seed n) one) (spelled_once second steps steps' counts counts') is)) also
  one_of_asked (drawing program first second) one other (seed, steps, seeds, counts, is) (seed', steps', seeds', counts', also) =
      one_of_lines program seed' steps' one other
      (subst (λ n. OfProgram program (IsDueOfLines n steps') one) (spelled_once first seed seed' seeds seeds') (subst (λ n. OfProgram program (IsDueOfLines seed n) one) (spelled_once second steps steps' counts counts') is)) also
  one_of_asked (settling program word) one other (deliveries, spelled, is) (others, again, also) =
      one_of_settle program others one other (subst (λ n. OfProgram program (IsDueOfSettle n) one) (spelled_once word deliveries others spelled again) is) also
  one_of_asked nothing one other is also = absurd is

  one_of_words : (words : List (List ℕ)) (one other : Due) → IsDue (Some contents) words one → IsDue (Some contents) words other → IsLast contents one → IsLast contents other → one ≡ other
  one_of_words words one other (inl some) (inl another) last also =
      let is = of_asked some.form one some.of_form.in_range (of_form some.form some.files one some.fetched some.is_due last) in
      let so = of_asked another.form other another.of_form.in_range (of_form another.form another.files other another.fetched another.is_due also) in
      one_of_asked (asked_by another.form) one other (subst (λ a. OfAsked a one) (asked_one words some.form another.form some.of_form another.of_form) is) so
  one_of_words words one other (inl some) (inr (none, is)) last also = absurd (none some.form some.of_form)
  one_of_words words one other (inr (none, is)) (inl some) last also = absurd (none some.form some.of_form)
  one_of_words words one other (inr (none, is)) (inr (neither, so)) last also = is ∙ sym so

  pub one_due : (words : List (List ℕ)) (one other : Due) → IsDueLast contents words one → IsDueLast contents words other → one ≡ other
  one_due words one other is also = one_of_words words one other is.is_due also.is_due is.last also.last

  -- what comes at last of a replay
  pub of_replaying : (words : List (List ℕ)) (program name : List ℕ) (due : Due) → IsOfForm words (replay program name) → IsDueLast contents words due → OfProgram program (OfSecond (Schedule Report) name) due
  of_replaying words program name due of is = by_due is.is_due
    where
      by_due : IsDue (Some contents) words due → OfProgram program (OfSecond (Schedule Report) name) due
      by_due (inl some) =
          subst (λ a. OfAsked a due) (asked_one words some.form (replay program name) some.of_form of)
          (of_asked some.form due some.of_form.in_range (of_form some.form some.files due some.fetched some.is_due is.last))
      by_due (inr (none, so)) = absurd (none (replay program name) of)

  -- and of a placing
  pub of_placing : (words : List (List ℕ)) (placing : List ℕ) (due : Due) → IsOfForm words (place placing) → IsDueLast contents words due → OfFile placing (IsDueOfEnd Place) due
  of_placing words placing due of is = by_due is.is_due
    where
      by_due : IsDue (Some contents) words due → OfFile placing (IsDueOfEnd Place) due
      by_due (inl some) =
          subst (λ a. OfAsked a due) (asked_one words some.form (place placing) some.of_form of)
          (of_asked some.form due some.of_form.in_range (of_form some.form some.files due some.fetched some.is_due is.last))
      by_due (inr (none, so)) = absurd (none (place placing) of)
