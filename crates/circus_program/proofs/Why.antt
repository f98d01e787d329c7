-- Which ends have a status, and why.
use Rattle.std.proofs.Common.{◌≡◌, ◌↔◌, ℕ, ◌⊎◌, inl, inr, Option, Some, List, [], ◌∷◌, Ok, refl, sym, ap, subst, ◌∙◌}
use Rattle.circus_schedule.specs.declared.line.Line.{Line}
use Rattle.circus_schedule.specs.Meaning.{numbers_of}
use Rattle.circus_schedule.specs.Answer.{IsAnswer}
use Rattle.circus_commands.specs.declared.status.Status.{Status}
use Rattle.circus_commands.specs.declared.status.Status.TheVariants.{Done, BadCommandLine, BadProgram, BadSchedule, Spent, Unsettled, BadPlacing, NoPlacement, BadRecord}
use Rattle.circus_program.specs.Form.{CommandForm, stubs, run, replay, picture, node, sample, draw, settle, place, audit, files_of, IsOfForm, IsOfNoForm, second_form}
use Rattle.circus_commands.specs.Ending.{Ending}
use Rattle.circus_config.specs.declared.plan.Plan.{Plan}
use Rattle.circus_config.specs.declared.program_fault.ProgramCause.{ProgramCause}
use Rattle.circus_config.specs.Program.{IsProgramOf}
use Rattle.circus_commands.specs.declared.one_file.OneFile.{OneFile}
use Rattle.circus_commands.specs.declared.one_file.OneFile.TheVariants.{Stubs, Run, Place}
use Rattle.circus_commands.specs.Refusal.{refused_text, IsEndOfRefused}
use Rattle.circus_commands.specs.Program.{history_lines, stubs_lines, IsEndOfProgram}
use Rattle.circus_commands.specs.Placed.{IsEndOfPlacing}
use Rattle.circus_commands.specs.OneFile.{IsEndOf}
use Rattle.circus_program.specs.declared.shown.Shown.{Shown}
use Rattle.circus_program.specs.declared.shown.Shown.TheVariants.{Report, Picture}
use Rattle.circus_program.specs.declared.second.Second.{Second}
use Rattle.circus_program.specs.declared.second.Second.TheVariants.{Schedule, NodeRecord}
use Rattle.circus_program.specs.Replay.{IsEndOfReplay}
use Rattle.circus_program.specs.Audit.{IsEndOfAudit}
use Rattle.circus_simulation.specs.Sample.{sample_of}
use Rattle.circus_simulation.specs.Schedule.{schedule_of}
use Rattle.circus_simulation.specs.Settle.{settle_of}
use Rattle.circus_node_command.specs.Named.{no_node}
use Rattle.circus_program.specs.Answer.{Due, fetch, finish, serve, bad_command_line, IsDueOfEnd, IsDueOfSample, IsDueOfLines, IsDueOfSettle, IsDueOfNode, IsDueOfForm, AreContents, IsDue}
use Rattle.circus_program.specs.Seen.Asked.{end_form}
use Rattle.circus_program.specs.Sound.{AreSound}
use Rattle.circus_program.specs.Last.{IsLast, IsDueLast, EndsWith, program_read, IsRefusedProgram, IsNameless, IsShown, IsRefusedReplay, IsSample, IsLines, IsSettle, IsSpent, IsUnsettled, IsAudit, IsRefusedAudit}
use Rattle.circus_program.proofs.ReplayEnds.{Refuses, Spends, IsStatusOfReplay, replay_status, Ends, ends_refused, ends_spent}
use Rattle.circus_program.proofs.SampleEnds.{sample_status, sample_spent, lines_end_alike}
use Rattle.circus_program.proofs.SettleEnds.{settle_status, settle_spent, settle_left}
use Rattle.circus_program.proofs.Audits.{audit_status, never_audits, ends_bad}
use Rattle.circus_program.proofs.OneDue.{of_form, OfProgram, OfFile, OfSecond, OfWords, one_due}

-- ---- the ends that there are

-- a program is told of, or is refused; a placing ends with a choice, without one, or is refused
abbrev IsEndStatus : OneFile → Status → Type 0
IsEndStatus Place status = (status ≡ Done) ⊎ ((status ≡ NoPlacement) ⊎ (status ≡ BadPlacing))
IsEndStatus Stubs status = (status ≡ Done) ⊎ (status ≡ BadProgram)
IsEndStatus Run status = (status ≡ Done) ⊎ (status ≡ BadProgram)

program_status : (lines : Plan → List ℕ) (bytes : List ℕ) (ending : Ending) → IsEndOfProgram lines bytes ending → (ending.status ≡ Done) ⊎ ((ending.status ≡ BadProgram) × IsEndOfRefused bytes ending)
program_status lines bytes ending (inl (plan, means, is)) = inl (ap (λ (e : Ending). e.status) is)
program_status lines bytes ending (inr (number, cause, refused_is, is)) = inr (ap (λ (e : Ending). e.status) is, (number, cause, refused_is, is))

placing_status : (text : List ℕ) (ending : Ending) → IsEndOfPlacing text ending → IsEndStatus Place ending.status
placing_status text ending (inl (p, read, (inl (choice, best, is)))) = inl (ap (λ (e : Ending). e.status) is)
placing_status text ending (inl (p, read, (inr (none, is)))) = inr (inl (ap (λ (e : Ending). e.status) is))
placing_status text ending (inr (number, cause, refused_is, is)) = inr (inr (ap (λ (e : Ending). e.status) is))

of_program : (lines : Plan → List ℕ) (bytes : List ℕ) (ending : Ending) → IsEndOfProgram lines bytes ending → (ending.status ≡ Done) ⊎ (ending.status ≡ BadProgram)
of_program lines bytes ending end = elim (program_status lines bytes ending end) [
  | inl done ↦ inl done
  | inr (bad, why) ↦ inr bad
]

end_status : (command : OneFile) (bytes : List ℕ) (ending : Ending) → IsEndOf command bytes ending → IsEndStatus command ending.status
end_status Place bytes ending end = placing_status bytes ending end
end_status Stubs bytes ending end = of_program stubs_lines bytes ending end
end_status Run bytes ending end = of_program history_lines bytes ending end

-- a status that no command of one file ends with
pub never_ends : (status : Status) (command : OneFile) (bytes : List ℕ) (ending : Ending) → IsEndOf command bytes ending → (Done ≡ status → ⊥) → (BadProgram ≡ status → ⊥) → (NoPlacement ≡ status → ⊥) → (BadPlacing ≡ status → ⊥) → ending.status ≡ status → ⊥
never_ends status command bytes ending end no_done no_program no_none no_bad same = by_command command (end_status command bytes ending end)
  where
    by_command : (c : OneFile) → IsEndStatus c ending.status → ⊥
    by_command Place (inl done) = no_done (sym done ∙ same)
    by_command Place (inr (inl none)) = no_none (sym none ∙ same)
    by_command Place (inr (inr bad)) = no_bad (sym bad ∙ same)
    by_command Stubs (inl done) = no_done (sym done ∙ same)
    by_command Stubs (inr bad) = no_program (sym bad ∙ same)
    by_command Run (inl done) = no_done (sym done ∙ same)
    by_command Run (inr bad) = no_program (sym bad ∙ same)

-- a status that no replay ends with
pub never_replays : (status : Status) (shown : Shown) (plan : Plan) (schedule : List ℕ) (ending : Ending) → IsEndOfReplay shown plan schedule ending → (Done ≡ status → ⊥) → (BadSchedule ≡ status → ⊥) → (Spent ≡ status → ⊥) → ending.status ≡ status → ⊥
never_replays status shown plan schedule ending end no_done no_bad no_spent same = by_status (replay_status shown plan schedule ending end)
  where
    by_status : IsStatusOfReplay plan schedule ending.status → ⊥
    by_status (inl done) = no_done (sym done ∙ same)
    by_status (inr (inl (bad, why))) = no_bad (sym bad ∙ same)
    by_status (inr (inr (spent, why))) = no_spent (sym spent ∙ same)

-- a status that no sample ends with
pub never_drawn : (status : Status) (plan : Plan) (seed steps : ℕ) → (Done ≡ status → ⊥) → (Spent ≡ status → ⊥) → (sample_of plan seed steps).status ≡ status → ⊥
never_drawn status plan seed steps no_done no_spent same = elim (sample_status plan seed steps) [
  | inl done ↦ no_done (sym done ∙ same)
  | inr (spent, why) ↦ no_spent (sym spent ∙ same)
]

-- nor with its lines
pub never_listed : (status : Status) (plan : Plan) (seed steps : ℕ) → (Done ≡ status → ⊥) → (Spent ≡ status → ⊥) → (schedule_of plan seed steps).status ≡ status → ⊥
never_listed status plan seed steps no_done no_spent same = never_drawn status plan seed steps no_done no_spent (sym (lines_end_alike plan seed steps) ∙ same)

-- a status that no program ends with whose datagrams are delivered
pub never_settles : (status : Status) (plan : Plan) (deliveries : ℕ) → (Done ≡ status → ⊥) → (Unsettled ≡ status → ⊥) → (Spent ≡ status → ⊥) → (settle_of plan deliveries).status ≡ status → ⊥
never_settles status plan deliveries no_done no_left no_spent same = elim (settle_status plan deliveries) [
  | inl done ↦ no_done (sym done ∙ same)
  | inr (inl (left, why)) ↦ no_left (sym left ∙ same)
  | inr (inr (spent, why)) ↦ no_spent (sym spent ∙ same)
]

-- a program is refused where the end says so
refused_end : (command : OneFile) (bytes : List ℕ) (ending : Ending) → IsEndOf command bytes ending → ending.status ≡ BadProgram → IsEndOfRefused bytes ending
refused_end Place bytes ending end same = elim (placing_status bytes ending end) [
  | inl done ↦ absurd (let clash : Done ≡ BadProgram = sym done ∙ same in cc)
  | inr (inl none) ↦ absurd (let clash : NoPlacement ≡ BadProgram = sym none ∙ same in cc)
  | inr (inr bad) ↦ absurd (let clash : BadPlacing ≡ BadProgram = sym bad ∙ same in cc)
]
refused_end Stubs bytes ending end same = elim (program_status stubs_lines bytes ending end) [
  | inl done ↦ absurd (let clash : Done ≡ BadProgram = sym done ∙ same in cc)
  | inr (bad, why) ↦ why
]
refused_end Run bytes ending end same = elim (program_status history_lines bytes ending end) [
  | inl done ↦ absurd (let clash : Done ≡ BadProgram = sym done ∙ same in cc)
  | inr (bad, why) ↦ why
]

-- a line is refused, and a node has no number left, where the end says so
replay_refused : (shown : Shown) (plan : Plan) (schedule : List ℕ) (ending : Ending) → IsEndOfReplay shown plan schedule ending → ending.status ≡ BadSchedule → Refuses plan schedule
replay_refused shown plan schedule ending end same = elim (replay_status shown plan schedule ending end) [
  | inl done ↦ absurd (let clash : Done ≡ BadSchedule = sym done ∙ same in cc)
  | inr (inl (bad, why)) ↦ why
  | inr (inr (spent, why)) ↦ absurd (let clash : Spent ≡ BadSchedule = sym spent ∙ same in cc)
]

replay_spent : (shown : Shown) (plan : Plan) (schedule : List ℕ) (ending : Ending) → IsEndOfReplay shown plan schedule ending → ending.status ≡ Spent
    → (lines : List Line) × IsAnswer (numbers_of plan.deployment.nodes) schedule (Ok lines) × Spends plan lines
replay_spent shown plan schedule ending end same = elim (replay_status shown plan schedule ending end) [
  | inl done ↦ absurd (let clash : Done ≡ Spent = sym done ∙ same in cc)
  | inr (inl (bad, why)) ↦ absurd (let clash : BadSchedule ≡ Spent = sym bad ∙ same in cc)
  | inr (inr (spent, why)) ↦ why
]

pub ends_as : (status : Status) (due : Due) (ending : Ending) → due ≡ finish ending → EndsWith status due → ending.status ≡ status
ends_as status due ending is ends = subst (EndsWith status) is ends

pub never_serves : {X : Type 0} (status : Status) (due : Due) (plan : Plan) (number turns : ℕ) → due ≡ serve plan number turns → EndsWith status due → X
never_serves status due plan number turns is ends = absurd (let none : ⊥ = subst (EndsWith status) is ends in none)

pub never_fetch : {X : Type 0} (status : Status) (due : Due) (name : List ℕ) → due ≡ fetch name → EndsWith status due → X
never_fetch status due name is ends = absurd (let none : ⊥ = subst (EndsWith status) is ends in none)

-- the end of a program that is refused
abbrev refused_with : ℕ → ProgramCause → Ending
refused_with number cause = record { status = BadProgram; text = refused_text number cause }

-- ---- what comes of each form

-- what may come of words
pub data Comes (contents : List ℕ → Option (List ℕ)) (words : List (List ℕ)) (due : Due) : Type 0 where
  nothing : IsOfNoForm words → due ≡ bad_command_line → Comes contents words due
  lacking : (name : List ℕ) → due ≡ fetch name → Comes contents words due
  audits : (plan : Plan) (text : List ℕ) (ending : Ending) → IsAudit contents words plan text → IsEndOfAudit plan text ending → due ≡ finish ending → Comes contents words due
  replayed : (shown : Shown) (plan : Plan) (schedule : List ℕ) (ending : Ending) → IsShown shown contents words plan schedule → IsEndOfReplay shown plan schedule ending → due ≡ finish ending → Comes contents words due
  drawn : (plan : Plan) (seed steps : ℕ) → IsSample contents words plan seed steps → due ≡ finish (sample_of plan seed steps) → Comes contents words due
  listed : (plan : Plan) (seed steps : ℕ) → IsLines contents words plan seed steps → due ≡ finish (schedule_of plan seed steps) → Comes contents words due
  settles : (plan : Plan) (deliveries : ℕ) → IsSettle contents words plan deliveries → due ≡ finish (settle_of plan deliveries) → Comes contents words due
  served : (plan : Plan) (number turns : ℕ) → AreSound contents words → due ≡ serve plan number turns → Comes contents words due
  nameless : (name : List ℕ) → IsNameless contents words → due ≡ finish (no_node name) → Comes contents words due
  refused : (form : CommandForm) (program bytes : List ℕ) (ending : Ending) → IsOfForm words form → program_read form ≡ Some program → contents program ≡ Some bytes → IsEndOfRefused bytes ending → due ≡ finish ending → Comes contents words due
  ended : (command : OneFile) (file bytes : List ℕ) (ending : Ending) → IsOfForm words (end_form command file) → contents file ≡ Some bytes → IsEndOf command bytes ending → due ≡ finish ending → Comes contents words due

module _ (contents : List ℕ → Option (List ℕ)) (words : List (List ℕ)) where
  -- of a program, where this comes of its plan
  comes_program : (form : CommandForm) (program : List ℕ) (IsNext : Plan → Due → Type 0) (due : Due) → IsOfForm words form → program_read form ≡ Some program
      → ((bytes : List ℕ) (plan : Plan) → contents program ≡ Some bytes → IsProgramOf bytes plan → IsNext plan due → Comes contents words due) → OfProgram contents program IsNext due → Comes contents words due
  comes_program form program IsNext due of first next (inl (none, is)) = lacking program is
  comes_program form program IsNext due of first next (inr (bytes, there, inl (plan, good, behind))) = next bytes plan there good behind
  comes_program form program IsNext due of first next (inr (bytes, there, inr (ending, refusal, is))) = refused form program bytes ending of first there refusal is

  comes_second : (second : Second) (program name bytes : List ℕ) (plan : Plan) (due : Due) → IsOfForm words (second_form second program name) → contents program ≡ Some bytes → IsProgramOf bytes plan
      → OfSecond contents second name plan due → Comes contents words due
  comes_second second program name bytes plan due form there good (inl (none, is)) = lacking name is
  comes_second (Schedule shown) program name bytes plan due form there good (inr (schedule, here, (ending, end, is))) =
      replayed shown plan schedule ending (record { program = program; name = name; of_form = form; bytes = bytes; program_is = there; good = good; second_is = here }) end is
  comes_second NodeRecord program name bytes plan due form there good (inr (text, here, (ending, end, is))) =
      audits plan text ending (record { program = program; name = name; of_form = form; bytes = bytes; program_is = there; good = good; second_is = here }) end is

  comes_node : (program name : List ℕ) (turns : ℕ) (bytes : List ℕ) (plan : Plan) (due : Due) → IsOfForm words (node program name turns) → contents program ≡ Some bytes → IsProgramOf bytes plan → IsDueOfNode name turns plan due → Comes contents words due
  comes_node program name turns bytes plan due form there good (inl (number, named, is)) =
      served plan number turns (node program name turns, form, (plan, record { bytes = bytes; there = there; good = good }, (number, named))) is
  comes_node program name turns bytes plan due form there good (inr (none, is)) =
      nameless name (record { program = program; name = name; turns = turns; of_form = form; bytes = bytes; there = there; plan = plan; good = good; nameless = none }) is

  comes_file : (command : OneFile) (file : List ℕ) (due : Due) → IsOfForm words (end_form command file) → OfFile contents file (IsDueOfEnd command) due → Comes contents words due
  comes_file command file due form (inl (none, is)) = lacking file is
  comes_file command file due form (inr (bytes, there, (ending, end, is))) = ended command file bytes ending form there end is

  comes_form : (form : CommandForm) (due : Due) → IsOfForm words form → OfWords contents form due → Comes contents words due
  comes_form (replay program name) due form of =
      comes_program (replay program name) program (OfSecond contents (Schedule Report) name) due form refl
      (λ bytes plan there good next. comes_second (Schedule Report) program name bytes plan due form there good next) of
  comes_form (picture program name) due form of =
      comes_program (picture program name) program (OfSecond contents (Schedule Picture) name) due form refl
      (λ bytes plan there good next. comes_second (Schedule Picture) program name bytes plan due form there good next) of
  comes_form (place file) due form of = comes_file Place file due form of
  comes_form (stubs program) due form of = comes_file Stubs program due form of
  comes_form (run program) due form of = comes_file Run program due form of
  comes_form (node program name turns) due form of =
      comes_program (node program name turns) program (IsDueOfNode name turns) due form refl (λ bytes plan there good next. comes_node program name turns bytes plan due form there good next) of
  comes_form (sample program seed steps) due form of =
      comes_program (sample program seed steps) program (IsDueOfSample seed steps) due form refl
      (λ bytes plan there good next. drawn plan seed steps (record { program = program; of_form = form; bytes = bytes; program_is = there; good = good }) next) of
  comes_form (draw program seed steps) due form of =
      comes_program (draw program seed steps) program (IsDueOfLines seed steps) due form refl
      (λ bytes plan there good next. listed plan seed steps (record { program = program; of_form = form; bytes = bytes; program_is = there; good = good }) next) of
  comes_form (settle program deliveries) due form of =
      comes_program (settle program deliveries) program (IsDueOfSettle deliveries) due form refl
      (λ bytes plan there good next. settles plan deliveries (record { program = program; of_form = form; bytes = bytes; program_is = there; good = good }) next) of
  comes_form (audit program «record») due form of =
      comes_program (audit program «record») program (OfSecond contents NodeRecord «record») due form refl
      (λ bytes plan there good next. comes_second NodeRecord program «record» bytes plan due form there good next) of

  pub comes_to : (due : Due) → IsDueLast contents words due → Comes contents words due
  comes_to due is = go is.is_due
    where
      go : IsDue (Some contents) words due → Comes contents words due
      go (inl some) = comes_form some.form due some.of_form (of_form contents some.form some.files due some.fetched some.is_due is.last)
      go (inr (none, bad)) = nothing none bad

  -- ---- why an end has its status

  why_words : (due : Due) → Comes contents words due → EndsWith BadCommandLine due → IsOfNoForm words
  why_words due (nothing none is) ends = none
  why_words due (lacking name is) ends = never_fetch BadCommandLine due name is ends
  why_words due (audits plan text ending of end is) ends = absurd (never_audits BadCommandLine plan text ending end (λ same. cc) (λ same. cc) (ends_as BadCommandLine due ending is ends))
  why_words due (replayed shown plan schedule ending of end is) ends =
      absurd (never_replays BadCommandLine shown plan schedule ending end (λ same. cc) (λ same. cc) (λ same. cc) (ends_as BadCommandLine due ending is ends))
  why_words due (drawn plan seed steps of is) ends = absurd (never_drawn BadCommandLine plan seed steps (λ same. cc) (λ same. cc) (ends_as BadCommandLine due _ is ends))
  why_words due (listed plan seed steps of is) ends = absurd (never_listed BadCommandLine plan seed steps (λ same. cc) (λ same. cc) (ends_as BadCommandLine due _ is ends))
  why_words due (settles plan deliveries of is) ends = absurd (never_settles BadCommandLine plan deliveries (λ same. cc) (λ same. cc) (λ same. cc) (ends_as BadCommandLine due _ is ends))
  why_words due (served plan number turns of is) ends = never_serves BadCommandLine due plan number turns is ends
  why_words due (nameless name of is) ends = absurd (let clash : BadProgram ≡ BadCommandLine = ends_as BadCommandLine due _ is ends in cc)
  why_words due (refused form program bytes ending of first there (number, cause, refusal, means) is) ends =
      absurd (let clash : BadProgram ≡ BadCommandLine = sym (ap (λ (e : Ending). e.status) means) ∙ ends_as BadCommandLine due ending is ends in cc)
  why_words due (ended command file bytes ending form there end is) ends =
      absurd (never_ends BadCommandLine command bytes ending end (λ same. cc) (λ same. cc) (λ same. cc) (λ same. cc) (ends_as BadCommandLine due ending is ends))

  refused_program : (form : CommandForm) (program bytes : List ℕ) (ending : Ending) → IsOfForm words form → program_read form ≡ Some program → contents program ≡ Some bytes → IsEndOfRefused bytes ending → IsRefusedProgram contents words
  refused_program form program bytes ending of program_is there (number, cause, refusal, is) =
      record { form = form; of_form = of; program = program; program_is = program_is; bytes = bytes; there = there; number = number; cause = cause; refused = refusal }

  refused_file : (command : OneFile) (file bytes : List ℕ) (ending : Ending) → IsOfForm words (end_form command file) → contents file ≡ Some bytes → IsEndOf command bytes ending → ending.status ≡ BadProgram → IsRefusedProgram contents words
  refused_file Stubs file bytes ending form there end bad = refused_program (stubs file) file bytes ending form refl there (refused_end Stubs bytes ending end bad)
  refused_file Run file bytes ending form there end bad = refused_program (run file) file bytes ending form refl there (refused_end Run bytes ending end bad)
  refused_file Place file bytes ending form there end bad = absurd (elim (placing_status bytes ending end) [
    | inl done ↦ let clash : Done ≡ BadProgram = sym done ∙ bad in cc
    | inr (inl none) ↦ let clash : NoPlacement ≡ BadProgram = sym none ∙ bad in cc
    | inr (inr bad_placing) ↦ let clash : BadPlacing ≡ BadProgram = sym bad_placing ∙ bad in cc
  ])

  why_program : (due : Due) → Comes contents words due → EndsWith BadProgram due → IsRefusedProgram contents words ⊎ IsNameless contents words
  why_program due (nothing none is) ends = absurd (let clash : BadCommandLine ≡ BadProgram = ends_as BadProgram due _ is ends in cc)
  why_program due (lacking name is) ends = never_fetch BadProgram due name is ends
  why_program due (audits plan text ending of end is) ends = absurd (never_audits BadProgram plan text ending end (λ same. cc) (λ same. cc) (ends_as BadProgram due ending is ends))
  why_program due (replayed shown plan schedule ending of end is) ends =
      absurd (never_replays BadProgram shown plan schedule ending end (λ same. cc) (λ same. cc) (λ same. cc) (ends_as BadProgram due ending is ends))
  why_program due (drawn plan seed steps of is) ends = absurd (never_drawn BadProgram plan seed steps (λ same. cc) (λ same. cc) (ends_as BadProgram due _ is ends))
  why_program due (listed plan seed steps of is) ends = absurd (never_listed BadProgram plan seed steps (λ same. cc) (λ same. cc) (ends_as BadProgram due _ is ends))
  why_program due (settles plan deliveries of is) ends = absurd (never_settles BadProgram plan deliveries (λ same. cc) (λ same. cc) (λ same. cc) (ends_as BadProgram due _ is ends))
  why_program due (served plan number turns of is) ends = never_serves BadProgram due plan number turns is ends
  why_program due (nameless name of is) ends = inr of
  why_program due (refused form program bytes ending of first there refusal is) ends = inl (refused_program form program bytes ending of first there refusal)
  why_program due (ended command file bytes ending form there end is) ends = inl (refused_file command file bytes ending form there end (ends_as BadProgram due ending is ends))

  why_schedule : (due : Due) → Comes contents words due → EndsWith BadSchedule due → IsRefusedReplay contents words
  why_schedule due (nothing none is) ends = absurd (let clash : BadCommandLine ≡ BadSchedule = ends_as BadSchedule due _ is ends in cc)
  why_schedule due (lacking name is) ends = never_fetch BadSchedule due name is ends
  why_schedule due (audits plan text ending of end is) ends = absurd (never_audits BadSchedule plan text ending end (λ same. cc) (λ same. cc) (ends_as BadSchedule due ending is ends))
  why_schedule due (replayed shown plan schedule ending of end is) ends =
      record { shown = shown; plan = plan; schedule = schedule; replayed = of; refused = replay_refused shown plan schedule ending end (ends_as BadSchedule due ending is ends) }
  why_schedule due (drawn plan seed steps of is) ends = absurd (never_drawn BadSchedule plan seed steps (λ same. cc) (λ same. cc) (ends_as BadSchedule due _ is ends))
  why_schedule due (listed plan seed steps of is) ends = absurd (never_listed BadSchedule plan seed steps (λ same. cc) (λ same. cc) (ends_as BadSchedule due _ is ends))
  why_schedule due (settles plan deliveries of is) ends = absurd (never_settles BadSchedule plan deliveries (λ same. cc) (λ same. cc) (λ same. cc) (ends_as BadSchedule due _ is ends))
  why_schedule due (served plan number turns of is) ends = never_serves BadSchedule due plan number turns is ends
  why_schedule due (nameless name of is) ends = absurd (let clash : BadProgram ≡ BadSchedule = ends_as BadSchedule due _ is ends in cc)
  why_schedule due (refused form program bytes ending of first there (number, cause, refusal, means) is) ends =
      absurd (let clash : BadProgram ≡ BadSchedule = sym (ap (λ (e : Ending). e.status) means) ∙ ends_as BadSchedule due ending is ends in cc)
  why_schedule due (ended command file bytes ending form there end is) ends =
      absurd (never_ends BadSchedule command bytes ending end (λ same. cc) (λ same. cc) (λ same. cc) (λ same. cc) (ends_as BadSchedule due ending is ends))

  why_spent : (due : Due) → Comes contents words due → EndsWith Spent due → IsSpent contents words
  why_spent due (nothing none is) ends = absurd (let clash : BadCommandLine ≡ Spent = ends_as Spent due _ is ends in cc)
  why_spent due (lacking name is) ends = never_fetch Spent due name is ends
  why_spent due (audits plan text ending of end is) ends = absurd (never_audits Spent plan text ending end (λ same. cc) (λ same. cc) (ends_as Spent due ending is ends))
  why_spent due (replayed shown plan schedule ending of end is) ends =
      let spent = replay_spent shown plan schedule ending end (ends_as Spent due ending is ends) in
      inl (record { shown = shown; plan = plan; schedule = schedule; replayed = of; lines = spent.0; read = spent.1; spent = spent.2 })
  why_spent due (drawn plan seed steps of is) ends = elim (sample_status plan seed steps) [
    | inl done ↦ absurd (let clash : Done ≡ Spent = sym done ∙ ends_as Spent due _ is ends in cc)
    | inr (spent, why) ↦ inr (inl (record { plan = plan; seed = seed; steps = steps; drawn = of; spent = why }))
  ]
  why_spent due (settles plan deliveries of is) ends = elim (settle_status plan deliveries) [
    | inl done ↦ absurd (let clash : Done ≡ Spent = sym done ∙ ends_as Spent due _ is ends in cc)
    | inr (inl (left, why)) ↦ absurd (let clash : Unsettled ≡ Spent = sym left ∙ ends_as Spent due _ is ends in cc)
    | inr (inr (spent, why)) ↦ inr (inr (inl (record { plan = plan; deliveries = deliveries; settles = of; spent = why })))
  ]
  why_spent due (listed plan seed steps of is) ends = elim (sample_status plan seed steps) [
    | inl done ↦ absurd (let clash : Done ≡ Spent = sym done ∙ sym (lines_end_alike plan seed steps) ∙ ends_as Spent due _ is ends in cc)
    | inr (spent, why) ↦ inr (inr (inr (record { plan = plan; seed = seed; steps = steps; drawn = of; spent = why })))
  ]
  why_spent due (served plan number turns of is) ends = never_serves Spent due plan number turns is ends
  why_spent due (nameless name of is) ends = absurd (let clash : BadProgram ≡ Spent = ends_as Spent due _ is ends in cc)
  why_spent due (refused form program bytes ending of first there (number, cause, refusal, means) is) ends =
      absurd (let clash : BadProgram ≡ Spent = sym (ap (λ (e : Ending). e.status) means) ∙ ends_as Spent due ending is ends in cc)
  why_spent due (ended command file bytes ending form there end is) ends =
      absurd (never_ends Spent command bytes ending end (λ same. cc) (λ same. cc) (λ same. cc) (λ same. cc) (ends_as Spent due ending is ends))

  why_record : (due : Due) → Comes contents words due → EndsWith BadRecord due → IsRefusedAudit contents words
  why_record due (nothing none is) ends = absurd (let clash : BadCommandLine ≡ BadRecord = ends_as BadRecord due _ is ends in cc)
  why_record due (lacking name is) ends = never_fetch BadRecord due name is ends
  why_record due (audits plan text ending of end is) ends = elim (audit_status plan text ending end) [
    | inl (done, why) ↦ absurd (let clash : Done ≡ BadRecord = sym done ∙ ends_as BadRecord due ending is ends in cc)
    | inr (bad, why) ↦ record { plan = plan; text = text; audits = of; refused = why }
  ]
  why_record due (replayed shown plan schedule ending of end is) ends =
      absurd (never_replays BadRecord shown plan schedule ending end (λ same. cc) (λ same. cc) (λ same. cc) (ends_as BadRecord due ending is ends))
  why_record due (drawn plan seed steps of is) ends = absurd (never_drawn BadRecord plan seed steps (λ same. cc) (λ same. cc) (ends_as BadRecord due _ is ends))
  why_record due (listed plan seed steps of is) ends = absurd (never_listed BadRecord plan seed steps (λ same. cc) (λ same. cc) (ends_as BadRecord due _ is ends))
  why_record due (settles plan deliveries of is) ends = absurd (never_settles BadRecord plan deliveries (λ same. cc) (λ same. cc) (λ same. cc) (ends_as BadRecord due _ is ends))
  why_record due (served plan number turns of is) ends = never_serves BadRecord due plan number turns is ends
  why_record due (nameless name of is) ends = absurd (let clash : BadProgram ≡ BadRecord = ends_as BadRecord due _ is ends in cc)
  why_record due (refused form program bytes ending of first there (number, cause, refusal, means) is) ends =
      absurd (let clash : BadProgram ≡ BadRecord = sym (ap (λ (e : Ending). e.status) means) ∙ ends_as BadRecord due ending is ends in cc)
  why_record due (ended command file bytes ending form there end is) ends =
      absurd (never_ends BadRecord command bytes ending end (λ same. cc) (λ same. cc) (λ same. cc) (λ same. cc) (ends_as BadRecord due ending is ends))

  why_unsettled : (due : Due) → Comes contents words due → EndsWith Unsettled due → IsUnsettled contents words
  why_unsettled due (nothing none is) ends = absurd (let clash : BadCommandLine ≡ Unsettled = ends_as Unsettled due _ is ends in cc)
  why_unsettled due (lacking name is) ends = never_fetch Unsettled due name is ends
  why_unsettled due (audits plan text ending of end is) ends = absurd (never_audits Unsettled plan text ending end (λ same. cc) (λ same. cc) (ends_as Unsettled due ending is ends))
  why_unsettled due (replayed shown plan schedule ending of end is) ends =
      absurd (never_replays Unsettled shown plan schedule ending end (λ same. cc) (λ same. cc) (λ same. cc) (ends_as Unsettled due ending is ends))
  why_unsettled due (drawn plan seed steps of is) ends = absurd (never_drawn Unsettled plan seed steps (λ same. cc) (λ same. cc) (ends_as Unsettled due _ is ends))
  why_unsettled due (listed plan seed steps of is) ends = absurd (never_listed Unsettled plan seed steps (λ same. cc) (λ same. cc) (ends_as Unsettled due _ is ends))
  why_unsettled due (settles plan deliveries of is) ends = elim (settle_status plan deliveries) [
    | inl done ↦ absurd (let clash : Done ≡ Unsettled = sym done ∙ ends_as Unsettled due _ is ends in cc)
    | inr (inl (left, why)) ↦ record { plan = plan; deliveries = deliveries; settles = of; left = why }
    | inr (inr (spent, why)) ↦ absurd (let clash : Spent ≡ Unsettled = sym spent ∙ ends_as Unsettled due _ is ends in cc)
  ]
  why_unsettled due (served plan number turns of is) ends = never_serves Unsettled due plan number turns is ends
  why_unsettled due (nameless name of is) ends = absurd (let clash : BadProgram ≡ Unsettled = ends_as Unsettled due _ is ends in cc)
  why_unsettled due (refused form program bytes ending of first there (number, cause, refusal, means) is) ends =
      absurd (let clash : BadProgram ≡ Unsettled = sym (ap (λ (e : Ending). e.status) means) ∙ ends_as Unsettled due ending is ends in cc)
  why_unsettled due (ended command file bytes ending form there end is) ends =
      absurd (never_ends Unsettled command bytes ending end (λ same. cc) (λ same. cc) (λ same. cc) (λ same. cc) (ends_as Unsettled due ending is ends))

  -- ---- and where the reason holds the end is that one

  -- one thing is due, so it ends with the status of any that is
  pub same_status : (status : Status) (due other : Due) → IsDueLast contents words due → IsDueLast contents words other → EndsWith status other → EndsWith status due
  same_status status due other is also ends = subst (EndsWith status) (sym (one_due contents words due other is also)) ends

  pub due_of_form : (form : CommandForm) (files : List (List ℕ)) (due : Due) → IsOfForm words form → AreContents contents (files_of form) files → IsDueOfForm form files due → IsLast contents due → IsDueLast contents words due
  due_of_form form files due of fetched is last = record { is_due = inl (record { form = form; of_form = of; files = files; fetched = fetched; is_due = is }); last = last }

  bad_words : (due : Due) → IsDueLast contents words due → IsOfNoForm words → EndsWith BadCommandLine due
  bad_words due is none =
      same_status BadCommandLine due bad_command_line is (record { is_due = inr (none, refl); last = tt }) refl

  refused_due : (has : IsRefusedProgram contents words) (form : CommandForm) → IsOfForm words form → program_read form ≡ Some has.program
      → IsDueLast contents words (finish (refused_with has.number has.cause))
  refused_due has form of is = by_form form of is
    where
      refusal : IsEndOfRefused has.bytes (refused_with has.number has.cause)
      refusal = (has.number, has.cause, has.refused, refl)

      found : (name : List ℕ) → Some name ≡ Some has.program → contents name ≡ Some has.bytes
      found name same = let is : name ≡ has.program = cc in subst (λ n. contents n ≡ Some has.bytes) (sym is) has.there

      by_form : (f : CommandForm) → IsOfForm words f → program_read f ≡ Some has.program → IsDueLast contents words (finish (refused_with has.number has.cause))
      by_form (stubs program) of is = due_of_form (stubs program) (has.bytes ∷ []) (finish (refused_with has.number has.cause)) of (found program is, tt) (refused_with has.number has.cause, inr refusal, refl) tt
      by_form (run program) of is = due_of_form (run program) (has.bytes ∷ []) (finish (refused_with has.number has.cause)) of (found program is, tt) (refused_with has.number has.cause, inr refusal, refl) tt
      by_form (replay program name) of is = due_of_form (replay program name) (has.bytes ∷ []) (finish (refused_with has.number has.cause)) of (found program is, tt) (inr (refused_with has.number has.cause, refusal, refl)) tt
      by_form (picture program name) of is = due_of_form (picture program name) (has.bytes ∷ []) (finish (refused_with has.number has.cause)) of (found program is, tt) (inr (refused_with has.number has.cause, refusal, refl)) tt
      by_form (place _) of is = absurd cc
      by_form (node program name turns) of is = due_of_form (node program name turns) (has.bytes ∷ []) (finish (refused_with has.number has.cause)) of (found program is, tt) (inr (refused_with has.number has.cause, refusal, refl)) tt
      by_form (sample program seed steps) of is = due_of_form (sample program seed steps) (has.bytes ∷ []) (finish (refused_with has.number has.cause)) of (found program is, tt) (inr (refused_with has.number has.cause, refusal, refl)) tt
      by_form (draw program seed steps) of is = due_of_form (draw program seed steps) (has.bytes ∷ []) (finish (refused_with has.number has.cause)) of (found program is, tt) (inr (refused_with has.number has.cause, refusal, refl)) tt
      by_form (settle program deliveries) of is = due_of_form (settle program deliveries) (has.bytes ∷ []) (finish (refused_with has.number has.cause)) of (found program is, tt) (inr (refused_with has.number has.cause, refusal, refl)) tt
      by_form (audit program name) of is = due_of_form (audit program name) (has.bytes ∷ []) (finish (refused_with has.number has.cause)) of (found program is, tt) (inr (refused_with has.number has.cause, refusal, refl)) tt

  bad_program : (due : Due) → IsDueLast contents words due → IsRefusedProgram contents words ⊎ IsNameless contents words → EndsWith BadProgram due
  bad_program due is (inl has) = same_status BadProgram due _ is (refused_due has has.form has.of_form has.program_is) refl
  bad_program due is (inr has) =
      let other = due_of_form (node has.program has.name has.turns) (has.bytes ∷ []) (finish (no_node has.name)) has.of_form (has.there, tt) (inl (has.plan, has.good, inr (has.nameless, refl))) tt in
      same_status BadProgram due (finish (no_node has.name)) is other refl

  -- a replay that ends so
  shown_due : (shown : Shown) (plan : Plan) (schedule : List ℕ) (ending : Ending) → IsShown shown contents words plan schedule → IsEndOfReplay shown plan schedule ending → IsDueLast contents words (finish ending)
  shown_due Report plan schedule ending r end =
      due_of_form (replay r.program r.name) (r.bytes ∷ schedule ∷ []) (finish ending) r.of_form (r.program_is, (r.second_is, tt)) (plan, r.good, (ending, end, refl)) tt
  shown_due Picture plan schedule ending r end =
      due_of_form (picture r.program r.name) (r.bytes ∷ schedule ∷ []) (finish ending) r.of_form (r.program_is, (r.second_is, tt)) (plan, r.good, (ending, end, refl)) tt

  pub replay_due : (status : Status) (shown : Shown) (plan : Plan) (schedule : List ℕ) (due : Due) → IsDueLast contents words due → IsShown shown contents words plan schedule → Ends shown plan schedule status
      → EndsWith status due
  replay_due status shown plan schedule due is r e = same_status status due (finish e.ending) is (shown_due shown plan schedule e.ending r e.end) e.status_is

  bad_schedule : (due : Due) → IsDueLast contents words due → IsRefusedReplay contents words → EndsWith BadSchedule due
  bad_schedule due is has = replay_due BadSchedule has.shown has.plan has.schedule due is has.replayed (ends_refused has.shown has.plan has.schedule has.refused)

  -- deliveries that end so
  settle_due : (status : Status) (plan : Plan) (deliveries : ℕ) (due : Due) → IsDueLast contents words due → IsSettle contents words plan deliveries → (settle_of plan deliveries).status ≡ status → EndsWith status due
  settle_due status plan deliveries due is s ends =
      let end = settle_of plan deliveries in
      let other = due_of_form (settle s.program deliveries) (s.bytes ∷ []) (finish end) s.of_form (s.program_is, tt) (inl (plan, s.good, refl)) tt in
      same_status status due (finish end) is other ends

  pub unsettled : (due : Due) → IsDueLast contents words due → IsUnsettled contents words → EndsWith Unsettled due
  unsettled due is has = settle_due Unsettled has.plan has.deliveries due is has.settles (settle_left has.plan has.deliveries has.left)

  spent : (due : Due) → IsDueLast contents words due → IsSpent contents words → EndsWith Spent due
  spent due is (inr (inr (inr has))) =
      let d = has.drawn in
      let end = schedule_of has.plan has.seed has.steps in
      let other = due_of_form (draw d.program has.seed has.steps) (d.bytes ∷ []) (finish end) d.of_form (d.program_is, tt) (inl (has.plan, d.good, refl)) tt in
      same_status Spent due (finish end) is other (lines_end_alike has.plan has.seed has.steps ∙ sample_spent has.plan has.seed has.steps has.spent)
  spent due is (inr (inr (inl has))) = settle_due Spent has.plan has.deliveries due is has.settles (settle_spent has.plan has.deliveries has.spent)
  spent due is (inr (inl has)) =
      let d = has.drawn in
      let end = sample_of has.plan has.seed has.steps in
      let other = due_of_form (sample d.program has.seed has.steps) (d.bytes ∷ []) (finish end) d.of_form (d.program_is, tt) (inl (has.plan, d.good, refl)) tt in
      same_status Spent due (finish end) is other (sample_spent has.plan has.seed has.steps has.spent)
  spent due is (inl has) = replay_due Spent has.shown has.plan has.schedule due is has.replayed (ends_spent has.shown has.plan has.schedule has.lines has.read has.spent)

  -- an audit that ends so
  pub audit_due : (plan : Plan) (text : List ℕ) (ending : Ending) → IsAudit contents words plan text → IsEndOfAudit plan text ending → IsDueLast contents words (finish ending)
  audit_due plan text ending a end =
      due_of_form (audit a.program a.name) (a.bytes ∷ text ∷ []) (finish ending) a.of_form (a.program_is, (a.second_is, tt)) (plan, a.good, (ending, end, refl)) tt

  pub bad_record : (due : Due) → IsDueLast contents words due → IsRefusedAudit contents words → EndsWith BadRecord due
  bad_record due is has =
      let e = ends_bad has.plan has.text has.refused in
      same_status BadRecord due (finish e.ending) is (audit_due has.plan has.text e.ending has.audits e.end) e.status_is

  pub words_why : (due : Due) → IsDueLast contents words due → (EndsWith BadCommandLine due ↔ IsOfNoForm words)
  words_why due is = (why_words due (comes_to due is), bad_words due is)

  pub program_why : (due : Due) → IsDueLast contents words due → (EndsWith BadProgram due ↔ (IsRefusedProgram contents words ⊎ IsNameless contents words))
  program_why due is = (why_program due (comes_to due is), bad_program due is)

  pub schedule_why : (due : Due) → IsDueLast contents words due → (EndsWith BadSchedule due ↔ IsRefusedReplay contents words)
  schedule_why due is = (why_schedule due (comes_to due is), bad_schedule due is)

  pub spent_why : (due : Due) → IsDueLast contents words due → (EndsWith Spent due ↔ IsSpent contents words)
  spent_why due is = (why_spent due (comes_to due is), spent due is)

  pub record_why : (due : Due) → IsDueLast contents words due → (EndsWith BadRecord due ↔ IsRefusedAudit contents words)
  record_why due is = (why_record due (comes_to due is), bad_record due is)

  pub unsettled_why : (due : Due) → IsDueLast contents words due → (EndsWith Unsettled due ↔ IsUnsettled contents words)
  unsettled_why due is = (why_unsettled due (comes_to due is), unsettled due is)
