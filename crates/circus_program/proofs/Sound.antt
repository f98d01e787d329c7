-- Where nothing is amiss with words, and only there, what is due ends well; and why a placing doesn't.
use Rattle.std.proofs.Common.{◌≡◌, ◌↔◌, ℕ, inl, inr, Option, Some, None, List, [], ◌∷◌, Result, Ok, Err, refl, sym, ap, subst, ◌∙◌, codes}
use Rattle.circus_schedule.specs.declared.line.Line.{Line}
use Rattle.circus_schedule.specs.declared.schedule_fault.ScheduleFault.{ScheduleFault}
use Rattle.circus_schedule.specs.Meaning.{numbers_of}
use Rattle.circus_schedule.proofs.OneAnswer.{IsAnswer-one}
use Rattle.circus_config.specs.declared.plan.Plan.{Plan}
use Rattle.circus_commands.specs.declared.status.Status.{Status}
use Rattle.circus_commands.specs.declared.status.Status.TheVariants.{Done, BadCommandLine, BadProgram, BadSchedule, Spent, Unsettled, BadPlacing, NoPlacement, BadRecord}
use Rattle.circus_commands.specs.declared.one_file.OneFile.{OneFile}
use Rattle.circus_commands.specs.declared.one_file.OneFile.TheVariants.{Stubs, Run, Place}
use Rattle.circus_commands.specs.Ending.{Ending}
use Rattle.circus_commands.specs.OneFile.{IsEndOf}
use Rattle.circus_commands.specs.Placed.{refused_text, IsRefusedPlacing, HasNoChoice, IsEndOfPlacing}
use Rattle.circus_commands.specs.Program.{history_lines, stubs_lines, IsEndOfProgram}
use Rattle.circus_commands.proofs.OneEnding.{choice_is_done}
use Rattle.circus_record.specs.Line.{line}
use Rattle.circus_simulation.specs.Sample.{sample_of}
use Rattle.circus_simulation.specs.Schedule.{schedule_of}
use Rattle.circus_simulation.specs.Settle.{settle_of}
use Rattle.circus_program.specs.declared.shown.Shown.{Shown}
use Rattle.circus_program.specs.declared.shown.Shown.TheVariants.{Report, Picture}
use Rattle.circus_program.specs.declared.second.Second.TheVariants.{Schedule}
use Rattle.circus_program.specs.Audit.{IsEndOfAudit}
use Rattle.circus_program.specs.Form.{CommandForm, stubs, run, replay, picture, node, sample, draw, settle, place, audit, IsOfForm, second_form}
use Rattle.circus_program.specs.Seen.Asked.{end_form}
use Rattle.circus_program.specs.Replay.{IsEndOfReplay, shown_of}
use Rattle.circus_program.specs.Answer.{Due, fetch, finish, serve}
use Rattle.circus_program.specs.Last.{IsDueLast, EndsWith, HasRefused, IsShown, IsAudit}
use Rattle.circus_program.specs.Sound.{MeansPlan, IsLegal, IsSound, AreSound, AskToPlace, IsServing, ComesWell, IsDone}
use Rattle.circus_program.proofs.ReplayEnds.{Refuses, IsStatusOfReplay, replay_status, ends_refused}
use Rattle.circus_program.proofs.SampleEnds.{sample_status, lines_end_alike}
use Rattle.circus_program.proofs.SettleEnds.{settle_status}
use Rattle.circus_program.proofs.Audits.{audit_status, never_audits, ends_true}
use Rattle.circus_program.proofs.OneDue.{one_due, of_placing}
use Rattle.circus_program.proofs.Why.{Comes, nothing, lacking, audits, replayed, drawn, listed, settles, served, nameless, refused, ended, comes_to, same_status, due_of_form, replay_due, audit_due, unsettled, spent_why, never_replays, never_drawn, never_listed, never_settles, never_fetch, never_serves, ends_as}

-- ---- statuses

-- a thing that is due ends with one status
one_end : (one other : Status) (due : Due) → EndsWith one due → EndsWith other due → one ≡ other
one_end one other (fetch name) is also = absurd is
one_end one other (finish ending) is also = sym is ∙ also
one_end one other (serve plan number turns) is also = absurd is

-- what ends with another status than those doesn't come well
unwell : (status : Status) (due : Due) → (status ≡ Done → ⊥) → (status ≡ Spent → ⊥) → EndsWith status due → ComesWell due → ⊥
unwell status due no_done no_spent is (inl done) = no_done (one_end status Done due is done)
unwell status due no_done no_spent is (inr (inl spent)) = no_spent (one_end status Spent due is spent)
unwell status (fetch name) no_done no_spent is (inr (inr serving)) = is
unwell status (finish ending) no_done no_spent is (inr (inr serving)) = serving
unwell status (serve plan number turns) no_done no_spent is (inr (inr serving)) = is

finishes : (status : Status) (due : Due) (ending : Ending) → due ≡ finish ending → ending.status ≡ status → EndsWith status due
finishes status due ending is ends = subst (EndsWith status) (sym is) ends

-- no fetch comes well
fetch_unwell : (due : Due) (name : List ℕ) → due ≡ fetch name → ComesWell due → ⊥
fetch_unwell due name is well = by_fetch (subst ComesWell is well)
  where
    by_fetch : ComesWell (fetch name) → ⊥
    by_fetch (inl none) = none
    by_fetch (inr (inl none)) = none
    by_fetch (inr (inr none)) = none

module _ (contents : List ℕ → Option (List ℕ)) (words : List (List ℕ)) where
  -- ---- what is sound comes well

  shown_well : (shown : Shown) (program schedule : List ℕ) (plan : Plan) (due : Due) → IsOfForm words (second_form (Schedule shown) program schedule) → MeansPlan contents program plan
      → IsLegal contents plan schedule → IsDueLast contents words due → ComesWell due
  shown_well shown program schedule plan due of means l is = by_status (replay_status shown plan l.text (shown_of shown plan l.lines) end)
    where
      end : IsEndOfReplay shown plan l.text (shown_of shown plan l.lines)
      end = (Ok l.lines, l.read, refl)

      as_shown : IsShown shown contents words plan l.text
      as_shown = record { program = program; name = schedule; of_form = of; bytes = means.bytes; program_is = means.there; good = means.good; second_is = l.there }

      ends : (status : Status) → (shown_of shown plan l.lines).status ≡ status → EndsWith status due
      ends status so = replay_due contents words status shown plan l.text due is as_shown (record { ending = shown_of shown plan l.lines; end = end; status_is = so })

      not_refused : Refuses plan l.text → ⊥
      not_refused (inl (fault, answer)) =
          let clash : ◌≡◌ {A = Result (List Line) ScheduleFault} (Ok l.lines) (Err fault) = IsAnswer-one (numbers_of plan.deployment.nodes) l.text (Ok l.lines) (Err fault) l.read answer in cc
      not_refused (inr (lines, w, answer, booted_is, has)) =
          let same : ◌≡◌ {A = Result (List Line) ScheduleFault} (Ok l.lines) (Ok lines) = IsAnswer-one (numbers_of plan.deployment.nodes) l.text (Ok l.lines) (Ok lines) l.read answer in
          let equal : l.lines ≡ lines = cc in
          l.legal w booted_is (subst (λ (ls : List Line). HasRefused ls w) (sym equal) has)

      by_status : IsStatusOfReplay plan l.text (shown_of shown plan l.lines).status → ComesWell due
      by_status (inl done) = inl (ends Done done)
      by_status (inr (inl (bad, why))) = absurd (not_refused why)
      by_status (inr (inr (spent, why))) = inr (inl (ends Spent spent))

  sound_well : (form : CommandForm) (due : Due) → IsOfForm words form → IsSound contents form → IsDueLast contents words due → ComesWell due
  sound_well (stubs program) due of (plan, m) is =
      let e : Ending = record { status = Done; text = stubs_lines plan } in
      let other = due_of_form contents words (stubs program) (m.bytes ∷ []) (finish e) of (m.there, tt) (e, inl (plan, m.good, refl), refl) tt in
      inl (same_status contents words Done due (finish e) is other refl)
  sound_well (run program) due of (plan, m) is =
      let e : Ending = record { status = Done; text = history_lines plan } in
      let other = due_of_form contents words (run program) (m.bytes ∷ []) (finish e) of (m.there, tt) (e, inl (plan, m.good, refl), refl) tt in
      inl (same_status contents words Done due (finish e) is other refl)
  sound_well (replay program schedule) due of (plan, m, l) is = shown_well Report program schedule plan due of m l is
  sound_well (picture program schedule) due of (plan, m, l) is = shown_well Picture program schedule plan due of m l is
  sound_well (node program name turns) due of (plan, m, (number, named)) is =
      let other = due_of_form contents words (node program name turns) (m.bytes ∷ []) (serve plan number turns) of (m.there, tt) (inl (plan, m.good, inl (number, named, refl))) tt in
      inr (inr (subst IsServing (sym (one_due contents words due (serve plan number turns) is other)) tt))
  sound_well (sample program seed steps) due of (plan, m) is =
      let e = sample_of plan seed steps in
      let other = due_of_form contents words (sample program seed steps) (m.bytes ∷ []) (finish e) of (m.there, tt) (inl (plan, m.good, refl)) tt in
      elim (sample_status plan seed steps) [
        | inl done ↦ inl (same_status contents words Done due (finish e) is other done)
        | inr (spent, why) ↦ inr (inl (same_status contents words Spent due (finish e) is other spent))
      ]
  sound_well (draw program seed steps) due of (plan, m) is =
      let e = schedule_of plan seed steps in
      let other = due_of_form contents words (draw program seed steps) (m.bytes ∷ []) (finish e) of (m.there, tt) (inl (plan, m.good, refl)) tt in
      elim (sample_status plan seed steps) [
        | inl done ↦ inl (same_status contents words Done due (finish e) is other (lines_end_alike plan seed steps ∙ done))
        | inr (spent, why) ↦ inr (inl (same_status contents words Spent due (finish e) is other (lines_end_alike plan seed steps ∙ spent)))
      ]
  sound_well (settle program deliveries) due of (plan, m, whole) is =
      let e = settle_of plan deliveries in
      let other = due_of_form contents words (settle program deliveries) (m.bytes ∷ []) (finish e) of (m.there, tt) (inl (plan, m.good, refl)) tt in
      elim (settle_status plan deliveries) [
        | inl done ↦ inl (same_status contents words Done due (finish e) is other done)
        | inr (inl (left, why)) ↦ absurd (whole why)
        | inr (inr (spent, why)) ↦ inr (inl (same_status contents words Spent due (finish e) is other spent))
      ]
  sound_well (place placing) due of (bytes, there, has) is = elim (of_placing contents words placing due of is) [
    | inl (none, fetched) ↦ absurd (let clash : ◌≡◌ {A = Option (List ℕ)} (Some bytes) None = sym there ∙ none in cc)
    | inr (read, here, (ending, end, finished)) ↦
        let same : ◌≡◌ {A = Option (List ℕ)} (Some read) (Some bytes) = sym here ∙ there in
        let equal : read ≡ bytes = cc in
        inl (finishes Done due ending finished (choice_is_done bytes ending (subst (λ (b : List ℕ). IsEndOf Place b ending) equal end) has))
  ]
  sound_well (audit program «record») due of (plan, m, r) is =
      let e = ends_true plan r.text r.is in
      let a : IsAudit contents words plan r.text =
      record { program = program; name = «record»; of_form = of; bytes = m.bytes; program_is = m.there; good = m.good; second_is = r.there } in
      inl (same_status contents words Done due (finish e.ending) is (audit_due contents words plan r.text e.ending a e.end) e.status_is)

  -- ---- and only that does

  of_shown : (shown : Shown) (program name : List ℕ) (plan : Plan) → IsOfForm words (second_form (Schedule shown) program name) → MeansPlan contents program plan → IsLegal contents plan name → AreSound contents words
  of_shown Report program name plan of m l = (replay program name, of, (plan, m, l))
  of_shown Picture program name plan of m l = (picture program name, of, (plan, m, l))

  shown_sound : (shown : Shown) (plan : Plan) (schedule : List ℕ) (ending : Ending) (due : Due) → IsShown shown contents words plan schedule → IsEndOfReplay shown plan schedule ending → due ≡ finish ending
      → IsDueLast contents words due → ComesWell due → AreSound contents words
  shown_sound shown plan schedule ending due s (Ok lines, answer, so) finished is well =
      of_shown shown s.program s.name plan s.of_form (record { bytes = s.bytes; there = s.program_is; good = s.good })
      (record {
        text = schedule;
        there = s.second_is;
        lines = lines;
        read = answer;
        legal = λ w booted_is has.
            unwell BadSchedule due (λ same. cc) (λ same. cc)
            (replay_due contents words BadSchedule shown plan schedule due is s (ends_refused shown plan schedule (inr (lines, w, answer, booted_is, has)))) well;
      })
  shown_sound shown plan schedule ending due s (Err fault, answer, so) finished is well =
      absurd (unwell BadSchedule due (λ same. cc) (λ same. cc) (replay_due contents words BadSchedule shown plan schedule due is s (ends_refused shown plan schedule (inl (fault, answer)))) well)

  program_sound : (form : CommandForm) (program bytes : List ℕ) (lines : Plan → List ℕ) (ending : Ending) (due : Due) → IsOfForm words form → contents program ≡ Some bytes
      → ((plan : Plan) → MeansPlan contents program plan → IsSound contents form) → IsEndOfProgram lines bytes ending → due ≡ finish ending → ComesWell due → AreSound contents words
  program_sound form program bytes lines ending due of there sound (inl (plan, good, so)) finished well = (form, of, sound plan (record { bytes = bytes; there = there; good = good }))
  program_sound form program bytes lines ending due of there sound (inr (number, cause, refusal, so)) finished well =
      absurd (unwell BadProgram due (λ same. cc) (λ same. cc) (finishes BadProgram due ending finished (ap (λ (e : Ending). e.status) so)) well)

  placing_sound : (placing bytes : List ℕ) (ending : Ending) (due : Due) → IsOfForm words (place placing) → contents placing ≡ Some bytes → IsEndOfPlacing bytes ending → due ≡ finish ending → ComesWell due
      → AreSound contents words
  placing_sound placing bytes ending due of there (inl (p, read, inl (choice, best, so))) finished well =
      (place placing, of, (bytes, there, (p, read, (choice, best.is_choice, best.satisfies))))
  placing_sound placing bytes ending due of there (inl (p, read, inr (none, so))) finished well =
      absurd (unwell NoPlacement due (λ same. cc) (λ same. cc) (finishes NoPlacement due ending finished (ap (λ (e : Ending). e.status) so)) well)
  placing_sound placing bytes ending due of there (inr (number, cause, refusal, so)) finished well =
      absurd (unwell BadPlacing due (λ same. cc) (λ same. cc) (finishes BadPlacing due ending finished (ap (λ (e : Ending). e.status) so)) well)

  file_sound : (command : OneFile) (file bytes : List ℕ) (ending : Ending) (due : Due) → IsOfForm words (end_form command file) → contents file ≡ Some bytes → IsEndOf command bytes ending
      → due ≡ finish ending → ComesWell due → AreSound contents words
  file_sound Stubs file bytes ending due of there end finished well = program_sound (stubs file) file bytes stubs_lines ending due of there (λ plan m. (plan, m)) end finished well
  file_sound Run file bytes ending due of there end finished well = program_sound (run file) file bytes history_lines ending due of there (λ plan m. (plan, m)) end finished well
  file_sound Place file bytes ending due of there end finished well = placing_sound file bytes ending due of there end finished well

  audit_sound : (plan : Plan) (text : List ℕ) (ending : Ending) (due : Due) → IsAudit contents words plan text → IsEndOfAudit plan text ending → due ≡ finish ending → ComesWell due → AreSound contents words
  audit_sound plan text ending due a end finished well = elim (audit_status plan text ending end) [
    | inl (done, why) ↦ (
      audit a.program a.name,
      a.of_form,
      (plan, record { bytes = a.bytes; there = a.program_is; good = a.good }, record { text = text; there = a.second_is; is = why }),
    )
    | inr (bad, why) ↦ absurd (unwell BadRecord due (λ same. cc) (λ same. cc) (finishes BadRecord due ending finished bad) well)
  ]

  comes_sound : (due : Due) → IsDueLast contents words due → Comes contents words due → ComesWell due → AreSound contents words
  comes_sound due is (nothing none so) well = absurd (unwell BadCommandLine due (λ same. cc) (λ same. cc) (finishes BadCommandLine due _ so refl) well)
  comes_sound due is (lacking name so) well = absurd (fetch_unwell due name so well)
  comes_sound due is (audits plan text ending of end so) well = audit_sound plan text ending due of end so well
  comes_sound due is (replayed shown plan schedule ending of end so) well = shown_sound shown plan schedule ending due of end so is well
  comes_sound due is (drawn plan seed steps of so) well = (sample of.program seed steps, of.of_form, (plan, record { bytes = of.bytes; there = of.program_is; good = of.good }))
  comes_sound due is (listed plan seed steps of so) well = (draw of.program seed steps, of.of_form, (plan, record { bytes = of.bytes; there = of.program_is; good = of.good }))
  comes_sound due is (settles plan deliveries of so) well = (
    settle of.program deliveries,
    of.of_form,
    (
      plan,
      record { bytes = of.bytes; there = of.program_is; good = of.good },
      (λ left. unwell Unsettled due (λ same. cc) (λ same. cc) (unsettled contents words due is (record { plan = plan; deliveries = deliveries; settles = of; left = left })) well),
    ),
  )
  comes_sound due is (served plan number turns of so) well = of
  comes_sound due is (nameless name of so) well = absurd (unwell BadProgram due (λ same. cc) (λ same. cc) (finishes BadProgram due _ so refl) well)
  comes_sound due is (refused form program bytes ending of first there (number, cause, refusal, means) so) well =
      absurd (unwell BadProgram due (λ same. cc) (λ same. cc) (finishes BadProgram due ending so (ap (λ (e : Ending). e.status) means)) well)
  comes_sound due is (ended command file bytes ending of there end so) well = file_sound command file bytes ending due of there end so well

  pub sound_why : (due : Due) → IsDueLast contents words due → (ComesWell due ↔ AreSound contents words)
  sound_why due is = (λ well. comes_sound due is (comes_to contents words due is) well, λ sound. sound_well sound.0 due sound.1 sound.2 is)

  -- ---- status 0

  pub done_why : (due : Due) → IsDueLast contents words due → (EndsWith Done due ↔ IsDone contents words due)
  done_why due is = (λ done. is_done done, λ all. by_end ((sound_why due is).1 all.sound) all)
    where
      not_served : (d : Due) → EndsWith Done d → IsServing d → ⊥
      not_served (fetch name) done serving = serving
      not_served (finish ending) done serving = serving
      not_served (serve plan number turns) done serving = done

      is_done : EndsWith Done due → IsDone contents words due
      is_done done =
          record {
            sound = (sound_why due is).0 (inl done);
            unspent = λ spent. let clash : Done ≡ Spent = one_end Done Spent due done ((spent_why contents words due is).1 spent) in cc;
            no_node = not_served due done;
          }

      by_end : ComesWell due → IsDone contents words due → EndsWith Done due
      by_end (inl done) all = done
      by_end (inr (inl spent)) all = absurd (all.unspent ((spent_why contents words due is).0 spent))
      by_end (inr (inr serving)) all = absurd (all.no_node serving)

  -- ---- placings

  -- a status with which only a placing ends
  record IsOfPlacing (status : Status) : Type 0 where
    placing : List ℕ
    bytes : List ℕ
    ending : Ending
    of_form : IsOfForm words (place placing)
    there : contents placing ≡ Some bytes
    end : IsEndOfPlacing bytes ending
    status_is : ending.status ≡ status

  only_placings : (status : Status) → (Done ≡ status → ⊥) → (BadCommandLine ≡ status → ⊥) → (BadProgram ≡ status → ⊥) → (BadSchedule ≡ status → ⊥) → (Spent ≡ status → ⊥) → (BadRecord ≡ status → ⊥)
      → (Unsettled ≡ status → ⊥) → (due : Due) → Comes contents words due → EndsWith status due → IsOfPlacing status
  only_placings status no_done no_words no_program no_schedule no_spent no_record no_left due comes ends = by_comes comes
    where
      by_file : (command : OneFile) (file bytes : List ℕ) (ending : Ending) → IsOfForm words (end_form command file) → contents file ≡ Some bytes → IsEndOf command bytes ending → ending.status ≡ status
          → IsOfPlacing status
      by_file Stubs file bytes ending of there (inl (plan, good, so)) same = absurd (no_done (sym (ap (λ (e : Ending). e.status) so) ∙ same))
      by_file Stubs file bytes ending of there (inr (number, cause, refusal, so)) same = absurd (no_program (sym (ap (λ (e : Ending). e.status) so) ∙ same))
      by_file Run file bytes ending of there (inl (plan, good, so)) same = absurd (no_done (sym (ap (λ (e : Ending). e.status) so) ∙ same))
      by_file Run file bytes ending of there (inr (number, cause, refusal, so)) same = absurd (no_program (sym (ap (λ (e : Ending). e.status) so) ∙ same))
      by_file Place file bytes ending of there end same = record { placing = file; bytes = bytes; ending = ending; of_form = of; there = there; end = end; status_is = same }

      by_comes : Comes contents words due → IsOfPlacing status
      by_comes (nothing none so) = absurd (no_words (ends_as status due _ so ends))
      by_comes (lacking name so) = never_fetch status due name so ends
      by_comes (audits plan text ending of end so) = absurd (never_audits status plan text ending end no_done no_record (ends_as status due ending so ends))
      by_comes (replayed shown plan schedule ending of end so) = absurd (never_replays status shown plan schedule ending end no_done no_schedule no_spent (ends_as status due ending so ends))
      by_comes (drawn plan seed steps of so) = absurd (never_drawn status plan seed steps no_done no_spent (ends_as status due _ so ends))
      by_comes (listed plan seed steps of so) = absurd (never_listed status plan seed steps no_done no_spent (ends_as status due _ so ends))
      by_comes (settles plan deliveries of so) = absurd (never_settles status plan deliveries no_done no_left no_spent (ends_as status due _ so ends))
      by_comes (served plan number turns of so) = never_serves status due plan number turns so ends
      by_comes (nameless name of so) = absurd (no_program (ends_as status due _ so ends))
      by_comes (refused form program bytes ending of first there (number, cause, refusal, means) so) =
          absurd (no_program (sym (ap (λ (e : Ending). e.status) means) ∙ ends_as status due ending so ends))
      by_comes (ended command file bytes ending of there end so) = by_file command file bytes ending of there end (ends_as status due ending so ends)

  pub bad_placing_why : (due : Due) → IsDueLast contents words due → (EndsWith BadPlacing due ↔ AskToPlace contents words IsRefusedPlacing)
  bad_placing_why due is = (λ ends. by_placing (only_placings BadPlacing (λ same. cc) (λ same. cc) (λ same. cc) (λ same. cc) (λ same. cc) (λ same. cc) (λ same. cc) due (comes_to contents words due is) ends), back)
    where
      by_end : (placing bytes : List ℕ) (ending : Ending) → IsOfForm words (place placing) → contents placing ≡ Some bytes → IsEndOfPlacing bytes ending → ending.status ≡ BadPlacing
          → AskToPlace contents words IsRefusedPlacing
      by_end placing bytes ending of there (inl (p, read, inl (choice, best, so))) same = absurd (let clash : Done ≡ BadPlacing = sym (ap (λ (e : Ending). e.status) so) ∙ same in cc)
      by_end placing bytes ending of there (inl (p, read, inr (none, so))) same = absurd (let clash : NoPlacement ≡ BadPlacing = sym (ap (λ (e : Ending). e.status) so) ∙ same in cc)
      by_end placing bytes ending of there (inr (number, cause, refusal, so)) same = (placing, bytes, of, there, (number, cause, refusal))

      by_placing : IsOfPlacing BadPlacing → AskToPlace contents words IsRefusedPlacing
      by_placing o = by_end o.placing o.bytes o.ending o.of_form o.there o.end o.status_is

      back : AskToPlace contents words IsRefusedPlacing → EndsWith BadPlacing due
      back (placing, bytes, of, there, (number, cause, refusal)) =
          let e : Ending = record { status = BadPlacing; text = refused_text number cause } in
          let other = due_of_form contents words (place placing) (bytes ∷ []) (finish e) of (there, tt) (e, inr (number, cause, refusal, refl), refl) tt in
          same_status contents words BadPlacing due (finish e) is other refl

  pub no_placement_why : (due : Due) → IsDueLast contents words due → (EndsWith NoPlacement due ↔ AskToPlace contents words HasNoChoice)
  no_placement_why due is = (λ ends. by_placing (only_placings NoPlacement (λ same. cc) (λ same. cc) (λ same. cc) (λ same. cc) (λ same. cc) (λ same. cc) (λ same. cc) due (comes_to contents words due is) ends), back)
    where
      by_end : (placing bytes : List ℕ) (ending : Ending) → IsOfForm words (place placing) → contents placing ≡ Some bytes → IsEndOfPlacing bytes ending → ending.status ≡ NoPlacement
          → AskToPlace contents words HasNoChoice
      by_end placing bytes ending of there (inl (p, read, inl (choice, best, so))) same = absurd (let clash : Done ≡ NoPlacement = sym (ap (λ (e : Ending). e.status) so) ∙ same in cc)
      by_end placing bytes ending of there (inl (p, read, inr (none, so))) same = (placing, bytes, of, there, (p, read, none))
      by_end placing bytes ending of there (inr (number, cause, refusal, so)) same = absurd (let clash : BadPlacing ≡ NoPlacement = sym (ap (λ (e : Ending). e.status) so) ∙ same in cc)

      by_placing : IsOfPlacing NoPlacement → AskToPlace contents words HasNoChoice
      by_placing o = by_end o.placing o.bytes o.ending o.of_form o.there o.end o.status_is

      back : AskToPlace contents words HasNoChoice → EndsWith NoPlacement due
      back (placing, bytes, of, there, (p, read, none)) =
          let e : Ending = record { status = NoPlacement; text = line (codes "no placement") } in
          let other = due_of_form contents words (place placing) (bytes ∷ []) (finish e) of (there, tt) (e, inl (p, read, inr (none, refl)), refl) tt in
          same_status contents words NoPlacement due (finish e) is other refl
