-- A step is timely where the walk along the runs that stand in it finds it so.
use Rattle.std.proofs.Common.{◌≡◌, ℕ, zero, suc, ◌+◌, ◌<◌, ◌≤◌, ◌⊎◌, inl, inr, false, true≢false, List, [], ◌∷◌, ◌++◌, length, All, Option, None, Some, refl, sym, ap, subst, ◌∙◌, arith, append_assoc}
use Rattle.std.specs.Prelude.{slice_get, is_none, unwrap_or}
use Rattle.std.proofs.lemmas.List.Elements.{All-nil, All-cons, All-head, All-tail}
use Rattle.std.proofs.lemmas.Option.{same_Some}
use Rattle.circus_collate.specs.declared.view.View.{View}
use Rattle.circus_transfer.specs.declared.joiner.Joiner.{Joiner}
use Rattle.circus_model.specs.declared.signature.ProcedureShape.{ProcedureShape}
use Rattle.circus_record.specs.declared.record.AskRecord.{AskRecord}
use Rattle.circus_record.specs.declared.record.MemberRecord.{MemberRecord}
use Rattle.circus_record.specs.declared.record.RunRecord.{RunRecord}
use Rattle.circus_performing.specs.Performing.{clock_after, step_after}
use Rattle.circus_member_rules.specs.declared.place.Place.{Place}
use Rattle.circus_member_theory.specs.Past.{Past, now}
use Rattle.circus_member_theory.specs.Timely.{may_start}
use Rattle.circus_dues.specs.Walk.{IsBefore, AskOneByOne, IsRunInOrder, RunOneByOne, AreStanding, StartsInStep, IsTimelyStep, StartOnward, AreAnsweredOnward, AreAnsweredInEach}
use Rattle.circus_dues.proofs.WalkRuns.{asks_rise, IsGoing, StartsLater, EndedBefore}
use Rattle.circus_dues.proofs.WalkMade.{AreInOrder, each_in_order, all_front, all_back}
use Rattle.circus_dues.proofs.WalkStarts.{all_at, one_by_one_behind, starts_walked}
use Rattle.circus_dues.proofs.WalkAnswers.{IsLateAsk, late_asks, AnsweredBefore, late_is_so, early_is_so, AnsweredInRun, run_of_walk, walk_of_run}

-- ---- asks of runs that ended before a step

answered_before : (step from : ℕ) (asks : List AskRecord) → AskOneByOne from asks → step_after from asks < step → All (λ (ask : AskRecord). is_none ask.answered ≡ false) asks → All (AnsweredBefore step) asks
answered_before step from [] so below all = All-nil (AnsweredBefore step)
answered_before step from (ask ∷ asks) so below all =
    All-cons (AnsweredBefore step) ask asks
    (by_answer ask.answered refl (All-head (λ (a : AskRecord). is_none a.answered ≡ false) ask asks all) (asks_rise (unwrap_or ask.answered from) asks so.3))
    (answered_before step (unwrap_or ask.answered from) asks so.3 below (All-tail (λ (a : AskRecord). is_none a.answered ≡ false) ask asks all))
  where
    by_answer : (o : Option ℕ) → ask.answered ≡ o → is_none o ≡ false → unwrap_or ask.answered from ≤ step_after (unwrap_or ask.answered from) asks → IsBefore step o
    by_answer None is some low = absurd (true≢false some)
    by_answer (Some n) is some low = (let at : unwrap_or ask.answered from ≡ n = ap (λ o. unwrap_or o from) is in omega (arith, at, low, below))

-- ---- places

-- what is at a place is in the front, or behind it
module _ {X : Type 0} where
  pub record IsBehind (front rest : List X) (number : ℕ) (x : X) : Type 0 where
    pub place : ℕ
    pub number_is : number ≡ length front + place
    pub there : slice_get rest place ≡ Some x

  pub front_or_behind : (front rest : List X) (number : ℕ) (x : X) → slice_get (front ++ rest) number ≡ Some x → (slice_get front number ≡ Some x) ⊎ IsBehind front rest number x
  front_or_behind [] rest number x is = inr (record { place = number; number_is = omega arith; there = is })
  front_or_behind (y ∷ front) rest zero x is = inl is
  front_or_behind (y ∷ front) rest (suc n) x is = elim (front_or_behind front rest n x is) [
    | inl at ↦ inl at
    | inr b ↦ (let number_is = b.number_is in inr (record { place = b.place; number_is = omega (arith, number_is); there = b.there }))
  ]

module _ (place : Place) (boot : List View) (begins : Joiner) (procedures : List ProcedureShape) (at_boot : ℕ) (kept : MemberRecord) (p : Past) (order : RunOneByOne 0 kept.runs) where
  -- ---- starts

  -- each run of these from `at_boot` on was started before
  abbrev pub StartedBefore : List RunRecord → Type 0
  StartedBefore front = (number : ℕ) (run : RunRecord) → at_boot ≤ number → slice_get front number ≡ Some run → run.started < now p

  record Starts : Type 0 where
    starts : (number : ℕ) (run : RunRecord) → at_boot ≤ number → slice_get kept.runs number ≡ Some run → StartsInStep place boot begins procedures at_boot kept p number run
    no_more : may_start place boot begins kept (length kept.runs) p ≡ None

  started_is_so : (number : ℕ) (run : RunRecord) → run.started < now p → StartsInStep place boot begins procedures at_boot kept p number run
  started_is_so number run early = record { starts_now = λ at. absurd (omega (arith, at, early)); not_yet = λ late. absurd (omega (arith, late, early)) }

  starts_by_walk : (front rest : List RunRecord) → kept.runs ≡ front ++ rest → StartedBefore front → StartOnward place boot begins procedures at_boot kept p (length front) rest → Starts
  starts_by_walk front rest are early walk =
      let behind = one_by_one_behind 0 front rest (subst (RunOneByOne 0) are order) in
      let s = starts_walked place boot begins procedures at_boot kept p front rest behind.0 are behind.1 walk in
      record {
        starts = λ number run enough there.
            elim (front_or_behind front rest number run (ap (λ l. slice_get l number) (sym are) ∙ there)) [
              | inl at ↦ started_is_so number run (early number run enough at)
              | inr b ↦ subst (λ n. StartsInStep place boot begins procedures at_boot kept p n run) (sym b.number_is) (s.starts b.place run b.there)
            ];
        no_more = s.no_more;
      }

  -- ---- answers

  module _ (before middle later : List RunRecord) (are : kept.runs ≡ before ++ (middle ++ later)) (ended : All (EndedBefore (now p)) before) (start_later : All (StartsLater (now p)) later) where
    in_order : AreInOrder kept.runs
    in_order = each_in_order 0 kept.runs order

    answers_in : (number : ℕ) (runs : List RunRecord) → ((n : ℕ) (run : RunRecord) → slice_get runs n ≡ Some run → AnsweredInRun place boot begins procedures at_boot kept p (number + n) run)
        → AreAnsweredInEach place boot begins procedures at_boot kept p number runs
    answers_in number [] each = tt
    answers_in number (run ∷ runs) each =
        let none : number + 0 ≡ number = omega arith in (
          walk_of_run place boot begins procedures at_boot kept p number run [] run.asks refl (subst (λ n. AnsweredInRun place boot begins procedures at_boot kept p n run) none (each 0 run refl)),
          answers_in (suc number) runs
              (λ n r there. let next : number + suc n ≡ suc number + n = omega arith in subst (λ k. AnsweredInRun place boot begins procedures at_boot kept p k r) next (each (suc n) r there)),
        )

    in_each : (number : ℕ) (runs : List RunRecord) → AreAnsweredInEach place boot begins procedures at_boot kept p number runs → All IsRunInOrder runs
        → (n : ℕ) (run : RunRecord) → slice_get runs n ≡ Some run → AnsweredInRun place boot begins procedures at_boot kept p (number + n) run
    in_each number [] walk so n run there = absurd (let clash : ◌≡◌ {A = Option RunRecord} None (Some run) = there in cc)
    in_each number (x ∷ runs) walk so zero run there =
        let none : number ≡ number + 0 = omega arith in
        subst (λ r. AnsweredInRun place boot begins procedures at_boot kept p (number + 0) r) (same_Some x run there)
        (subst (λ n. AnsweredInRun place boot begins procedures at_boot kept p n x) none
        (run_of_walk place boot begins procedures at_boot kept p number x [] x.asks x.started refl (All-nil (AnsweredBefore (now p))) (All-head IsRunInOrder x runs so).asks_so walk.0))
    in_each number (x ∷ runs) walk so (suc n) run there =
        let next : suc number + n ≡ number + suc n = omega arith in
        subst (λ k. AnsweredInRun place boot begins procedures at_boot kept p k run) next (in_each (suc number) runs walk.1 (All-tail IsRunInOrder x runs so) n run there)

    answers_by_walk : AreAnsweredInEach place boot begins procedures at_boot kept p (length before) middle
        → (number : ℕ) (run : RunRecord) → slice_get kept.runs number ≡ Some run → AnsweredInRun place boot begins procedures at_boot kept p number run
    answers_by_walk walk number run there = by_place (front_or_behind before (middle ++ later) number run (ap (λ l. slice_get l number) (sym are) ∙ there))
      where
        run_so : IsRunInOrder run
        run_so = all_at IsRunInOrder kept.runs number run in_order there

        middle_so : All IsRunInOrder middle
        middle_so = all_front IsRunInOrder middle later (all_back IsRunInOrder before (middle ++ later) (subst AreInOrder are in_order))

        before_so : EndedBefore (now p) run → AnsweredInRun place boot begins procedures at_boot kept p number run
        before_so early place_of ask here left =
            early_is_so place boot begins procedures at_boot kept p number place_of ask (all_at (AnsweredBefore (now p)) run.asks place_of ask (by_end run.ended refl early) here)
          where
            by_end : (o : Option ℕ) → run.ended ≡ o → IsBefore (now p) o → All (AnsweredBefore (now p)) run.asks
            by_end None is below = absurd below
            by_end (Some n) is below =
                let same = run_so.ended_so n is in
                answered_before (now p) run.started run.asks run_so.asks_so (omega (arith, same, below)) (run_so.answered_so n is)

        later_so : StartsLater (now p) run → AnsweredInRun place boot begins procedures at_boot kept p number run
        later_so late place_of ask here left =
            late_is_so place boot begins procedures at_boot kept p number place_of ask (all_at (IsLateAsk (now p)) run.asks place_of ask (late_asks (now p) run.started run.asks run_so.asks_so late) here)

        by_middle : (b : IsBehind before (middle ++ later) number run) → (slice_get middle b.place ≡ Some run) ⊎ IsBehind middle later b.place run → AnsweredInRun place boot begins procedures at_boot kept p number run
        by_middle b (inl at) =
            subst (λ n. AnsweredInRun place boot begins procedures at_boot kept p n run) (sym b.number_is) (in_each (length before) middle walk middle_so b.place run at)
        by_middle b (inr c) = later_so (all_at (StartsLater (now p)) later c.place run start_later c.there)

        by_place : (slice_get before number ≡ Some run) ⊎ IsBehind before (middle ++ later) number run → AnsweredInRun place boot begins procedures at_boot kept p number run
        by_place (inl at) = before_so (all_at (EndedBefore (now p)) before number run ended at)
        by_place (inr b) = by_middle b (front_or_behind middle later b.place run b.there)

    -- ---- both

    pub step_by_walk : (front rest : List RunRecord) → kept.runs ≡ front ++ rest → StartedBefore front
        → StartOnward place boot begins procedures at_boot kept p (length front) rest
        → AreAnsweredInEach place boot begins procedures at_boot kept p (length before) middle
        → IsTimelyStep place boot begins procedures at_boot kept p
    step_by_walk front rest same early starts answers =
        let s = starts_by_walk front rest same early starts in
        record {
          starts = s.starts;
          no_more = λ enough. s.no_more;
          answers = λ number place_of run ask there here left. answers_by_walk answers number run there place_of ask here left;
        }

  -- ---- as runs stand in the step

  module _ (before going starting later : List RunRecord) (so : AreStanding (now p) kept.runs before going starting later) where
    begun : kept.runs ≡ (before ++ going) ++ (starting ++ later)
    begun = so.are ∙ sym (append_assoc before going (starting ++ later))

    concerned : kept.runs ≡ before ++ ((going ++ starting) ++ later)
    concerned = so.are ∙ ap (λ l. before ++ l) (sym (append_assoc going starting later))

    pub begun_before : StartedBefore (before ++ going)
    begun_before number run enough there = by_place (front_or_behind before going number run there)
      where
        run_so : IsRunInOrder run
        run_so = all_at IsRunInOrder (before ++ going) number run (all_front IsRunInOrder (before ++ going) (starting ++ later) (subst AreInOrder begun (each_in_order 0 kept.runs order))) there

        by_end : (o : Option ℕ) → run.ended ≡ o → IsBefore (now p) o → run.started < now p
        by_end None is below = absurd below
        by_end (Some n) is below = (let same = run_so.ended_so n is in let low = asks_rise run.started run.asks run_so.asks_so in omega (arith, same, low, below))

        by_place : (slice_get before number ≡ Some run) ⊎ IsBehind before going number run → run.started < now p
        by_place (inl at) = by_end run.ended refl (all_at (EndedBefore (now p)) before number run so.ended at)
        by_place (inr b) = (all_at (IsGoing (now p)) going b.place run so.go_on b.there).0

    -- of starts those in the step and later, of answers those of the run that goes on and of those that start
    pub step_by_standing : StartOnward place boot begins procedures at_boot kept p (length (before ++ going)) (starting ++ later)
        → AreAnsweredInEach place boot begins procedures at_boot kept p (length before) (going ++ starting)
        → IsTimelyStep place boot begins procedures at_boot kept p
    step_by_standing starts answers = step_by_walk before (going ++ starting) later concerned so.ended so.start_later (before ++ going) (starting ++ later) begun begun_before starts answers

  -- ---- the walk along a run may begin at its open ask

  pub from_open : (number : ℕ) (run : RunRecord) (front rest : List AskRecord) (from : ℕ) → run.asks ≡ front ++ rest → All (AnsweredBefore (now p)) front → AskOneByOne from rest
      → AreAnsweredOnward place boot begins procedures at_boot kept p number (length front) (clock_after run.entry front) rest → AreAnsweredOnward place boot begins procedures at_boot kept p number 0 run.entry run.asks
  from_open number run front rest from are early so walk =
      walk_of_run place boot begins procedures at_boot kept p number run [] run.asks refl (run_of_walk place boot begins procedures at_boot kept p number run front rest from are early so walk)
