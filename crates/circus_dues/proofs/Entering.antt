-- Runs are entered one after the other, and each leaves a member that may go on.
use Rattle.std.proofs.Common.{◌≡◌, ℕ, zero, suc, ◌-◌, ◌<◌, ◌&&◌, ◌⊎◌, inl, inr, Bool, true, false, if◌then◌else◌, List, [], ◌++◌, length, Option, None, Some, refl, sym, ap, subst, ◌∙◌, arith}
use Rattle.std.specs.Prelude.{slice_get, is_none, is_some}
use Rattle.std.specs.Option.{option_map_or}
use Rattle.std.proofs.lemmas.Bool.{true≢false}
use Rattle.std.proofs.lemmas.Option.{slice_get_within}
use Rattle.circus_model.specs.declared.signature.ProcedureShape.{ProcedureShape}
use Rattle.circus_record.specs.declared.record.AskRecord.{AskRecord}
use Rattle.circus_record.specs.declared.record.MemberRecord.{MemberRecord}
use Rattle.circus_record.specs.declared.record.RunRecord.{RunRecord}
use Rattle.circus_performing.specs.Performing.{is_active}
use Rattle.circus_performing.specs.declared.start.RunStart.{RunStart}
use Rattle.circus_member_rules.specs.declared.place.Place.{Place}
use Rattle.circus_dues.specs.declared.owing.Owing.{Owing}
use Rattle.circus_dues.specs.Seen.Owing.{untimely, may_enter, left_of, begun, ended, ended_at, next_of, asked, asked_at, passed, entered, made_entering, next_start, none_starts, entered_all, made_entering_all, started_runs, made_starting_runs}
use Rattle.circus_dues.specs.Seen.Steps as steps
use Rattle.circus_dues.specs.Seen.Steps.{clock_at}
use Rattle.circus_dues.proofs.Steps.{next_within, there_within}

pub and_false : (b : Bool) → (b && false) ≡ false
and_false true = refl
and_false false = refl

pub none_is : {A : Type 0} (o : Option A) → is_some o ≡ false → is_none o ≡ true
none_is None is = refl
none_is (Some x) is = absurd (true≢false is)

pub some_is : {A : Type 0} (o : Option A) → is_some o ≡ true → is_none o ≡ false
some_is None is = absurd (true≢false (sym is))
some_is (Some x) is = refl

module _ (place : Place) (kept : MemberRecord) (at : ℕ) where
  -- no further one may be entered, or one less is left
  abbrev pub HasLess : Owing → Owing → Type 0
  HasLess d e = (may_enter e ≡ false) ⊎ (left_of kept e ≡ length kept.runs - d.walk.ended)

  -- an ask waits then
  asked_less : (d e : Owing) (run : RunRecord) (number : ℕ) → number < length run.asks → HasLess d (asked_at place kept at e run number)
  asked_less d e run number within = by_ask (slice_get run.asks number) refl
    where
      by_ask : (o : Option AskRecord) → slice_get run.asks number ≡ o → HasLess d (option_map_or (asked place kept at e run number) o e)
      by_ask None is = absurd (there_within run.asks number within is)
      by_ask (Some ask) is = inl (and_false _)

  ended_less : (d : Owing) (run : RunRecord) → d.walk.ended < length kept.runs → HasLess d (ended_at kept at (begun kept d) run)
  ended_less d run low =
      elim (steps.is_in run.ended at) as (λ b. HasLess d (if b then ended kept (begun kept d) run else untimely (begun kept d))) [
        | true ↦ inr (omega (arith, low))
        | false ↦ inl refl
      ]

  passed_less : (d : Owing) (run : RunRecord) → d.walk.ended < length kept.runs → HasLess d (passed place kept at (begun kept d) run 0)
  passed_less d run low = by_next (next_of run 0) refl
    where
      by_next : (o : Option ℕ) → next_of run 0 ≡ o → HasLess d (option_map_or (asked_at place kept at (begun kept d) run) o (ended_at kept at (begun kept d) run))
      by_next None is = ended_less d run low
      by_next (Some number) is = asked_less d (begun kept d) run number (omega (arith, next_within 0 (clock_at run 0) run.asks number is))

  pub entered_less : (d : Owing) (start : RunStart) → HasLess d (entered place kept at d start)
  entered_less d start = by_run (slice_get kept.runs d.walk.ended) refl
    where
      by_run : (o : Option RunRecord) → slice_get kept.runs d.walk.ended ≡ o
          → HasLess d (option_map_or (λ (run : RunRecord). if steps.is_entered run at start then passed place kept at (begun kept d) run 0 else untimely d) o (untimely d))
      by_run None is = inl refl
      by_run (Some run) is =
          elim (steps.is_entered run at start) as (λ b. HasLess d (if b then passed place kept at (begun kept d) run 0 else untimely d)) [
            | true ↦ passed_less d run (slice_get_within kept.runs d.walk.ended run is)
            | false ↦ inl refl
          ]

  -- what is left gets less
  pub entered_smaller : (d e : Owing) (start : RunStart) → e ≡ entered place kept at d start → may_enter d ≡ true
      → (if may_enter e then left_of kept e else 0) < (if may_enter d then left_of kept d else 0)
  entered_smaller d e start is may =
      subst (λ n. (if may_enter e then left_of kept e else 0) < n) (sym (ap (λ b. if b then left_of kept d else 0) may))
      (by_left (subst (HasLess d) (sym is) (entered_less d start)))
    where
      by_left : HasLess d e → (if may_enter e then left_of kept e else 0) < left_of kept d
      by_left (inl stops) = subst (λ n. n < left_of kept d) (sym (ap (λ b. if b then left_of kept e else 0) stops)) (omega arith)
      by_left (inr same) =
          elim (may_enter e) as (λ b. (if b then left_of kept e else 0) < left_of kept d) [
            | true ↦ omega (arith, same)
            | false ↦ omega arith
          ]

  module _ (procedures : List ProcedureShape) where
    -- none is entered where none may be
    pub none_entered : (left : ℕ) (d : Owing) → may_enter d ≡ false → entered_all place kept at procedures left d ≡ d
    unfolding entered_all
    none_entered zero d stops = refl
    none_entered (suc left) d stops =
        ap (λ b. if b then option_map_or (λ start. entered_all place kept at procedures left (entered place kept at d start)) (next_start place kept procedures d) (none_starts kept at d) else d) stops

    pub none_made : (left : ℕ) (d : Owing) → may_enter d ≡ false → made_entering_all place kept at procedures left d ≡ []
    unfolding made_entering_all
    none_made zero d stops = refl
    none_made (suc left) d stops =
        ap (λ b. if b then option_map_or (λ start. made_entering place kept at d start ++ made_entering_all place kept at procedures left (entered place kept at d start)) (next_start place kept procedures d) [] else []) stops

    -- where none can start the record says so
    pub none_starting : (d : Owing) → may_enter d ≡ true → next_start place kept procedures d ≡ None → entered_all place kept at procedures (left_of kept d) d ≡ none_starts kept at d
    unfolding entered_all
    none_starting d may none =
        let less = length kept.runs - d.walk.ended in
        ap (λ b. if b then option_map_or (λ s. entered_all place kept at procedures less (entered place kept at d s)) (next_start place kept procedures d) (none_starts kept at d) else d) may
        ∙ ap (λ o. option_map_or (λ s. entered_all place kept at procedures less (entered place kept at d s)) o (none_starts kept at d)) none

    pub none_made_starting : (d : Owing) → may_enter d ≡ true → next_start place kept procedures d ≡ None → made_entering_all place kept at procedures (left_of kept d) d ≡ []
    unfolding made_entering_all
    none_made_starting d may none =
        let less = length kept.runs - d.walk.ended in
        ap (λ b. if b then option_map_or (λ s. made_entering place kept at d s ++ made_entering_all place kept at procedures less (entered place kept at d s)) (next_start place kept procedures d) [] else []) may
        ∙ ap (λ o. option_map_or (λ s. made_entering place kept at d s ++ made_entering_all place kept at procedures less (entered place kept at d s)) o []) none

    -- a member that is active starts them all
    pub all_started : (d : Owing) → is_active d.phase ≡ true → started_runs place kept at procedures d ≡ entered_all place kept at procedures (left_of kept d) d
    all_started d active = ap (λ b. if b then entered_all place kept at procedures (left_of kept d) d else none_starts kept at d) active

    pub all_made : (d : Owing) → is_active d.phase ≡ true → made_starting_runs place kept at procedures d ≡ made_entering_all place kept at procedures (left_of kept d) d
    all_made d active = ap (λ b. if b then made_entering_all place kept at procedures (left_of kept d) d else []) active

    -- the next one is entered, and then all others
    module _ (d : Owing) (start : RunStart) (may : may_enter d ≡ true) (next : next_start place kept procedures d ≡ Some start) where
      abbrev e : Owing
      e = entered place kept at d start

      abbrev less : ℕ
      less = length kept.runs - d.walk.ended

      pub one_entered : entered_all place kept at procedures (left_of kept d) d ≡ entered_all place kept at procedures (left_of kept e) e
      unfolding entered_all
      one_entered =
          ap (λ b. if b then option_map_or (λ s. entered_all place kept at procedures less (entered place kept at d s)) (next_start place kept procedures d) (none_starts kept at d) else d) may
          ∙ ap (λ o. option_map_or (λ s. entered_all place kept at procedures less (entered place kept at d s)) o (none_starts kept at d)) next
          ∙ by_left (entered_less d start)
        where
          by_left : HasLess d e → entered_all place kept at procedures less e ≡ entered_all place kept at procedures (left_of kept e) e
          by_left (inl stops) = none_entered less e stops ∙ sym (none_entered (left_of kept e) e stops)
          by_left (inr same) = ap (λ n. entered_all place kept at procedures n e) (sym same)

      pub one_made : made_entering_all place kept at procedures (left_of kept d) d ≡ made_entering place kept at d start ++ made_entering_all place kept at procedures (left_of kept e) e
      unfolding made_entering_all
      one_made =
          ap (λ b. if b then option_map_or (λ s. made_entering place kept at d s ++ made_entering_all place kept at procedures less (entered place kept at d s)) (next_start place kept procedures d) [] else []) may
          ∙ ap (λ o. option_map_or (λ s. made_entering place kept at d s ++ made_entering_all place kept at procedures less (entered place kept at d s)) o []) next
          ∙ ap (λ l. made_entering place kept at d start ++ l) (by_left (entered_less d start))
        where
          by_left : HasLess d e → made_entering_all place kept at procedures less e ≡ made_entering_all place kept at procedures (left_of kept e) e
          by_left (inl stops) = none_made less e stops ∙ sym (none_made (left_of kept e) e stops)
          by_left (inr same) = ap (λ n. made_entering_all place kept at procedures n e) (sym same)
