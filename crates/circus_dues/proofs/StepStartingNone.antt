-- Where a run goes on no other starts in a step; and one that isn't in time stays so as runs start.
use Rattle.std.proofs.Common.{◌≡◌, ℕ, suc, ◌<◌, ◌&&◌, not, Bool, true, false, if◌then◌else◌, List, [], All, Option, None, Some, refl, ap, ◌∙◌, arith}
use Rattle.std.specs.Prelude.{drop, slice_get, nat_eq, nat_le, is_none}
use Rattle.std.specs.Option.{option_map_or}
use Rattle.std.proofs.lemmas.Bool.{eqb-true, le-leb}
use Rattle.circus_collate.specs.declared.view.View.{View}
use Rattle.circus_transfer.specs.declared.joiner.Joiner.{Joiner}
use Rattle.circus_model.specs.declared.signature.ProcedureShape.{ProcedureShape}
use Rattle.circus_record.specs.declared.record.MemberRecord.{MemberRecord}
use Rattle.circus_record.specs.declared.record.RunRecord.{RunRecord}
use Rattle.circus_performing.specs.declared.start.RunStart.{RunStart}
use Rattle.circus_performing.specs.Performing.{is_active}
use Rattle.circus_member_rules.specs.declared.place.Place.{Place}
use Rattle.circus_member_rules.specs.declared.occurrence.Occurrence.{Occurrence}
use Rattle.circus_member_theory.specs.Past.{Past, followed, phase}
use Rattle.circus_dues.specs.Walk.{IsLater, StartOnward}
use Rattle.circus_dues.specs.declared.owing.Owing.{Owing}
use Rattle.circus_dues.specs.declared.walk.Walk.{Walk}
use Rattle.circus_dues.specs.Seen.Owing as owing
use Rattle.circus_dues.specs.Seen.Owing.{untimely, may_enter, left_of, begun, passed, entered, next_start, none_starts, entered_all, started_runs, made_starting_runs}
use Rattle.circus_dues.specs.Seen.Steps.{is_start, is_entered}
use Rattle.circus_dues.proofs.Entering.{and_false, none_entered, none_made, none_starting, all_started, all_made, one_entered}
use Rattle.circus_dues.proofs.StepStartingOrder.{all_later, none_on}
use Rattle.circus_dues.proofs.Stages.{IsGoingOn}

module _ (place : Place) (kept : MemberRecord) (at : ℕ) (procedures : List ProcedureShape) where
  stays : (left : ℕ) (e : Owing) → e.is_timely ≡ false → (entered_all place kept at procedures left e).is_timely ≡ false
  stays left e untimely = ap (λ (x : Owing). x.is_timely) (none_entered place kept at procedures left e (ap (λ b. b && is_none e.walk.asked) untimely)) ∙ untimely

  -- one that isn't in time stays so
  pub start_untimely : (d : Owing) → d.is_timely ≡ false → (started_runs place kept at procedures d).is_timely ≡ false
  start_untimely d untimely =
      elim (is_active d.phase) as (λ b. (if b then entered_all place kept at procedures (left_of kept d) d else none_starts kept at d).is_timely ≡ false) [
        | true ↦ stays (left_of kept d) d untimely
        | false ↦ ap (λ b. b && not (owing.starts_by kept d at)) untimely
      ]

  -- nor is one whose next run started before the step
  pub starts_between : (number : ℕ) (run : RunRecord) (d : Owing) → d.walk ≡ record { ended = number; asked = None } → slice_get kept.runs number ≡ Some run → run.started < at
      → (started_runs place kept at procedures d).is_timely ≡ false
  starts_between number run d walk there early =
      elim (is_active d.phase) as (λ b. (if b then entered_all place kept at procedures (left_of kept d) d else none_starts kept at d).is_timely ≡ false) [
        | true ↦ by_timely d.is_timely refl
        | false ↦ says_so
      ]
    where
      same : slice_get kept.runs d.walk.ended ≡ Some run
      same = ap (λ (w : Walk). slice_get kept.runs w.ended) walk ∙ there

      says_so : (none_starts kept at d).is_timely ≡ false
      says_so =
          ap (λ b. d.is_timely && not b) (ap (λ r. option_map_or (λ (run : RunRecord). nat_le run.started at) r false) same ∙ le-leb run.started at (omega (arith, early)))
          ∙ and_false d.is_timely

      not_now : (b : Bool) → nat_eq run.started at ≡ b → (start : RunStart) → is_entered run at start ≡ false
      not_now true is start = absurd (let now_so = eqb-true run.started at is in omega (arith, early, now_so))
      not_now false is start = ap (λ b. b && is_start run start) is

      not_entered : (start : RunStart) → (entered place kept at d start).is_timely ≡ false
      not_entered start =
          ap (λ r. (option_map_or (λ (run : RunRecord). if is_entered run at start then passed place kept at (begun kept d) run 0 else untimely d) r (untimely d)).is_timely) same
          ∙ ap (λ b. (if b then passed place kept at (begun kept d) run 0 else untimely d).is_timely) (not_now (nat_eq run.started at) refl start)

      by_timely : (t : Bool) → d.is_timely ≡ t → (entered_all place kept at procedures (left_of kept d) d).is_timely ≡ false
      by_timely false is = stays (left_of kept d) d is
      by_timely true is = by_next (next_start place kept procedures d) refl
        where
          may : may_enter d ≡ true
          may = ap (λ b. b && is_none d.walk.asked) is ∙ ap (λ (w : Walk). is_none w.asked) walk

          by_next : (n : Option RunStart) → next_start place kept procedures d ≡ n → (entered_all place kept at procedures (left_of kept d) d).is_timely ≡ false
          by_next None none = ap (λ (x : Owing). x.is_timely) (none_starting place kept at procedures d may none) ∙ says_so
          by_next (Some start) next =
              let e = entered place kept at d start in
              ap (λ (x : Owing). x.is_timely) (one_entered place kept at procedures d start may next) ∙ stays (left_of kept e) e (not_entered start)

module _ (place : Place) (boot : List View) (begins : Joiner) (procedures : List ProcedureShape) (at_boot : ℕ) (kept : MemberRecord) (p : Past) (at : ℕ) (o : Occurrence) (going : IsGoingOn place boot begins at_boot kept p at) where
  abbrev q : Past
  q = followed p at o

  -- behind a run that goes on none starts, and none may
  pub starts_none : (number : ℕ) (run : RunRecord) (count : ℕ) (d : Owing) → d.walk ≡ record { ended = number; asked = Some count } → slice_get kept.runs number ≡ Some run → IsLater at run.ended
      → is_active (phase begins q) ≡ true → d.phase ≡ phase begins q
      → (started_runs place kept at procedures d ≡ d) × (made_starting_runs place kept at procedures d ≡ [])
      × StartOnward place boot begins procedures at_boot kept q (suc number) (drop (suc number) kept.runs) × All (λ (r : RunRecord). at < r.started) (drop (suc number) kept.runs)
  starts_none number run count d walk there later is phase_is =
      let active = ap is_active phase_is ∙ is in
      let stops = ap (λ (w : Walk). d.is_timely && is_none w.asked) walk ∙ and_false d.is_timely in (
        all_started place kept at procedures d active ∙ none_entered place kept at procedures (left_of kept d) d stops,
        all_made place kept at procedures d active ∙ none_made place kept at procedures (left_of kept d) d stops,
        none_on kept going.order number run there place boot begins procedures at_boot q later,
        all_later kept going.order number run there at later,
      )
