-- Where the runs of a record come one by one, one that is there has later ones behind it; and how a run was entered is tested by what it says.
use Rattle.std.proofs.Common.{◌≡◌, ℕ, zero, suc, ◌+◌, ◌<◌, ◌≤◌, true, List, [], ◌∷◌, ◌++◌, length, take, All, Option, None, Some, refl, sym, ap, subst, ◌∙◌, arith}
use Rattle.std.specs.Prelude.{drop, slice_get, nat_eq, unwrap_or, IfSome}
use Rattle.std.specs.Cmp.Lexicographic.{bytes_decides}
use Rattle.std.proofs.lemmas.Bool.{and_parts, and_from, eqb-true, eq-eqb}
use Rattle.std.proofs.lemmas.List.{length-take-le, take-append-drop}
use Rattle.std.proofs.lemmas.List.Elements.{All-head, All-weaker}
use Rattle.std.proofs.lemmas.Option.{same_Some, slice_get_within}
use Rattle.circus_value.specs.ValueEquality.{values_eq_decides}
use Rattle.circus_collate.specs.declared.view.View.{View}
use Rattle.circus_transfer.specs.declared.joiner.Joiner.{Joiner}
use Rattle.circus_model.specs.declared.signature.ProcedureShape.{ProcedureShape}
use Rattle.circus_record.specs.declared.record.MemberRecord.{MemberRecord}
use Rattle.circus_record.specs.declared.record.RunRecord.{RunRecord}
use Rattle.circus_performing.specs.declared.start.RunStart.{RunStart}
use Rattle.circus_performing.specs.Record.{start_of}
use Rattle.circus_member_rules.specs.declared.place.Place.{Place}
use Rattle.circus_member_theory.specs.Past.{Past, now}
use Rattle.circus_member_theory.specs.Timely.{may_start}
use Rattle.circus_dues.specs.Walk.{IsBy, IsLater, IsNotBefore, RunOneByOne, StartOnward}
use Rattle.circus_dues.specs.Seen.Steps.{is_start, is_entered}
use Rattle.circus_headline_theory.proofs.One.{none_is_some}
use Rattle.circus_dues.proofs.SoundOwing.{start_is}
use Rattle.circus_dues.proofs.WalkRuns.{run_rises}
use Rattle.circus_dues.proofs.WalkStarts.{IsLate, one_by_one_behind, late_behind, blocked}

-- ---- lists

pub drop_there : {X : Type 0} (xs : List X) (n : ℕ) (x : X) → slice_get xs n ≡ Some x → drop n xs ≡ x ∷ drop (suc n) xs
drop_there [] n x is = absurd (none_is_some None x refl is)
drop_there (y ∷ xs) zero x is = ap (λ z. z ∷ xs) (same_Some y x is)
drop_there (y ∷ xs) (suc n) x is = drop_there xs n x is

pub drop_past : {X : Type 0} (xs : List X) (n : ℕ) → slice_get xs n ≡ None → drop n xs ≡ []
drop_past [] zero is = refl
drop_past [] (suc n) is = refl
drop_past (y ∷ xs) zero is = absurd (none_is_some (Some y) y is refl)
drop_past (y ∷ xs) (suc n) is = drop_past xs n is

pub past_of : {X : Type 0} (xs : List X) (n : ℕ) → slice_get xs n ≡ None → length xs ≤ n
past_of [] n is = omega arith
past_of (y ∷ xs) zero is = absurd (none_is_some (Some y) y is refl)
past_of (y ∷ xs) (suc n) is = omega (arith, past_of xs n is)

-- ---- steps

pub not_both : (step : ℕ) (o : Option ℕ) → IsLater step o → IsBy step o → ⊥
not_both step None late early = early
not_both step (Some n) late early = absurd (omega (arith, late, early))

-- ---- how a run was entered

is_own_start : (run : RunRecord) → is_start run (start_of run) ≡ true
is_own_start run =
    and_from _ _ (eq-eqb run.root run.root refl)
    (and_from _ _ ((bytes_decides run.path run.path).1 refl)
    (and_from _ _ (eq-eqb run.procedure run.procedure refl)
    (and_from _ _ ((values_eq_decides run.arguments run.arguments).1 refl) ((bytes_decides run.entry run.entry).1 refl))))

pub entered_so : (run : RunRecord) (at : ℕ) (start : RunStart) → is_entered run at start ≡ true → (run.started ≡ at) × (start_of run ≡ start)
entered_so run at start is =
    let both = and_parts (nat_eq run.started at) (is_start run start) is in
    (eqb-true run.started at both.0, start_is run start both.1)

pub so_entered : (run : RunRecord) (at : ℕ) (start : RunStart) → run.started ≡ at → start_of run ≡ start → is_entered run at start ≡ true
so_entered run at start started so =
    and_from (nat_eq run.started at) (is_start run start) (eq-eqb run.started at started) (subst (λ s. is_start run s ≡ true) so (is_own_start run))

-- ---- a run of a record in which they come one by one

module _ (kept : MemberRecord) (order : RunOneByOne 0 kept.runs) (number : ℕ) (run : RunRecord) (there : slice_get kept.runs number ≡ Some run) where
  -- those behind it
  abbrev pub rest_of : List RunRecord
  rest_of = drop (suc number) kept.runs

  runs_are : kept.runs ≡ take number kept.runs ++ run ∷ rest_of
  runs_are = sym (take-append-drop number kept.runs) ∙ ap (λ l. take number kept.runs ++ l) (drop_there kept.runs number run there)

  front_long : length (take number kept.runs) ≡ number
  front_long = (let below = slice_get_within kept.runs number run there in length-take-le number kept.runs (omega (arith, below)))

  pub order_at : (from : ℕ) × RunOneByOne from (run ∷ rest_of)
  order_at = one_by_one_behind 0 (take number kept.runs) (run ∷ rest_of) (subst (RunOneByOne 0) runs_are order)

  -- it doesn't end before it starts
  pub not_before : (step : ℕ) → step ≤ run.started → IsNotBefore step run.ended
  not_before step low = by_end run.ended (run_rises run order_at.1.1)
    where
      by_end : (o : Option ℕ) → run.started ≤ unwrap_or o run.started → IsNotBefore step o
      by_end None high = tt
      by_end (Some n) high = omega (arith, low, high)

  pub later_end : (step : ℕ) → step < run.started → IsLater step run.ended
  later_end step low = by_end run.ended (run_rises run order_at.1.1)
    where
      by_end : (o : Option ℕ) → run.started ≤ unwrap_or o run.started → IsLater step o
      by_end None high = tt
      by_end (Some n) high = omega (arith, low, high)

  late_rest : (step : ℕ) → IsLater step run.ended → All (IsLate step) rest_of
  late_rest step late = late_behind step order_at.0 run rest_of order_at.1 late

  -- where it ends later, those behind it start later
  pub all_later : (step : ℕ) → IsLater step run.ended → All (λ (r : RunRecord). step < r.started) rest_of
  all_later step late = All-weaker (IsLate step) (λ (r : RunRecord). step < r.started) (λ r is. is.started_later) rest_of (late_rest step late)

  -- where it ends in a step, the next one starts then or later
  pub next_behind : (step : ℕ) → run.ended ≡ Some step → IfSome (slice_get kept.runs (suc number)) (λ (r : RunRecord). step ≤ r.started)
  next_behind step ends = by_slot (slice_get kept.runs (suc number)) refl
    where
      by_slot : (o : Option RunRecord) → slice_get kept.runs (suc number) ≡ o → IfSome o (λ (r : RunRecord). step ≤ r.started)
      by_slot None is = tt
      by_slot (Some r) is =
          (subst (RunOneByOne step) (drop_there kept.runs (suc number) r is) (subst (λ e. RunOneByOne (unwrap_or e run.started) rest_of) ends order_at.1.3)).0

  -- and none may start as long as it goes on
  module _ (place : Place) (boot : List View) (begins : Joiner) (procedures : List ProcedureShape) (at_boot : ℕ) (p : Past) (late : IsLater (now p) run.ended) where
    none_next : may_start place boot begins kept (suc number) p ≡ None
    none_next =
        let next : suc number ≡ suc (length (take number kept.runs) + 0) = omega (arith, front_long) in
        ap (λ n. may_start place boot begins kept n p) next ∙ blocked place boot begins procedures at_boot kept p (take number kept.runs) run rest_of runs_are (late_rest (now p) late) late 0

    on_late : (rest : List RunRecord) → All (IsLate (now p)) rest → StartOnward place boot begins procedures at_boot kept p (suc number) rest
    on_late [] all = none_next
    on_late (r ∷ rest) all =
        let is = All-head (IsLate (now p)) r rest all in
        let low = is.started_later in
        (record { starts_now = λ same. absurd (omega (arith, low, same)); not_yet = λ _. none_next }, λ early. absurd (not_both (now p) r.ended is.ended_later early))

    pub none_on : StartOnward place boot begins procedures at_boot kept p (suc number) rest_of
    none_on = on_late rest_of (late_rest (now p) late)
