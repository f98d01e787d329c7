-- What a record says came in the steps of a past, as the past goes on.
use Rattle.std.proofs.Common.{◌≡◌, ℕ, zero, suc, ◌<◌, ◌≤◌, inl, inr, List, [], ◌∷◌, ◌++◌, Option, None, Some, sym, ap, subst, arith}
use Rattle.std.specs.Prelude.{slice_get}
use Rattle.std.proofs.lemmas.Option.{same_Some}
use Rattle.circus_value.specs.ValueTree.{ValueTree}
use Rattle.circus_model.specs.Behaviour.{Behaviour}
use Rattle.circus_record.specs.declared.record.AskRecord.{AskRecord}
use Rattle.circus_record.specs.declared.record.MemberRecord.{MemberRecord}
use Rattle.circus_record.specs.declared.record.RunRecord.{RunRecord}
use Rattle.circus_performing.specs.Performing.{state_after}
use Rattle.circus_performing.specs.Record.{IsRecord}
use Rattle.circus_member_rules.specs.declared.occurrence.Occurrence.{Occurrence}
use Rattle.circus_member_theory.specs.Past.{Past, booted, followed, now, Rises}
use Rattle.circus_member_theory.specs.Timely.{ShowsAnswer}
use Rattle.circus_headline_theory.specs.Datagrams.Due.{WasSo}
use Rattle.circus_dues.specs.Walk.{IsStepOf}
use Rattle.circus_headline_theory.proofs.Agree.{was_below}
use Rattle.circus_dues.proofs.WalkSteps.{step_below}
use Rattle.circus_headline_theory.proofs.One.{ask_is, run_is, none_is_some}

-- ---- steps

-- a step of a past is one of the past that it grew from, where it isn't later
pub step_then : (p q : Past) (step : ℕ) → Rises p → WasSo p q → step ≤ now q → IsStepOf step p → IsStepOf step q
step_then booted q step rises same low is = subst (IsStepOf step) (sym same) is
step_then (followed p at o) q step rises (inl same) low is = subst (IsStepOf step) (sym same) is
step_then (followed p at o) q step rises (inr was) low (inl before) = step_then p q step rises.0 was low before
step_then (followed p at o) q step rises (inr was) low (inr last) =
    let below = was_below p q rises.0 was in
    let later = rises.1 in
    absurd (omega (arith, below, later, last, low))

-- and before the last step it is one of those before
pub step_before : (p : Past) (at : ℕ) (o : Occurrence) (step : ℕ) → step < at → IsStepOf step (followed p at o) → IsStepOf step p
step_before p at o step low (inl before) = before
step_before p at o step low (inr last) = absurd (omega (arith, low, last))

-- there is none between
pub none_between : (p : Past) (at : ℕ) (o : Occurrence) (step : ℕ) → Rises p → now p < step → step < at → IsStepOf step (followed p at o) → ⊥
none_between p at o step rises above low is = (let high = step_below p step rises (step_before p at o step low is) in omega (arith, above, high))

-- ---- an ask that a lawful record leaves without answer waits

pub split_at : {X : Type 0} (xs : List X) (n : ℕ) (x : X) → slice_get xs n ≡ Some x → (front : List X) × (rest : List X) × (xs ≡ front ++ x ∷ rest)
split_at {X} [] n x is = absurd (let clash : ◌≡◌ {A = Option X} None (Some x) = is in cc)
split_at (y ∷ xs) zero x is = ([], xs, ap (λ z. z ∷ xs) (same_Some y x is))
split_at (y ∷ xs) (suc n) x is = (let s = split_at xs n x is in (y ∷ s.0, s.1, ap (λ l. y ∷ l) s.2))

module _ (b : Behaviour) (began : List ValueTree) (kept : MemberRecord) (r : IsRecord b began kept) where
  waits_in : (before rest : List RunRecord) (run : RunRecord) (made asks : List AskRecord) (ask : AskRecord) → kept.runs ≡ before ++ run ∷ rest → run.asks ≡ made ++ ask ∷ asks → ask.answered ≡ None → ShowsAnswer ask None
  waits_in before rest run made asks ask are there none =
      elim (ask_is b (state_after began before) run (run_is b began kept r before rest run are) made ask asks there).next [
        | inl answered ↦ absurd (none_is_some ask.answered answered.answered none answered.answered_is)
        | inr waits ↦ (let w = waits.0 in (w.not_answered, w.no_reply, w.no_clock))
      ]

  pub waits_shown : (number place_of : ℕ) (run : RunRecord) (ask : AskRecord) → slice_get kept.runs number ≡ Some run → slice_get run.asks place_of ≡ Some ask → ask.answered ≡ None → ShowsAnswer ask None
  waits_shown number place_of run ask there here none =
      let x = split_at kept.runs number run there in
      let y = split_at run.asks place_of ask here in
      waits_in x.0 x.1 run y.0 y.1 ask x.2 y.2 none
