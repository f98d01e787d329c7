-- The ask that waits behind a past, in a step: what it shows is in time where its collator gives that, and else the step is refused.
use Rattle.std.proofs.Common.{◌≡◌, ℕ, ◌+◌, ◌<◌, ◌≤◌, ◌⊎◌, inl, inr, true, false, true≢false, not, take, Option, None, Some, List, refl, sym, ap, subst, ◌∙◌, arith}
use Rattle.std.specs.Prelude.{slice_get, IfSome, IsSomeAnd}
use Rattle.std.proofs.lemmas.Bool.{cases_lt, le-leb, lt-leb}
use Rattle.circus_value.specs.ValueTree.{ValueTree}
use Rattle.circus_header.specs.declared.answer.Reply.{Reply}
use Rattle.circus_collate.specs.declared.view.View.{View}
use Rattle.circus_transfer.specs.declared.joiner.Joiner.{Joiner}
use Rattle.circus_model.specs.Execution.{is_spent}
use Rattle.circus_model.specs.declared.signature.ProcedureShape.{ProcedureShape}
use Rattle.circus_record.specs.declared.record.AskRecord.{AskRecord}
use Rattle.circus_record.specs.declared.record.MemberRecord.{MemberRecord}
use Rattle.circus_record.specs.declared.record.RunRecord.{RunRecord}
use Rattle.circus_performing.specs.Performing.{clock_after}
use Rattle.circus_member_rules.specs.declared.place.Place.{Place}
use Rattle.circus_member_rules.specs.declared.occurrence.AskName.{AskName}
use Rattle.circus_member_rules.specs.declared.occurrence.Occurrence.{Occurrence}
use Rattle.circus_member_theory.specs.Past.{Past, followed, now}
use Rattle.circus_member_theory.specs.Timely.{ShowsAnswer, may_answer}
use Rattle.circus_dues.specs.Calls.{IsOutside}
use Rattle.circus_dues.specs.Dues.{GoesOnInTime}
use Rattle.circus_dues.specs.Walk.{IsLater, IsAnsweredInStep}
use Rattle.circus_dues.specs.Seen.Owing.{agrees}
use Rattle.circus_dues.specs.Seen.Steps.{is_by, shows_answer}
use Rattle.circus_headline_theory.proofs.One.{none_is_some}
use Rattle.circus_dues.proofs.Stages.{Refuses}
use Rattle.circus_dues.proofs.StepGoingAsks.{so_shown}

-- what wasn't answered by a step is answered later, or never
pub later_so : (at : ℕ) (x : Option ℕ) → not (is_by x at) ≡ true → IsLater at x
later_so at None says = tt
later_so at (Some n) says = by_order (cases_lt at n)
  where
    by_order : (at < n) ⊎ (n ≤ at) → at < n
    by_order (inl high) = high
    by_order (inr low) = absurd (true≢false (sym says ∙ ap not (le-leb n at low)))

module _ (place : Place) (boot : List View) (begins : Joiner) (first : List ValueTree) (procedures : List ProcedureShape) (at_boot : ℕ) (kept : MemberRecord) (p : Past) (at : ℕ) (o : Occurrence)
    (number place_of : ℕ) (run : RunRecord) (ask : AskRecord) where
  abbrev q : Past
  q = followed p at o

  abbrev name : AskName
  name = record { run = kept.from + number; ask = place_of }

  abbrev may : Option Reply
  may = may_answer place boot begins name ask q

  abbrev pub IsInTime : Type 0
  IsInTime = IsAnsweredInStep place boot begins procedures at_boot kept q name ask

  abbrev Shows : Option Reply → Type 0
  Shows x = IsSomeAnd x (λ (reply : Reply). ShowsAnswer ask (Some (at, reply)))

  -- ---- in time

  -- it still waits
  pub waits_in_time : may ≡ None → IsLater at ask.answered → IsInTime
  waits_in_time none later =
      record {
        answered_now = λ is. absurd (let above : at < at = subst (IsLater at) is later in omega (arith, above));
        not_yet = λ _. none;
      }

  -- or is answered
  pub answered_in_time : (reply : Reply) → may ≡ Some reply → ShowsAnswer ask (Some (at, reply)) → IsInTime
  answered_in_time reply some shown =
      record {
        answered_now = λ _. subst Shows (sym some) shown;
        not_yet = λ later. absurd (let above : at < at = subst (IsLater at) shown.0 later in omega (arith, above));
      }

  -- ---- or not

  module _ (there : slice_get kept.runs number ≡ Some run) (here : slice_get run.asks place_of ≡ Some ask) (late : IsLater (now p) ask.answered)
      (left : is_spent (clock_after run.entry (take place_of run.asks)) ≡ false) where
    abbrev GoesOn : Type 0
    GoesOn = GoesOnInTime place boot begins first kept procedures at_boot p at o

    in_time : GoesOn → IsInTime
    in_time g = g.step.answers number place_of run ask there here left

    -- where it was answered by the step it was in it
    answered_at : GoesOn → (n : ℕ) → ask.answered ≡ Some n → n ≤ at → ask.answered ≡ Some at
    answered_at g n is low =
        is ∙ ap (λ k. Some k) (by_side (subst (λ x. IfSome x (IsOutside (now p) at)) is (g.none_answered number place_of run ask there here left)) (subst (IsLater (now p)) is late))
      where
        by_side : IsOutside (now p) at n → now p < n → n ≡ at
        by_side (inl early) later = absurd (omega (arith, early, later))
        by_side (inr high) later = omega (arith, low, high)

    shows : GoesOn → (n : ℕ) → ask.answered ≡ Some n → n ≤ at → Shows may
    shows g n is low = (in_time g).answered_now (answered_at g n is low)

    none_given : may ≡ None → not (is_by ask.answered at) ≡ false → GoesOn → ⊥
    none_given none says g = by_answer ask.answered refl
      where
        by_order : (n : ℕ) → ask.answered ≡ Some n → (at < n) ⊎ (n ≤ at) → ⊥
        by_order n is (inl high) = true≢false (sym (ap (λ x. not (is_by x at)) is ∙ ap not (lt-leb n at high)) ∙ says)
        by_order n is (inr low) = subst Shows none (shows g n is low)

        by_answer : (x : Option ℕ) → ask.answered ≡ x → ⊥
        by_answer None is = true≢false (sym (ap (λ x. not (is_by x at)) is) ∙ says)
        by_answer (Some n) is = by_order n is (cases_lt at n)

    other_given : (reply : Reply) → may ≡ Some reply → shows_answer ask at reply ≡ false → GoesOn → ⊥
    other_given reply some says g = by_answer ask.answered refl
      where
        not_later : IsLater at ask.answered → ⊥
        not_later later = none_is_some may reply ((in_time g).not_yet later) some

        by_order : (n : ℕ) → ask.answered ≡ Some n → (at < n) ⊎ (n ≤ at) → ⊥
        by_order n is (inl high) = not_later (subst (IsLater at) (sym is) high)
        by_order n is (inr low) = true≢false (sym (so_shown ask at reply (subst Shows some (shows g n is low))) ∙ says)

        by_answer : (x : Option ℕ) → ask.answered ≡ x → ⊥
        by_answer None is = not_later (subst (IsLater at) (sym is) tt)
        by_answer (Some n) is = by_order n is (cases_lt at n)

    pub refused : (x : Option Reply) → may ≡ x → agrees at ask x ≡ false → Refuses place boot begins first procedures at_boot kept p at o
    refused None none says = none_given none says
    refused (Some reply) some says = other_given reply some says
