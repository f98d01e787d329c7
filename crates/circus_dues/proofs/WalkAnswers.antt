-- In a step the asks of a run are answered one after the other, and no others.
use Rattle.std.proofs.Common.{◌≡◌, ℕ, zero, suc, ◌+◌, ◌-◌, ◌<◌, ◌≤◌, ◌⊎◌, inl, inr, if◌then◌else◌, List, [], ◌∷◌, ◌++◌, length, take, All, Option, None, Some, refl, sym, ap, subst, ◌∙◌, arith, append_assoc, length-append}
use Rattle.std.specs.Prelude.{slice_get, unwrap_or}
use Rattle.std.proofs.lemmas.Bool.{cases_lt, lt-leb}
use Rattle.std.proofs.lemmas.List.Elements.{All-nil, All-cons, All-head, All-tail}
use Rattle.std.proofs.lemmas.Option.{same_Some}
use Rattle.circus_collate.specs.declared.view.View.{View}
use Rattle.circus_transfer.specs.declared.joiner.Joiner.{Joiner}
use Rattle.circus_model.specs.Execution.{is_spent}
use Rattle.circus_model.specs.declared.signature.ProcedureShape.{ProcedureShape}
use Rattle.circus_record.specs.declared.record.AskRecord.{AskRecord}
use Rattle.circus_record.specs.declared.record.MemberRecord.{MemberRecord}
use Rattle.circus_record.specs.declared.record.RunRecord.{RunRecord}
use Rattle.circus_performing.specs.Performing.{clock_after}
use Rattle.circus_performing.proofs.Ends.{latest_more}
use Rattle.circus_member_rules.specs.declared.place.Place.{Place}
use Rattle.circus_member_rules.specs.declared.occurrence.AskName.{AskName}
use Rattle.circus_member_theory.specs.Past.{Past, now}
use Rattle.circus_member_theory.specs.Timely.{collated_reply, name_of, HasCallsLeft}
use Rattle.circus_dues.specs.Walk.{IsLater, IsBy, IsBefore, AskOneByOne, IsAnsweredInStep, AreAnsweredOnward}
use Rattle.circus_headline_theory.proofs.One.{take_front}
use Rattle.circus_dues.proofs.WalkStarts.{get_behind, all_at, by_or_later}

-- ---- asks that a step doesn't concern

-- it is made later than a step, and answered later, or never
pub record IsLateAsk (step : ℕ) (ask : AskRecord) : Type 0 where
  pub asked_later : step < ask.asked
  pub answered_later : IsLater step ask.answered

pub late_asks : (step from : ℕ) (asks : List AskRecord) → AskOneByOne from asks → step < from → All (IsLateAsk step) asks
late_asks step from [] so late = All-nil (IsLateAsk step)
late_asks step from (ask ∷ asks) so late =
    let asked = so.0 in
    let on = so.1 in
    All-cons (IsLateAsk step) ask asks (record { asked_later = omega (arith, asked, late); answered_later = by_answer ask.answered on })
    (late_asks step (unwrap_or ask.answered from) asks so.3 (omega (arith, on, late)))
  where
    by_answer : (o : Option ℕ) → from ≤ unwrap_or o from → IsLater step o
    by_answer None on = tt
    by_answer (Some n) on = omega (arith, on, late)

-- behind one that is answered later, or never
pub asks_behind : (step from : ℕ) (ask : AskRecord) (rest : List AskRecord) → AskOneByOne from (ask ∷ rest) → IsLater step ask.answered → All (IsLateAsk step) rest
asks_behind step from ask rest so late = by_answer ask.answered refl late
  where
    by_answer : (o : Option ℕ) → ask.answered ≡ o → IsLater step o → All (IsLateAsk step) rest
    by_answer None is later = subst (All (IsLateAsk step)) (sym (so.2 is)) (All-nil (IsLateAsk step))
    by_answer (Some n) is later = late_asks step n rest (subst (λ o. AskOneByOne (unwrap_or o from) rest) is so.3) later

abbrev pub AnsweredBefore : ℕ → AskRecord → Type 0
AnsweredBefore step ask = IsBefore step ask.answered

module _ (place : Place) (boot : List View) (begins : Joiner) (procedures : List ProcedureShape) (at_boot : ℕ) (kept : MemberRecord) (p : Past) where
  abbrev name : ℕ → ℕ → AskName
  name number place_of = name_of place boot begins procedures at_boot kept p number place_of

  abbrev IsSo : ℕ → ℕ → AskRecord → Type 0
  IsSo number place_of ask = IsAnsweredInStep place boot begins procedures at_boot kept p (name number place_of) ask

  pub late_is_so : (number place_of : ℕ) (ask : AskRecord) → IsLateAsk (now p) ask → IsSo number place_of ask
  late_is_so number place_of ask late =
      record {
        answered_now = λ is. absurd (let above : now p < now p = subst (IsLater (now p)) is late.answered_later in omega (arith, above));
        not_yet = λ _. ap (λ t. if t then collated_reply place boot begins (name number place_of) ask p else None) (lt-leb ask.asked (now p) late.asked_later);
      }

  pub early_is_so : (number place_of : ℕ) (ask : AskRecord) → AnsweredBefore (now p) ask → IsSo number place_of ask
  early_is_so number place_of ask early =
      record {
        answered_now = λ is. absurd (let below : now p < now p = subst (IsBefore (now p)) is early in omega (arith, below));
        not_yet = λ late. absurd (never ask.answered early late);
      }
    where
      never : (o : Option ℕ) → IsBefore (now p) o → IsLater (now p) o → ⊥
      never None early late = early
      never (Some n) early late = omega (arith, early, late)

  -- ---- the walk along a run

  module _ (number : ℕ) (run : RunRecord) where
    -- what IsTimelyStep says of its asks, from a place on
    abbrev pub AnsweredBehind : ℕ → List AskRecord → Type 0
    AnsweredBehind from rest = (n : ℕ) (ask : AskRecord) → slice_get rest n ≡ Some ask → HasCallsLeft place boot begins procedures at_boot kept p run (from + n) → IsSo number (from + n) ask

    longer : (front : List AskRecord) (ask : AskRecord) → length (front ++ ask ∷ []) ≡ suc (length front)
    longer front ask = let long = length-append front (ask ∷ []) in omega (arith, long)

    further : (front : List AskRecord) (ask : AskRecord) (n : ℕ) → length (front ++ ask ∷ []) + n ≡ length front + suc n
    further front ask n = let long = length-append front (ask ∷ []) in omega (arith, long)

    clock_on : (front : List AskRecord) (ask : AskRecord) → clock_after run.entry (front ++ ask ∷ []) ≡ unwrap_or ask.after (clock_after run.entry front)
    clock_on front ask = latest_more (λ (a : AskRecord). a.after) run.entry front ask

    left_there : (front rest : List AskRecord) → run.asks ≡ front ++ rest → clock_after run.entry (take (length front) run.asks) ≡ clock_after run.entry front
    left_there front rest are = ap (λ l. clock_after run.entry (take (length front) l)) are ∙ ap (clock_after run.entry) (take_front front rest)

    pub walk_answers : (front rest : List AskRecord) → run.asks ≡ front ++ rest → AnsweredBehind (length front) rest
        → AreAnsweredOnward place boot begins procedures at_boot kept p number (length front) (clock_after run.entry front) rest
    walk_answers front [] are so = tt
    walk_answers front (ask ∷ rest) are so =
        let none : length front + 0 ≡ length front = omega arith in (
          λ left. subst (λ n. IsSo number n ask) none
              (so 0 ask refl (ap (λ n. is_spent (clock_after run.entry (take n run.asks))) none ∙ ap is_spent (left_there front (ask ∷ rest) are) ∙ left)),
          λ answered. subst (λ c. AreAnsweredOnward place boot begins procedures at_boot kept p number (suc (length front)) c rest) (clock_on front ask)
              (subst (λ n. AreAnsweredOnward place boot begins procedures at_boot kept p number n (clock_after run.entry (front ++ ask ∷ [])) rest) (longer front ask)
              (walk_answers (front ++ ask ∷ []) rest (are ∙ sym (append_assoc front (ask ∷ []) rest))
              (λ n a there left.
              subst (λ k. IsSo number k a) (sym (further front ask n)) (so (suc n) a there (ap (λ k. is_spent (clock_after run.entry (take k run.asks))) (sym (further front ask n)) ∙ left))))),
        )

    pub answers_walked : (front rest : List AskRecord) (from : ℕ) → run.asks ≡ front ++ rest → AskOneByOne from rest
        → AreAnsweredOnward place boot begins procedures at_boot kept p number (length front) (clock_after run.entry front) rest → AnsweredBehind (length front) rest
    answers_walked front [] from are so walk n a there left = absurd (let clash : ◌≡◌ {A = Option AskRecord} None (Some a) = there in cc)
    answers_walked front (ask ∷ rest) from are so walk n a there left =
        here n a
        (by_answer
        (λ answered. answers_walked (front ++ ask ∷ []) rest (unwrap_or ask.answered from) (are ∙ sym (append_assoc front (ask ∷ []) rest)) so.3
        (subst (λ c. AreAnsweredOnward place boot begins procedures at_boot kept p number (length (front ++ ask ∷ [])) c rest) (sym (clock_on front ask))
        (subst (λ n. AreAnsweredOnward place boot begins procedures at_boot kept p number n (unwrap_or ask.after (clock_after run.entry front)) rest) (sym (longer front ask)) (walk.1 answered))))
        (by_or_later (now p) ask.answered))
        there left
      where
        by_answer : (IsBy (now p) ask.answered → AnsweredBehind (length (front ++ ask ∷ [])) rest) → IsBy (now p) ask.answered ⊎ IsLater (now p) ask.answered
            → (m : ℕ) (a : AskRecord) → slice_get rest m ≡ Some a → HasCallsLeft place boot begins procedures at_boot kept p run (length front + suc m) → IsSo number (length front + suc m) a
        by_answer onward (inl answered) m a at left =
            subst (λ k. IsSo number k a) (further front ask m) (onward answered m a at (ap (λ k. is_spent (clock_after run.entry (take k run.asks))) (further front ask m) ∙ left))
        by_answer onward (inr still) m a at left =
            late_is_so number (length front + suc m) a (all_at (IsLateAsk (now p)) rest m a (asks_behind (now p) from ask rest so still) at)

        here : (n : ℕ) (a : AskRecord)
            → ((m : ℕ) (a : AskRecord) → slice_get rest m ≡ Some a → HasCallsLeft place boot begins procedures at_boot kept p run (length front + suc m) → IsSo number (length front + suc m) a)
            → slice_get (ask ∷ rest) n ≡ Some a → HasCallsLeft place boot begins procedures at_boot kept p run (length front + n) → IsSo number (length front + n) a
        here zero a later at left =
            let none : length front + 0 ≡ length front = omega arith in
            subst (λ k. IsSo number k a) (sym none)
            (subst (IsSo number (length front)) (same_Some ask a at)
            (walk.0 (sym (ap is_spent (left_there front (ask ∷ rest) are)) ∙ ap (λ n. is_spent (clock_after run.entry (take n run.asks))) (sym none) ∙ left)))
        here (suc m) a later at left = later m a at left

    -- ---- all asks of a run

    abbrev pub AnsweredInRun : Type 0
    AnsweredInRun = (place_of : ℕ) (ask : AskRecord) → slice_get run.asks place_of ≡ Some ask → HasCallsLeft place boot begins procedures at_boot kept p run place_of → IsSo number place_of ask

    -- behind those that were answered before
    pub run_of_walk : (front rest : List AskRecord) (from : ℕ) → run.asks ≡ front ++ rest → All (AnsweredBefore (now p)) front → AskOneByOne from rest
        → AreAnsweredOnward place boot begins procedures at_boot kept p number (length front) (clock_after run.entry front) rest → AnsweredInRun
    run_of_walk front rest from are early so walk place_of ask there left = by_place (cases_lt place_of (length front))
      where
        by_place : (place_of < length front) ⊎ (length front ≤ place_of) → IsSo number place_of ask
        by_place (inl low) = early_is_so number place_of ask (early_at front place_of low early (ap (λ l. slice_get l place_of) (sym are) ∙ there))
          where
            early_at : (xs : List AskRecord) (n : ℕ) → n < length xs → All (AnsweredBefore (now p)) xs → slice_get (xs ++ rest) n ≡ Some ask → AnsweredBefore (now p) ask
            early_at [] n below all at = absurd (omega (arith, below))
            early_at (x ∷ xs) zero below all at = subst (AnsweredBefore (now p)) (same_Some x ask at) (All-head (AnsweredBefore (now p)) x xs all)
            early_at (x ∷ xs) (suc n) below all at = early_at xs n (omega (arith, below)) (All-tail (AnsweredBefore (now p)) x xs all) at
        by_place (inr high) =
            let n = place_of - length front in
            let same : place_of ≡ length front + n = omega (arith, high) in
            let at : slice_get rest n ≡ Some ask = sym (get_behind front rest n) ∙ ap (λ l. slice_get l (length front + n)) (sym are) ∙ ap (slice_get run.asks) (sym same) ∙ there in
            subst (λ k. IsSo number k ask) (sym same)
            (answers_walked front rest from are so walk n ask at (ap (λ k. is_spent (clock_after run.entry (take k run.asks))) (sym same) ∙ left))

    pub walk_of_run : (front rest : List AskRecord) → run.asks ≡ front ++ rest → AnsweredInRun
        → AreAnsweredOnward place boot begins procedures at_boot kept p number (length front) (clock_after run.entry front) rest
    walk_of_run front rest are so =
        walk_answers front rest are
        (λ n ask there left. so (length front + n) ask (ap (λ l. slice_get l (length front + n)) are ∙ get_behind front rest n ∙ there) left)
