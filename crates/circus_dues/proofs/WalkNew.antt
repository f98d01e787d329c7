-- The asks of a run that are made in a step stand one behind the other, behind those made before.
use Rattle.std.proofs.Common.{◌≡◌, ℕ, ◌+◌, ◌<◌, ◌≤◌, ◌⊎◌, inl, inr, Bool, ◌&&◌, not, if◌then◌else◌, List, [], ◌∷◌, ◌++◌, length, All, refl, sym, ap, ◌∙◌, arith, append_assoc}
use Rattle.std.specs.Prelude.{unwrap_or}
use Rattle.std.proofs.lemmas.Bool.{cases_lt, eq-eqb}
use Rattle.std.proofs.lemmas.List.Elements.{All-nil, All-cons, All-head, All-tail, All-weaker}
use Rattle.circus_model.specs.Execution.{is_spent}
use Rattle.circus_record.specs.declared.record.AskRecord.{AskRecord}
use Rattle.circus_fanout.specs.Asking.{Asking}
use Rattle.circus_performing.specs.Performing.{clock_after}
use Rattle.circus_member_rules.specs.declared.place.Place.{Place}
use Rattle.circus_member_rules.specs.declared.occurrence.AskName.{AskName}
use Rattle.circus_member_theory.specs.Past.{Past, now}
use Rattle.circus_member_theory.specs.Asks.{as_made, asks_from, is_new}
use Rattle.circus_dues.specs.Walk.{AskOneByOne, AreAskedBy, made_from}
use Rattle.circus_dues.proofs.WalkAnswers.{IsLateAsk, late_asks}

abbrev AskedBefore : ℕ → AskRecord → Type 0
AskedBefore step ask = ask.asked < step

abbrev AskedNow : ℕ → AskRecord → Type 0
AskedNow step ask = ask.asked ≡ step

abbrev AskedLater : ℕ → AskRecord → Type 0
AskedLater step ask = step < ask.asked

-- ---- how asks stand in a step

pub record StandAsked (step : ℕ) (asks : List AskRecord) : Type 0 where
  pub old : List AskRecord
  pub new : List AskRecord
  pub later : List AskRecord
  pub standing : AreAskedBy step asks old new later

asked_later : (step from : ℕ) (asks : List AskRecord) → AskOneByOne from asks → step < from → All (AskedLater step) asks
asked_later step from asks so late = All-weaker (IsLateAsk step) (AskedLater step) (λ ask l. l.asked_later) asks (late_asks step from asks so late)

record NewFrom (step : ℕ) (asks : List AskRecord) : Type 0 where
  new : List AskRecord
  later : List AskRecord
  are : asks ≡ new ++ later
  asked_now : All (AskedNow step) new
  come_later : All (AskedLater step) later

new_from : (step from : ℕ) (asks : List AskRecord) → AskOneByOne from asks → step ≤ from → NewFrom step asks
new_from step from [] so low = record { new = []; later = []; are = refl; asked_now = All-nil (AskedNow step); come_later = All-nil (AskedLater step) }
new_from step from (ask ∷ asks) so low = by_step (new_from step (unwrap_or ask.answered from) asks so.3) (cases_lt step from)
  where
    by_step : (step ≤ unwrap_or ask.answered from → NewFrom step asks) → (step < from) ⊎ (from ≤ step) → NewFrom step (ask ∷ asks)
    by_step rest (inl late) = record { new = []; later = ask ∷ asks; are = refl; asked_now = All-nil (AskedNow step); come_later = asked_later step from (ask ∷ asks) so late }
    by_step rest (inr early) =
        let asked = so.0 in
        let on = so.1 in
        let f = rest (omega (arith, low, on)) in
        record { new = ask ∷ f.new; later = f.later; are = ap (λ l. ask ∷ l) f.are; asked_now = All-cons (AskedNow step) ask f.new (omega (arith, asked, low, early)) f.asked_now; come_later = f.come_later }

pub stand_asked : (step from : ℕ) (asks : List AskRecord) → AskOneByOne from asks → StandAsked step asks
stand_asked step from [] so = record { old = []; new = []; later = []; standing = record { are = refl; asked_before = All-nil (AskedBefore step); asked_now = All-nil (AskedNow step); come_later = All-nil (AskedLater step) } }
stand_asked step from (ask ∷ asks) so = by_step (stand_asked step (unwrap_or ask.answered from) asks so.3) (cases_lt from step)
  where
    by_step : StandAsked step asks → (from < step) ⊎ (step ≤ from) → StandAsked step (ask ∷ asks)
    by_step rest (inl early) =
        let asked = so.0 in
        let s = rest.standing in
        record {
          old = ask ∷ rest.old;
          new = rest.new;
          later = rest.later;
          standing = record { are = ap (λ l. ask ∷ l) s.are; asked_before = All-cons (AskedBefore step) ask rest.old (omega (arith, asked, early)) s.asked_before; asked_now = s.asked_now; come_later = s.come_later };
        }
    by_step rest (inr late) =
        let f = new_from step from (ask ∷ asks) so late in
        record { old = []; new = f.new; later = f.later; standing = record { are = f.are; asked_before = All-nil (AskedBefore step); asked_now = f.asked_now; come_later = f.come_later } }

-- ---- those that are made

module _ (place : Place) (test : AskRecord → Bool) (index root : ℕ) (path : List ℕ) where
  abbrev passing : ℕ → List ℕ → List AskRecord → List (AskName × Asking)
  passing number clock asks = asks_from place test index root path number clock asks

  pub from_both : (number : ℕ) (clock : List ℕ) (xs ys : List AskRecord) → passing number clock (xs ++ ys) ≡ passing number clock xs ++ passing (number + length xs) (clock_after clock xs) ys
  from_both number clock [] ys = let same : number ≡ number + 0 = omega arith in ap (λ k. passing k clock ys) same
  from_both number clock (x ∷ xs) ys =
      let head = if test x && not (is_spent clock) then as_made place index root path number clock x ∷ [] else [] in
      let same : (number + 1) + length xs ≡ number + length (x ∷ xs) = omega arith in
      ap (λ l. head ++ l) (from_both (number + 1) (unwrap_or x.after clock) xs ys ∙ ap (λ k. passing (number + 1) (unwrap_or x.after clock) xs ++ passing k (clock_after (unwrap_or x.after clock) xs) ys) same)
      ∙ sym (append_assoc head (passing (number + 1) (unwrap_or x.after clock) xs) (passing (number + length (x ∷ xs)) (clock_after (unwrap_or x.after clock) xs) ys))

module _ (place : Place) (p : Past) (index root : ℕ) (path : List ℕ) where
  abbrev new_of : ℕ → List ℕ → List AskRecord → List (AskName × Asking)
  new_of number clock asks = asks_from place (is_new p) index root path number clock asks

  all_new : (number : ℕ) (clock : List ℕ) (asks : List AskRecord) → All (AskedNow (now p)) asks → new_of number clock asks ≡ made_from place index root path number clock asks
  all_new number clock [] all = refl
  all_new number clock (ask ∷ asks) all =
      (λ j. (if eq-eqb ask.asked (now p) (All-head (AskedNow (now p)) ask asks all) j && not (is_spent clock) then as_made place index root path number clock ask ∷ [] else [])
      ++ all_new (number + 1) (unwrap_or ask.after clock) asks (All-tail (AskedNow (now p)) ask asks all) j)
