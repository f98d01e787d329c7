-- The asks of a record that are new in a step, run by run and ask by ask.
use Rattle.std.proofs.Common.{◌≡◌, ℕ, ◌+◌, Bool, true, false, ◌&&◌, not, if◌then◌else◌, List, [], ◌∷◌, ◌++◌, length, All, sym, ap, ◌∙◌, arith, append_assoc, append-nil}
use Rattle.std.specs.Prelude.{unwrap_or}
use Rattle.std.proofs.lemmas.Bool.{ne_eqb}
use Rattle.circus_collate.specs.declared.view.View.{View}
use Rattle.circus_model.specs.Execution.{is_spent}
use Rattle.circus_record.specs.declared.record.AskRecord.{AskRecord}
use Rattle.circus_record.specs.declared.record.MemberRecord.{MemberRecord}
use Rattle.circus_record.specs.declared.record.RunRecord.{RunRecord}
use Rattle.circus_member_rules.specs.declared.place.Place.{Place}
use Rattle.circus_member_theory.specs.Past.{Past, now}
use Rattle.circus_member_theory.specs.Asks.{is_new, as_made, asks_from, asks_of, new_asks}
use Rattle.circus_headline_theory.proofs.Owed.Entries.{none_of}

-- an ask that was made in another step isn't new
pub not_new : (p : Past) (ask : AskRecord) → (ask.asked ≡ now p → ⊥) → is_new p ask ≡ false
not_new p ask other = ne_eqb ask.asked (now p) other

module _ (place : Place) (test : AskRecord → Bool) where
  -- of some runs, and then of others
  pub of_both : (index : ℕ) (xs ys : List RunRecord) → asks_of place test index (xs ++ ys) ≡ asks_of place test index xs ++ asks_of place test (index + length xs) ys
  of_both index [] ys = let same : index ≡ index + 0 = omega arith in ap (λ n. asks_of place test n ys) same
  of_both index (x ∷ xs) ys =
      let head = asks_from place test index x.root x.path 0 x.entry x.asks in
      let same : (index + 1) + length xs ≡ index + length (x ∷ xs) = omega arith in
      ap (λ l. head ++ l) (of_both (index + 1) xs ys ∙ ap (λ n. asks_of place test (index + 1) xs ++ asks_of place test n ys) same)
      ∙ sym (append_assoc head (asks_of place test (index + 1) xs) (asks_of place test (index + length (x ∷ xs)) ys))

  -- an ask is passed: it is opened where it passes the test and its thread has calls left
  module _ (index root : ℕ) (path : List ℕ) (n : ℕ) (clock : List ℕ) (ask : AskRecord) (asks : List AskRecord) where
    pub passed_over : (test ask && not (is_spent clock)) ≡ false → asks_from place test index root path n clock (ask ∷ asks) ≡ asks_from place test index root path (n + 1) (unwrap_or ask.after clock) asks
    passed_over is = ap (λ b. (if b then as_made place index root path n clock ask ∷ [] else []) ++ asks_from place test index root path (n + 1) (unwrap_or ask.after clock) asks) is

    pub passed : (test ask && not (is_spent clock)) ≡ true
        → asks_from place test index root path n clock (ask ∷ asks) ≡ as_made place index root path n clock ask ∷ asks_from place test index root path (n + 1) (unwrap_or ask.after clock) asks
    passed is = ap (λ b. (if b then as_made place index root path n clock ask ∷ [] else []) ++ asks_from place test index root path (n + 1) (unwrap_or ask.after clock) asks) is

module _ (place : Place) (boot : List View) (kept : MemberRecord) (p : Past) where
  -- no ask of a run is new
  abbrev pub NoneNew : RunRecord → Type 0
  NoneNew run = All (λ (a : AskRecord). is_new p a ≡ false) run.asks

  -- they are those of the runs that made any
  pub new_of : (before runs later : List RunRecord) → kept.runs ≡ before ++ (runs ++ later) → All NoneNew before → All NoneNew later → new_asks place boot kept p ≡ asks_of place (is_new p) (kept.from + length before) runs
  new_of before runs later are none none_later =
      let index = kept.from + length before in
      ap (asks_of place (is_new p) kept.from) are
      ∙ of_both place (is_new p) kept.from before (runs ++ later)
      ∙ ap (λ l. l ++ asks_of place (is_new p) index (runs ++ later)) (none_of place (is_new p) kept.from before none)
      ∙ of_both place (is_new p) index runs later
      ∙ ap (λ l. asks_of place (is_new p) index runs ++ l) (none_of place (is_new p) (index + length runs) later none_later)
      ∙ append-nil (asks_of place (is_new p) index runs)
