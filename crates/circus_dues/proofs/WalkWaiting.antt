-- At the end of a step at most one ask waits: of the last run that goes on, or has started.
use Rattle.std.proofs.Common.{◌≡◌, ℕ, ◌+◌, ◌≤◌, Bool, true, false, true≢false, ◌&&◌, not, if◌then◌else◌, List, [], ◌∷◌, ◌++◌, length, All, Option, None, Some, refl, ap, subst, ◌∙◌, arith, append-nil}
use Rattle.std.specs.Prelude.{nat_le, is_none, unwrap_or}
use Rattle.std.specs.Option.{option_map_or}
use Rattle.std.proofs.lemmas.Bool.{le-leb, lt-leb}
use Rattle.std.proofs.lemmas.List.Elements.{All-nil, All-cons, All-head, All-tail, All-weaker}
use Rattle.circus_model.specs.Execution.{is_spent}
use Rattle.circus_record.specs.declared.record.AskRecord.{AskRecord}
use Rattle.circus_record.specs.declared.record.MemberRecord.{MemberRecord}
use Rattle.circus_record.specs.declared.record.RunRecord.{RunRecord}
use Rattle.circus_performing.specs.Performing.{clock_after, step_after}
use Rattle.circus_member_rules.specs.declared.place.Place.{Place}
use Rattle.circus_member_theory.specs.Past.{Past, now}
use Rattle.circus_member_theory.specs.Asks.{as_made, asks_from, asks_of, is_waiting}
use Rattle.circus_dues.specs.Walk.{IsBy, IsLater, AskOneByOne, IsRunInOrder, made_from}
use Rattle.circus_headline_theory.proofs.Owed.Entries.{none_from, none_of}
use Rattle.circus_dues.proofs.WalkRuns.{asks_rise, StartsLater}
use Rattle.circus_dues.proofs.WalkMade.{of_both, all_both, all_front, all_back}
use Rattle.circus_dues.proofs.WalkAnswers.{IsLateAsk, late_asks, asks_behind}
use Rattle.circus_dues.proofs.WalkNew.{from_both}

abbrev pub AnsweredBy : ℕ → AskRecord → Type 0
AnsweredBy step ask = IsBy step ask.answered

abbrev pub EndedBy : ℕ → RunRecord → Type 0
EndedBy step run = IsBy step run.ended

-- all asks of what ended by then
pub answered_by : (step from : ℕ) (asks : List AskRecord) → AskOneByOne from asks → step_after from asks ≤ step → All (λ (ask : AskRecord). is_none ask.answered ≡ false) asks → All (AnsweredBy step) asks
answered_by step from [] so below all = All-nil (AnsweredBy step)
answered_by step from (ask ∷ asks) so below all =
    All-cons (AnsweredBy step) ask asks
    (by_answer ask.answered refl (All-head (λ (a : AskRecord). is_none a.answered ≡ false) ask asks all) (asks_rise (unwrap_or ask.answered from) asks so.3))
    (answered_by step (unwrap_or ask.answered from) asks so.3 below (All-tail (λ (a : AskRecord). is_none a.answered ≡ false) ask asks all))
  where
    by_answer : (o : Option ℕ) → ask.answered ≡ o → is_none o ≡ false → unwrap_or ask.answered from ≤ step_after (unwrap_or ask.answered from) asks → IsBy step o
    by_answer None is some low = absurd (true≢false some)
    by_answer (Some n) is some low = (let at : unwrap_or ask.answered from ≡ n = ap (λ o. unwrap_or o from) is in omega (arith, at, low, below))

module _ (place : Place) (p : Past) where
  abbrev Rests : AskRecord → Type 0
  Rests ask = is_waiting p ask ≡ false

  answered_rests : (ask : AskRecord) → AnsweredBy (now p) ask → Rests ask
  answered_rests ask early = by_answer ask.answered refl early
    where
      none : (t : Bool) → (t && false) ≡ false
      none true = refl
      none false = refl

      by_answer : (o : Option ℕ) → ask.answered ≡ o → IsBy (now p) o → Rests ask
      by_answer None is low = absurd low
      by_answer (Some n) is low =
          ap (λ t. nat_le ask.asked (now p) && not t) (ap (λ o. option_map_or (λ step. nat_le step (now p)) o false) is ∙ le-leb n (now p) low) ∙ none (nat_le ask.asked (now p))

  late_rests : (ask : AskRecord) → IsLateAsk (now p) ask → Rests ask
  late_rests ask late = ap (λ t. t && not (option_map_or (λ step. nat_le step (now p)) ask.answered false)) (lt-leb ask.asked (now p) late.asked_later)

  waits : (ask : AskRecord) → ask.asked ≤ now p → IsLater (now p) ask.answered → is_waiting p ask ≡ true
  waits ask low late = (λ j. le-leb ask.asked (now p) low j && not (by_answer ask.answered late j))
    where
      by_answer : (o : Option ℕ) → IsLater (now p) o → option_map_or (λ step. nat_le step (now p)) o false ≡ false
      by_answer None later = refl
      by_answer (Some n) later = lt-leb n (now p) later

  -- ---- of a run

  abbrev RunRests : RunRecord → Type 0
  RunRests run = All Rests run.asks

  -- none of one that has ended
  ended_rests : (run : RunRecord) → IsRunInOrder run → EndedBy (now p) run → RunRests run
  ended_rests run order early = by_end run.ended refl early
    where
      by_end : (o : Option ℕ) → run.ended ≡ o → IsBy (now p) o → RunRests run
      by_end None is low = absurd low
      by_end (Some n) is low =
          let same = order.ended_so n is in
          All-weaker (AnsweredBy (now p)) Rests answered_rests run.asks (answered_by (now p) run.started run.asks order.asks_so (omega (arith, same, low)) (order.answered_so n is))

  -- nor of a later one
  later_rests : (run : RunRecord) → IsRunInOrder run → StartsLater (now p) run → RunRests run
  later_rests run order late = All-weaker (IsLateAsk (now p)) Rests late_rests run.asks (late_asks (now p) run.started run.asks order.asks_so late)

  -- and one of a run at most, behind those that were answered
  pub one_waits : (index : ℕ) (run : RunRecord) (front : List AskRecord) (ask : AskRecord) (rest : List AskRecord) (from : ℕ) → run.asks ≡ front ++ ask ∷ rest
      → All (AnsweredBy (now p)) front → AskOneByOne from (ask ∷ rest) → ask.asked ≤ now p → IsLater (now p) ask.answered
      → asks_from place (is_waiting p) index run.root run.path 0 run.entry run.asks ≡ made_from place index run.root run.path (length front) (clock_after run.entry front) (ask ∷ [])
  one_waits index run front ask rest from are early so low late =
      ap (asks_from place (is_waiting p) index run.root run.path 0 run.entry) are
      ∙ from_both place (is_waiting p) index run.root run.path 0 run.entry front (ask ∷ rest)
      ∙ (λ j. none_from place (is_waiting p) index run.root run.path 0 run.entry front (All-weaker (AnsweredBy (now p)) Rests answered_rests front early) j ++ asks_from place (is_waiting p) index run.root run.path (same j) (clock_after run.entry front) (ask ∷ rest))
      ∙ (λ j. (if waits ask low late j && not (is_spent (clock_after run.entry front)) then as_made place index run.root run.path (length front) (clock_after run.entry front) ask ∷ [] else [])
      ++ none_from place (is_waiting p) index run.root run.path (length front + 1) (unwrap_or ask.after (clock_after run.entry front)) rest (All-weaker (IsLateAsk (now p)) Rests late_rests rest (asks_behind (now p) from ask rest so late)) j)
    where
      same : 0 + length front ≡ length front
      same = omega arith

  -- ---- of a record

  module _ (kept : MemberRecord) (order : All IsRunInOrder kept.runs) where
    -- none where each run has ended, or is later
    pub none_wait : (front later : List RunRecord) → kept.runs ≡ front ++ later → All (EndedBy (now p)) front → All (StartsLater (now p)) later → asks_of place (is_waiting p) kept.from kept.runs ≡ []
    none_wait front later are ended late =
        ap (asks_of place (is_waiting p) kept.from) are
        ∙ of_both place (is_waiting p) kept.from front later
        ∙ (λ j. none_of place (is_waiting p) kept.from front (all_both IsRunInOrder (EndedBy (now p)) RunRests ended_rests front (all_front IsRunInOrder front later in_order) ended) j
        ++ none_of place (is_waiting p) (kept.from + length front) later (all_both IsRunInOrder (StartsLater (now p)) RunRests later_rests later (all_back IsRunInOrder front later in_order) late) j)
      where
        in_order : All IsRunInOrder (front ++ later)
        in_order = subst (All IsRunInOrder) are order

    -- else those of the one run between
    pub waits_in_run : (front : List RunRecord) (run : RunRecord) (later : List RunRecord) → kept.runs ≡ front ++ run ∷ later → All (EndedBy (now p)) front → All (StartsLater (now p)) later
        → asks_of place (is_waiting p) kept.from kept.runs ≡ asks_from place (is_waiting p) (kept.from + length front) run.root run.path 0 run.entry run.asks
    waits_in_run front run later are ended late =
        ap (asks_of place (is_waiting p) kept.from) are
        ∙ of_both place (is_waiting p) kept.from front (run ∷ later)
        ∙ (λ j. none_of place (is_waiting p) kept.from front (all_both IsRunInOrder (EndedBy (now p)) RunRests ended_rests front (all_front IsRunInOrder front (run ∷ later) in_order) ended) j
        ++ (asks_from place (is_waiting p) (kept.from + length front) run.root run.path 0 run.entry run.asks
        ++ none_of place (is_waiting p) (kept.from + length front + 1) later (all_both IsRunInOrder (StartsLater (now p)) RunRests later_rests later (All-tail IsRunInOrder run later (all_back IsRunInOrder front (run ∷ later) in_order)) late) j))
        ∙ append-nil (asks_from place (is_waiting p) (kept.from + length front) run.root run.path 0 run.entry run.asks)
      where
        in_order : All IsRunInOrder (front ++ run ∷ later)
        in_order = subst (All IsRunInOrder) are order
