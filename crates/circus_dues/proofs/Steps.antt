-- What is looked up along a walk: an ask that comes next has calls left, and what is tested of the order of a record is what it says.
use Rattle.std.proofs.Common.{◌≡◌, ℕ, zero, suc, ◌+◌, ◌<◌, ◌≤◌, ◌&&◌, Bool, true, false, if◌then◌else◌, List, [], ◌∷◌, ◌++◌, length, take, All, Option, None, Some, refl, sym, ap, subst, ◌∙◌, arith, append_assoc, length-append}
use Rattle.std.specs.Prelude.{drop, slice_get, nat_eq, nat_le, is_none, is_some, unwrap_or}
use Rattle.std.specs.Option.{option_map_or}
use Rattle.std.proofs.lemmas.Bool.{true≢false, and_parts, and_from, eqb-true, eq-eqb, leb-true, le-leb}
use Rattle.std.proofs.lemmas.List.{length-take-le, take-append-drop}
use Rattle.std.proofs.lemmas.List.Elements.{All-nil, All-cons, All-head, All-tail}
use Rattle.std.proofs.lemmas.Option.{same_Some}
use Rattle.circus_model.specs.Execution.{is_spent}
use Rattle.circus_record.specs.declared.record.AskRecord.{AskRecord}
use Rattle.circus_record.specs.declared.record.RunRecord.{RunRecord}
use Rattle.circus_performing.specs.Performing.{clock_after, step_after}
use Rattle.circus_performing.proofs.Ends.{latest_more}
use Rattle.circus_headline_theory.proofs.One.{take_front, none_is_some}
use Rattle.circus_dues.specs.Walk.{AskOneByOne, IsRunInOrder, RunOneByOne}
use Rattle.circus_dues.specs.Seen.Steps.{clock_at, next_ask, is_nil, asks_in_order, are_answered, ends_in_order, run_in_order, runs_in_order}

-- ---- the next ask

pub next_is_left : (entry : List ℕ) (front asks : List AskRecord) (number : ℕ) → next_ask (length front) (clock_after entry front) asks ≡ Some number
    → is_spent (clock_after entry (take number (front ++ asks))) ≡ false
next_is_left entry front [] number is = absurd (none_is_some None number refl is)
next_is_left entry front (ask ∷ asks) number is = by_clock (is_spent clock) refl is (next_is_left entry (front ++ ask ∷ []) asks number)
  where
    clock : List ℕ
    clock = clock_after entry front

    by_clock : (b : Bool) → is_spent clock ≡ b → (if b then next_ask (suc (length front)) (unwrap_or ask.after clock) asks else Some (length front)) ≡ Some number
        → (next_ask (length (front ++ ask ∷ [])) (clock_after entry (front ++ ask ∷ [])) asks ≡ Some number
        → is_spent (clock_after entry (take number ((front ++ ask ∷ []) ++ asks))) ≡ false)
        → is_spent (clock_after entry (take number (front ++ ask ∷ asks))) ≡ false
    by_clock false so here behind =
        subst (λ n. is_spent (clock_after entry (take n (front ++ ask ∷ asks))) ≡ false) (same_Some (length front) number here)
        (ap (λ l. is_spent (clock_after entry l)) (take_front front (ask ∷ asks)) ∙ so)
    by_clock true so on behind =
        subst (λ l. is_spent (clock_after entry (take number l)) ≡ false) (append_assoc front (ask ∷ []) asks)
        (behind
        (subst (λ c. next_ask (length (front ++ ask ∷ [])) c asks ≡ Some number) (sym (latest_more (λ (a : AskRecord). a.after) entry front ask))
        (subst (λ n. next_ask n (unwrap_or ask.after clock) asks ≡ Some number) (sym one_more) on)))
      where
        one_more : length (front ++ ask ∷ []) ≡ suc (length front)
        one_more = omega (arith, length-append front (ask ∷ []))

-- so it is of a run from an ask on
pub next_of_is_left : (run : RunRecord) (from number : ℕ) → from ≤ length run.asks → next_ask from (clock_at run from) (drop from run.asks) ≡ Some number
    → is_spent (clock_at run number) ≡ false
next_of_is_left run from number within is =
    subst (λ l. is_spent (clock_after run.entry (take number l)) ≡ false) (take-append-drop from run.asks)
    (next_is_left run.entry (take from run.asks) (drop from run.asks) number
    (subst (λ n. next_ask n (clock_at run from) (drop from run.asks) ≡ Some number) (sym (length-take-le from run.asks within)) is))

-- it is one of them
pub next_within : (number : ℕ) (clock : List ℕ) (asks : List AskRecord) (n : ℕ) → next_ask number clock asks ≡ Some n → n < number + length asks
next_within number clock [] n is = absurd (none_is_some None n refl is)
next_within number clock (ask ∷ asks) n is = by_clock (is_spent clock) is (next_within (suc number) (unwrap_or ask.after clock) asks n)
  where
    by_clock : (b : Bool) → (if b then next_ask (suc number) (unwrap_or ask.after clock) asks else Some number) ≡ Some n
        → (next_ask (suc number) (unwrap_or ask.after clock) asks ≡ Some n → n < suc number + length asks) → n < number + suc (length asks)
    by_clock true is later = omega (arith, later is)
    by_clock false is later = omega (arith, same_Some number n is)

pub there_within : {A : Type 0} (xs : List A) (n : ℕ) → n < length xs → slice_get xs n ≡ None → ⊥
there_within [] n within is = absurd (omega (arith, within))
there_within (x ∷ xs) zero within is = none_is_some (Some x) x is refl
there_within (x ∷ xs) (suc n) within is = there_within xs n (omega (arith, within)) is

-- ---- order

nil_is : {A : Type 0} (xs : List A) → is_nil xs ≡ true → xs ≡ []
nil_is [] h = refl
nil_is (x ∷ xs) h = absurd (true≢false (sym h))

is_nil_of : {A : Type 0} (xs : List A) → xs ≡ [] → is_nil xs ≡ true
is_nil_of xs is = ap (λ l. is_nil l) is

-- what stands behind an ask that was answered so
abbrev AskBehind : ℕ → List AskRecord → Option ℕ → Type 0
AskBehind step asks o = (step ≤ unwrap_or o step) × (o ≡ None → asks ≡ []) × AskOneByOne (unwrap_or o step) asks

pub asks_are_so : (step : ℕ) (asks : List AskRecord) → asks_in_order step asks ≡ true → AskOneByOne step asks
asks_are_so step [] h = tt
asks_are_so step (ask ∷ asks) h =
    let both = and_parts (nat_eq ask.asked step) (option_map_or (λ n. nat_le step n && asks_in_order n asks) ask.answered (is_nil asks)) h in
    let behind = by_answer ask.answered both.1 (λ n. asks_are_so n asks) in
    (eqb-true ask.asked step both.0, behind.0, behind.1, behind.2)
  where
    by_answer : (o : Option ℕ) → option_map_or (λ n. nat_le step n && asks_in_order n asks) o (is_nil asks) ≡ true
        → ((n : ℕ) → asks_in_order n asks ≡ true → AskOneByOne n asks) → AskBehind step asks o
    by_answer None nil later = (omega arith, λ _. nil_is asks nil, subst (AskOneByOne step) (sym (nil_is asks nil)) tt)
    by_answer (Some n) all later =
        let both = and_parts (nat_le step n) (asks_in_order n asks) all in
        (leb-true step n both.0, λ is. absurd (none_is_some (Some n) n is refl), later n both.1)

pub so_are_asks : (step : ℕ) (asks : List AskRecord) → AskOneByOne step asks → asks_in_order step asks ≡ true
so_are_asks step [] so = refl
so_are_asks step (ask ∷ asks) so =
    and_from (nat_eq ask.asked step) (option_map_or (λ n. nat_le step n && asks_in_order n asks) ask.answered (is_nil asks))
    (eq-eqb ask.asked step so.0) (by_answer ask.answered (so.1, so.2, so.3) (λ n. so_are_asks n asks))
  where
    by_answer : (o : Option ℕ) → AskBehind step asks o → ((n : ℕ) → AskOneByOne n asks → asks_in_order n asks ≡ true)
        → option_map_or (λ n. nat_le step n && asks_in_order n asks) o (is_nil asks) ≡ true
    by_answer None behind later = is_nil_of asks (behind.1 refl)
    by_answer (Some n) behind later = and_from (nat_le step n) (asks_in_order n asks) (le-leb step n behind.0) (later n behind.2)

-- the asks of a run all have answers
answered_is : (asks : List AskRecord) → are_answered asks ≡ true → All (λ (ask : AskRecord). is_none ask.answered ≡ false) asks
answered_is [] h = All-nil (λ (ask : AskRecord). is_none ask.answered ≡ false)
answered_is (ask ∷ asks) h =
    let both = and_parts (is_some ask.answered) (are_answered asks) h in
    All-cons (λ (a : AskRecord). is_none a.answered ≡ false) ask asks (by_answer ask.answered both.0) (answered_is asks both.1)
  where
    by_answer : (o : Option ℕ) → is_some o ≡ true → is_none o ≡ false
    by_answer None h = absurd (true≢false (sym h))
    by_answer (Some n) h = refl

is_answered : (asks : List AskRecord) → All (λ (ask : AskRecord). is_none ask.answered ≡ false) asks → are_answered asks ≡ true
is_answered [] all = refl
is_answered (ask ∷ asks) all =
    and_from (is_some ask.answered) (are_answered asks) (by_answer ask.answered (All-head (λ (a : AskRecord). is_none a.answered ≡ false) ask asks all))
    (is_answered asks (All-tail (λ (a : AskRecord). is_none a.answered ≡ false) ask asks all))
  where
    by_answer : (o : Option ℕ) → is_none o ≡ false → is_some o ≡ true
    by_answer None h = absurd (true≢false h)
    by_answer (Some n) h = refl

-- a run
run_is_so : (run : RunRecord) → run_in_order run ≡ true → IsRunInOrder run
run_is_so run h =
    let both = and_parts (asks_in_order run.started run.asks) (ends_in_order run) h in
    record {
      asks_so = asks_are_so run.started run.asks both.0;
      ended_so = λ step is. (parts step (ends_at step is both.1)).0;
      answered_so = λ step is. (parts step (ends_at step is both.1)).1;
    }
  where
    ends_at : (step : ℕ) → run.ended ≡ Some step → ends_in_order run ≡ true → (nat_eq step (step_after run.started run.asks) && are_answered run.asks) ≡ true
    ends_at step is so = subst (λ o. option_map_or (λ n. nat_eq n (step_after run.started run.asks) && are_answered run.asks) o true ≡ true) is so

    parts : (step : ℕ) → (nat_eq step (step_after run.started run.asks) && are_answered run.asks) ≡ true
        → (step ≡ step_after run.started run.asks) × All (λ (ask : AskRecord). is_none ask.answered ≡ false) run.asks
    parts step so =
        let both = and_parts (nat_eq step (step_after run.started run.asks)) (are_answered run.asks) so in
        (eqb-true step (step_after run.started run.asks) both.0, answered_is run.asks both.1)

so_is_run : (run : RunRecord) → IsRunInOrder run → run_in_order run ≡ true
so_is_run run so =
    and_from (asks_in_order run.started run.asks) (ends_in_order run) (so_are_asks run.started run.asks so.asks_so) (by_end run.ended refl)
  where
    by_end : (o : Option ℕ) → run.ended ≡ o → option_map_or (λ n. nat_eq n (step_after run.started run.asks) && are_answered run.asks) o true ≡ true
    by_end None is = refl
    by_end (Some n) is =
        and_from (nat_eq n (step_after run.started run.asks)) (are_answered run.asks) (eq-eqb n (step_after run.started run.asks) (so.ended_so n is))
        (is_answered run.asks (so.answered_so n is))

-- what stands behind a run that ended so
abbrev RunBehind : ℕ → List RunRecord → Option ℕ → Type 0
RunBehind started runs o = (o ≡ None → runs ≡ []) × RunOneByOne (unwrap_or o started) runs

pub runs_are_so : (step : ℕ) (runs : List RunRecord) → runs_in_order step runs ≡ true → RunOneByOne step runs
runs_are_so step [] h = tt
runs_are_so step (run ∷ runs) h =
    let outer = and_parts (nat_le step run.started) (run_in_order run && option_map_or (λ n. runs_in_order n runs) run.ended (is_nil runs)) h in
    let inner = and_parts (run_in_order run) (option_map_or (λ n. runs_in_order n runs) run.ended (is_nil runs)) outer.1 in
    let behind = by_end run.ended inner.1 (λ n. runs_are_so n runs) in
    (leb-true step run.started outer.0, run_is_so run inner.0, behind.0, behind.1)
  where
    by_end : (o : Option ℕ) → option_map_or (λ n. runs_in_order n runs) o (is_nil runs) ≡ true
        → ((n : ℕ) → runs_in_order n runs ≡ true → RunOneByOne n runs) → RunBehind run.started runs o
    by_end None nil later = (λ _. nil_is runs nil, subst (RunOneByOne run.started) (sym (nil_is runs nil)) tt)
    by_end (Some n) all later = (λ is. absurd (none_is_some (Some n) n is refl), later n all)

pub so_are_runs : (step : ℕ) (runs : List RunRecord) → RunOneByOne step runs → runs_in_order step runs ≡ true
so_are_runs step [] so = refl
so_are_runs step (run ∷ runs) so =
    and_from (nat_le step run.started) (run_in_order run && option_map_or (λ n. runs_in_order n runs) run.ended (is_nil runs)) (le-leb step run.started so.0)
    (and_from (run_in_order run) (option_map_or (λ n. runs_in_order n runs) run.ended (is_nil runs)) (so_is_run run so.1) (by_end run.ended (so.2, so.3) (λ n. so_are_runs n runs)))
  where
    by_end : (o : Option ℕ) → RunBehind run.started runs o → ((n : ℕ) → RunOneByOne n runs → runs_in_order n runs ≡ true)
        → option_map_or (λ n. runs_in_order n runs) o (is_nil runs) ≡ true
    by_end None behind later = is_nil_of runs (behind.0 refl)
    by_end (Some n) behind later = later n behind.1
