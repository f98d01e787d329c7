-- How the runs of a record stand in a step, where they come one after the other.
use Rattle.std.proofs.Common.{◌≡◌, ℕ, ◌<◌, ◌≤◌, ◌⊎◌, inl, inr, false, true≢false, List, [], ◌∷◌, ◌++◌, All, Option, None, Some, refl, sym, ap, subst, ◌∙◌, arith}
use Rattle.std.specs.Prelude.{is_none, unwrap_or}
use Rattle.std.proofs.lemmas.Bool.{cases_lt}
use Rattle.std.proofs.lemmas.List.Elements.{All-nil, All-cons, All-head, All-tail}
use Rattle.circus_record.specs.declared.record.AskRecord.{AskRecord}
use Rattle.circus_record.specs.declared.record.RunRecord.{RunRecord}
use Rattle.circus_performing.specs.Performing.{step_after}
use Rattle.circus_dues.specs.Walk.{IsBefore, IsNotBefore, AskOneByOne, IsRunInOrder, RunOneByOne, EndForNext, AreStanding}
use Rattle.circus_headline_theory.proofs.One.{no_more}

-- ---- a run

pub asks_rise : (step : ℕ) (asks : List AskRecord) → AskOneByOne step asks → step ≤ step_after step asks
asks_rise step [] so = omega arith
asks_rise step (ask ∷ asks) so = (let on = so.1 in let rest = asks_rise (unwrap_or ask.answered step) asks so.3 in omega (arith, on, rest))

-- it ends when it was started, or later
pub run_rises : (run : RunRecord) → IsRunInOrder run → run.started ≤ unwrap_or run.ended run.started
run_rises run order = by_end run.ended refl
  where
    by_end : (o : Option ℕ) → run.ended ≡ o → run.started ≤ unwrap_or o run.started
    by_end None is = omega arith
    by_end (Some n) is = (let same = order.ended_so n is in let low = asks_rise run.started run.asks order.asks_so in omega (arith, same, low))

-- its asks are made from its start on, and until its last answer
abbrev pub IsAskedIn : ℕ → ℕ → AskRecord → Type 0
IsAskedIn first last ask = (first ≤ ask.asked) × (ask.asked ≤ last)

asks_in : (first step last : ℕ) (asks : List AskRecord) → AskOneByOne step asks → first ≤ step → step_after step asks ≤ last → All (IsAskedIn first last) asks
asks_in first step last [] so low high = All-nil (IsAskedIn first last)
asks_in first step last (ask ∷ asks) so low high =
    let asked = so.0 in
    let on = so.1 in
    let rest = asks_rise (unwrap_or ask.answered step) asks so.3 in
    All-cons (IsAskedIn first last) ask asks (omega (arith, asked, low), omega (arith, asked, on, rest, high))
    (asks_in first (unwrap_or ask.answered step) last asks so.3 (omega (arith, low, on)) high)

pub run_asks_in : (run : RunRecord) → IsRunInOrder run → All (IsAskedIn run.started (step_after run.started run.asks)) run.asks
run_asks_in run order = asks_in run.started run.started (step_after run.started run.asks) run.asks order.asks_so (omega arith) (omega arith)

-- ---- runs

abbrev pub StartsLater : ℕ → RunRecord → Type 0
StartsLater step run = step < run.started

abbrev pub StartsNow : ℕ → RunRecord → Type 0
StartsNow step run = run.started ≡ step

abbrev pub IsGoing : ℕ → RunRecord → Type 0
IsGoing step run = (run.started < step) × IsNotBefore step run.ended

abbrev pub EndedBefore : ℕ → RunRecord → Type 0
EndedBefore step run = IsBefore step run.ended

pub late_runs : (step from : ℕ) (runs : List RunRecord) → RunOneByOne from runs → step < from → All (StartsLater step) runs
late_runs step from [] so late = All-nil (StartsLater step)
late_runs step from (run ∷ runs) so late =
    let low = so.0 in
    let on = run_rises run so.1 in
    All-cons (StartsLater step) run runs (omega (arith, low, late)) (late_runs step (unwrap_or run.ended run.started) runs so.3 (omega (arith, low, late, on)))

-- those from a step on: first those that are started in it
record StartFrom (step : ℕ) (runs : List RunRecord) : Type 0 where
  starting : List RunRecord
  later : List RunRecord
  are : runs ≡ starting ++ later
  start_now : All (StartsNow step) starting
  end_for_next : EndForNext step starting
  start_later : All (StartsLater step) later

-- a run that the next follows in the same step ended in it
ends_for_next : (step : ℕ) (run : RunRecord) (runs : List RunRecord) → (run.ended ≡ None → runs ≡ []) → RunOneByOne (unwrap_or run.ended run.started) runs → IsNotBefore step run.ended
    → (f : StartFrom step runs) → EndForNext step (run ∷ f.starting)
ends_for_next step run runs last so still f = by_next f.starting f.are f.start_now f.end_for_next
  where
    by_end : (next : RunRecord) (rest : List RunRecord) → runs ≡ next ∷ rest → next.started ≡ step → (o : Option ℕ) → run.ended ≡ o → RunOneByOne (unwrap_or o run.started) (next ∷ rest) → IsNotBefore step o → o ≡ Some step
    by_end next rest are at None is one high = absurd (no_more next rest (sym are ∙ last is))
    by_end next rest are at (Some n) is one high = (let low = one.0 in let same : n ≡ step = omega (arith, low, high, at) in ap (λ k. Some k) same)

    by_next : (starting : List RunRecord) → runs ≡ starting ++ f.later → All (StartsNow step) starting → EndForNext step starting → EndForNext step (run ∷ starting)
    by_next [] are now_so ends = tt
    by_next (next ∷ rest) are now_so ends =
        (by_end next (rest ++ f.later) are (now_so 0 next (omega arith)) run.ended refl (subst (RunOneByOne (unwrap_or run.ended run.started)) are so) still, ends)

start_from : (step from : ℕ) (runs : List RunRecord) → RunOneByOne from runs → step ≤ from → StartFrom step runs
start_from step from [] so low = record { starting = []; later = []; are = refl; start_now = All-nil (StartsNow step); end_for_next = tt; start_later = All-nil (StartsLater step) }
start_from step from (run ∷ runs) so low = by_start (start_from step (unwrap_or run.ended run.started) runs so.3) (cases_lt step run.started)
  where
    not_before : (o : Option ℕ) → run.ended ≡ o → run.started ≤ unwrap_or o run.started → step ≤ run.started → IsNotBefore step o
    not_before None is high on = tt
    not_before (Some n) is high on = omega (arith, high, on)

    by_start : (step ≤ unwrap_or run.ended run.started → StartFrom step runs) → (step < run.started) ⊎ (run.started ≤ step) → StartFrom step (run ∷ runs)
    by_start rest (inl late) =
        record {
          starting = [];
          later = run ∷ runs;
          are = refl;
          start_now = All-nil (StartsNow step);
          end_for_next = tt;
          start_later = late_runs step run.started (run ∷ runs) (omega arith, so.1, so.2, so.3) late;
        }
    by_start rest (inr early) =
        let at = so.0 in
        let on = run_rises run so.1 in
        let f = rest (omega (arith, at, on, low)) in
        record {
          starting = run ∷ f.starting;
          later = f.later;
          are = ap (λ l. run ∷ l) f.are;
          start_now = All-cons (StartsNow step) run f.starting (omega (arith, early, at, low)) f.start_now;
          end_for_next = ends_for_next step run runs so.2 so.3 (not_before run.ended refl on (omega (arith, at, low))) f;
          start_later = f.start_later;
        }

-- ---- all of them

pub record Stand (step : ℕ) (runs : List RunRecord) : Type 0 where
  pub before : List RunRecord
  pub going : List RunRecord
  pub starting : List RunRecord
  pub later : List RunRecord
  pub standing : AreStanding step runs before going starting later

pub stand : (step from : ℕ) (runs : List RunRecord) → RunOneByOne from runs → Stand step runs
stand step from [] so =
    record {
      before = [];
      going = [];
      starting = [];
      later = [];
      standing = record { are = refl; ended = All-nil (EndedBefore step); go_on = All-nil (IsGoing step); at_most_one = omega arith; start_now = All-nil (StartsNow step); end_for_next = tt; start_later = All-nil (StartsLater step) };
    }
stand step from (run ∷ runs) so = by_end (stand step (unwrap_or run.ended run.started) runs so.3) (before_or_not run.ended)
  where
    before_or_not : (o : Option ℕ) → IsBefore step o ⊎ IsNotBefore step o
    before_or_not None = inr tt
    before_or_not (Some n) = cases_lt n step

    from_start : StartFrom step (run ∷ runs) → Stand step (run ∷ runs)
    from_start f =
        record {
          before = [];
          going = [];
          starting = f.starting;
          later = f.later;
          standing = record { are = f.are; ended = All-nil (EndedBefore step); go_on = All-nil (IsGoing step); at_most_one = omega arith; start_now = f.start_now; end_for_next = f.end_for_next; start_later = f.start_later };
        }

    goes : run.started < step → IsNotBefore step run.ended → StartFrom step runs → Stand step (run ∷ runs)
    goes early still f =
        record {
          before = [];
          going = run ∷ [];
          starting = f.starting;
          later = f.later;
          standing = record {
            are = ap (λ l. run ∷ l) f.are;
            ended = All-nil (EndedBefore step);
            go_on = All-cons (IsGoing step) run [] (early, still) (All-nil (IsGoing step));
            at_most_one = omega arith;
            start_now = f.start_now;
            end_for_next = ends_for_next step run runs so.2 so.3 still f;
            start_later = f.start_later;
          };
        }

    next_from : (o : Option ℕ) → run.ended ≡ o → IsNotBefore step o → StartFrom step runs
    next_from None is still = subst (StartFrom step) (sym (so.2 is)) (start_from step step [] tt (omega arith))
    next_from (Some n) is still = start_from step n runs (subst (λ o. RunOneByOne (unwrap_or o run.started) runs) is so.3) still

    by_start : IsNotBefore step run.ended → (run.started < step) ⊎ (step ≤ run.started) → Stand step (run ∷ runs)
    by_start still (inl early) = goes early still (next_from run.ended refl still)
    by_start still (inr late) = from_start (start_from step run.started (run ∷ runs) (omega arith, so.1, so.2, so.3) late)

    by_end : Stand step runs → IsBefore step run.ended ⊎ IsNotBefore step run.ended → Stand step (run ∷ runs)
    by_end rest (inl early) =
        let s = rest.standing in
        record {
          before = run ∷ rest.before;
          going = rest.going;
          starting = rest.starting;
          later = rest.later;
          standing = record {
            are = ap (λ l. run ∷ l) s.are;
            ended = All-cons (EndedBefore step) run rest.before early s.ended;
            go_on = s.go_on;
            at_most_one = s.at_most_one;
            start_now = s.start_now;
            end_for_next = s.end_for_next;
            start_later = s.start_later;
          };
        }
    by_end rest (inr still) = by_start still (cases_lt run.started step)

-- ---- as a cursor has them: behind those that ended before, at most one that goes on, and then those that start in the step or later

-- a run whose ask isn't answered before a step has not ended before it
pub goes_on_by_ask : (step : ℕ) (run : RunRecord) (front : List AskRecord) (ask : AskRecord) (rest : List AskRecord) → IsRunInOrder run → run.asks ≡ front ++ ask ∷ rest → IsNotBefore step ask.answered → IsNotBefore step run.ended
goes_on_by_ask step run front ask rest order are still = by_end run.ended refl
  where
    last_of : (from : ℕ) (front : List AskRecord) → AskOneByOne from (front ++ ask ∷ rest) → (m : ℕ) → ask.answered ≡ Some m → m ≤ step_after from (front ++ ask ∷ rest)
    last_of from [] so m is = (let at : unwrap_or ask.answered from ≡ m = ap (λ o. unwrap_or o from) is in let low = asks_rise (unwrap_or ask.answered from) rest so.3 in omega (arith, at, low))
    last_of from (x ∷ front) so m is = last_of (unwrap_or x.answered from) front so.3 m is

    none_answered : (xs : List AskRecord) → All (λ (a : AskRecord). is_none a.answered ≡ false) (xs ++ ask ∷ rest) → is_none ask.answered ≡ false
    none_answered [] all = All-head (λ (a : AskRecord). is_none a.answered ≡ false) ask rest all
    none_answered (x ∷ xs) all = none_answered xs (All-tail (λ (a : AskRecord). is_none a.answered ≡ false) x (xs ++ ask ∷ rest) all)

    by_answer : (n : ℕ) → run.ended ≡ Some n → (o : Option ℕ) → ask.answered ≡ o → is_none o ≡ false → IsNotBefore step o → step ≤ n
    by_answer n is None there some high = absurd (true≢false some)
    by_answer n is (Some m) there some high =
        let same = order.ended_so n is in
        let low = last_of run.started front (subst (AskOneByOne run.started) are order.asks_so) m there in
        let whole : step_after run.started run.asks ≡ step_after run.started (front ++ ask ∷ rest) = ap (step_after run.started) are in
        omega (arith, same, low, whole, high)

    by_end : (o : Option ℕ) → run.ended ≡ o → IsNotBefore step o
    by_end None is = tt
    by_end (Some n) is =
        by_answer n is ask.answered refl (none_answered front (subst (All (λ (a : AskRecord). is_none a.answered ≡ false)) are (order.answered_so n is))) still
