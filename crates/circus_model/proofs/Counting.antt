-- The clock of a thread counts its runs, call by call.
use Rattle.std.proofs.Common.{◌≡◌, ℕ, zero, suc, ◌+◌, ◌<◌, ◌≤◌, false, List, [], ◌∷◌, ◌++◌, length, set, get_or, Some, refl, ap, sym, ◌∙◌, ◌⊎◌, ◌≢◌, inl, inr, arith, length-append, get_or-set_same, get_or-set_other}
use Rattle.std.specs.Prelude.{slice_index}
use Rattle.std.proofs.lemmas.Bool.{cases_eq, cases_lt}
use Rattle.circus_value.specs.ValueTree.{ValueTree}
use Rattle.circus_value.specs.declared.outcome.Outcome.{Outcome}
use Rattle.circus_model.specs.declared.history.Ask.{Ask}
use Rattle.circus_model.specs.declared.history.Run.{Run}
use Rattle.circus_model.specs.Behaviour.{Behaviour}
use Rattle.circus_model.specs.Execution.{Thread, Order, Performed, store_state, count_call, run_of, record_run}
use Rattle.circus_model.specs.History.{runs_of, run_at, current_clock, IsEarlier}
use Rattle.circus_model.proofs.Lookups.{grown}

-- ---- runs that are noted

-- each run that was there is there
abbrev pub Extends : List (List Run) → List (List Run) → Type 0
Extends before after = (place index : ℕ) (run : Run) → run_at before place index ≡ Some run → run_at after place index ≡ Some run

-- the runs with one more of a module
abbrev pub with_run : List (List Run) → ℕ → Run → List (List Run)
with_run runs place run = set runs place (get_or runs place [] ++ run ∷ [])

pub runs-noted_there : (runs : List (List Run)) (place : ℕ) (run : Run) → place < length runs → runs_of (with_run runs place run) place ≡ runs_of runs place ++ run ∷ []
runs-noted_there runs place run within = get_or-set_same runs place _ [] within

pub runs-noted_elsewhere : (runs : List (List Run)) (place k : ℕ) (run : Run) → k ≢ place → runs_of (with_run runs place run) k ≡ runs_of runs k
runs-noted_elsewhere runs place k run other = get_or-set_other runs place k _ [] other

pub noted_extends : (runs : List (List Run)) (place : ℕ) (run : Run) → place < length runs → Extends runs (with_run runs place run)
noted_extends runs place run within k index x h = by_place (cases_eq k place)
  where
    by_place : (k ≡ place) ⊎ (k ≢ place) → run_at (with_run runs place run) k index ≡ Some x
    by_place (inl same) = rw (same, runs-noted_there runs place run within) (grown (runs_of runs place) (run ∷ []) index x (rw same at h))
    by_place (inr other) = rw (runs-noted_elsewhere runs place k run other) h

-- ---- clocks

pub earlier_then : (a b c : List ℕ) → IsEarlier a b → IsEarlier b c → IsEarlier a c
earlier_then a b c one other place = omega (arith, one place, other place)

-- a count that rises
pub count_rises : (clock : List ℕ) (place : ℕ) → IsEarlier clock (set clock place (get_or clock place 0 + 1))
count_rises [] place k = omega arith
count_rises (n ∷ clock) zero zero = omega arith
count_rises (n ∷ clock) zero (suc k) = omega arith
count_rises (n ∷ clock) (suc place) zero = omega arith
count_rises (n ∷ clock) (suc place) (suc k) = count_rises clock place k

-- the clock after one ask more
pub clock_after_more : (entry : List ℕ) (made : List Ask) (ask : Ask) → current_clock entry (made ++ ask ∷ []) ≡ ask.after
clock_after_more entry [] ask = refl
clock_after_more entry (x ∷ made) ask = clock_after_more x.after made ask

-- ---- what is kept

-- as a call begins, its module and those before it have as many calls as runs, and the call itself
pub record CountsIn (o : Order) (b : Behaviour) (t : Thread) : Type 0 where
  pub below : (k : ℕ) → k < o.callee → slice_index t.clock k ≡ length (runs_of t.runs k)
  pub own : b.declared.root ≡ false → slice_index t.clock o.callee ≡ length (runs_of t.runs o.callee) + 1

-- between two threads nothing was done at a place and those behind it
pub record IsStill (from : ℕ) (t u : Thread) : Type 0 where
  pub clock : (k : ℕ) → from ≤ k → slice_index u.clock k ≡ slice_index t.clock k
  pub runs : (k : ℕ) → from ≤ k → runs_of u.runs k ≡ runs_of t.runs k

-- while a run is under way
pub record Counts (o : Order) (b : Behaviour) (t : Thread) (made : List Ask) (u : Thread) : Type 0 where
  pub below : (k : ℕ) → k < o.callee → slice_index u.clock k ≡ length (runs_of u.runs k)
  pub still : IsStill o.callee t u
  pub extends : Extends t.runs u.runs
  pub grows : IsEarlier t.clock u.clock
  pub clock : u.clock ≡ current_clock t.clock made

-- a run with what was ordered
pub record IsRunOf (o : Order) (t : Thread) (p : Performed) (run : Run) : Type 0 where
  pub root : run.root ≡ o.root
  pub path : run.path ≡ o.path
  pub procedure : run.procedure ≡ o.procedure
  pub arguments : run.arguments ≡ o.arguments
  pub entry : run.entry ≡ t.clock
  pub outcome : run.outcome ≡ p.outcome
  pub end : run.end ≡ p.thread.clock

-- as a call ends
pub record CountsOut (o : Order) (b : Behaviour) (t : Thread) (p : Performed) : Type 0 where
  pub run : Run
  pub is_run : IsRunOf o t p run
  pub below : (k : ℕ) → k < o.callee → slice_index p.thread.clock k ≡ length (runs_of p.thread.runs k)
  pub own_clock : slice_index p.thread.clock o.callee ≡ slice_index t.clock o.callee
  pub own_runs : runs_of p.thread.runs o.callee ≡ runs_of t.runs o.callee ++ run ∷ []
  pub still : IsStill (suc o.callee) t p.thread
  pub extends : Extends t.runs p.thread.runs
  pub grows : IsEarlier t.clock p.thread.clock

-- ---- each step keeps it

pub counts_refuse : (o : Order) (b : Behaviour) (t u : Thread) (made : List Ask) (v : List ValueTree) (ask : Ask) → ask.after ≡ u.clock → Counts o b t made u → Counts o b t (made ++ ask ∷ []) (store_state u o.callee v)
counts_refuse o b t u made v ask after h =
    record {
      below = h.below;
      still = record { clock = h.still.clock; runs = h.still.runs };
      extends = h.extends;
      grows = h.grows;
      clock = sym (clock_after_more t.clock made ask ∙ after);
    }

pub counts_call : (o : Order) (b d : Behaviour) (t u : Thread) (made : List Ask) (asked : Order) (v : List ValueTree) → asked.callee < o.callee → asked.callee < length u.clock → Counts o b t made u → CountsIn asked d (count_call (store_state u o.callee v) asked.callee)
counts_call o b d t u made asked v earlier within h =
    record {
      below = λ k below.
          let other : k ≢ asked.callee = omega (arith, below) in
          get_or-set_other u.clock asked.callee k _ 0 other ∙ h.below k (omega (arith, below, earlier));
      own = λ _. get_or-set_same u.clock asked.callee _ 0 within ∙ ap (λ n. n + 1) (h.below asked.callee earlier);
    }

pub counts_reply : (o : Order) (b d : Behaviour) (t u : Thread) (made : List Ask) (asked : Order) (v : List ValueTree) (p : Performed) (ask : Ask) → asked.callee < o.callee → asked.callee < length u.clock → ask.after ≡ p.thread.clock → Counts o b t made u → CountsOut asked d (count_call (store_state u o.callee v) asked.callee) p → Counts o b t (made ++ ask ∷ []) p.thread
counts_reply o b d t u made asked v p ask earlier within after h out =
    record {
      below = λ k below. by_place k below (cases_lt k asked.callee) (cases_eq k asked.callee);
      still = record {
        clock = λ k from. behind_clock k (omega (arith, from, earlier)) ∙ h.still.clock k from;
        runs = λ k from. out.still.runs k (omega (arith, from, earlier)) ∙ h.still.runs k from;
      };
      extends = λ k index run at. out.extends k index run (h.extends k index run at);
      grows = earlier_then t.clock u.clock p.thread.clock h.grows (earlier_then u.clock _ p.thread.clock (count_rises u.clock asked.callee) out.grows);
      clock = sym (clock_after_more t.clock made ask ∙ after);
    }
  where
    behind_clock : (k : ℕ) → asked.callee < k → slice_index p.thread.clock k ≡ slice_index u.clock k
    behind_clock k behind =
        let other : k ≢ asked.callee = omega (arith, behind) in
        out.still.clock k behind ∙ get_or-set_other u.clock asked.callee k _ 0 other

    own : slice_index p.thread.clock asked.callee ≡ length (runs_of p.thread.runs asked.callee)
    own =
        let one_more = out.own_clock ∙ get_or-set_same u.clock asked.callee _ 0 within ∙ ap (λ n. n + 1) (h.below asked.callee earlier) in
        one_more ∙ sym (ap length out.own_runs ∙ length-append (runs_of u.runs asked.callee) (out.run ∷ []))

    by_place : (k : ℕ) → k < o.callee → (k < asked.callee) ⊎ (asked.callee ≤ k) → (k ≡ asked.callee) ⊎ (k ≢ asked.callee) → slice_index p.thread.clock k ≡ length (runs_of p.thread.runs k)
    by_place k below (inl before) _ = out.below k before
    by_place k below (inr from) (inl same) = rw same own
    by_place k below (inr from) (inr other) =
        let behind : asked.callee < k = omega (arith, from, other) in
        behind_clock k behind ∙ h.below k below ∙ ap length (sym (out.still.runs k behind))

pub counts_end : (o : Order) (b : Behaviour) (t u : Thread) (made : List Ask) (outcome : Outcome) (v : List ValueTree) → o.callee < length u.runs → Counts o b t made u → CountsOut o b t (record_run o t (record { thread = store_state u o.callee v; made = made; outcome = outcome }))
counts_end o b t u made outcome v within h =
    let run = run_of o t (record { thread = store_state u o.callee v; made = made; outcome = outcome }) in
    record {
      run = run;
      is_run = record { root = refl; path = refl; procedure = refl; arguments = refl; entry = refl; outcome = refl; end = refl };
      below = λ k below.
          let other : k ≢ o.callee = omega (arith, below) in
          h.below k below ∙ ap length (sym (runs-noted_elsewhere u.runs o.callee k run other));
      own_clock = h.still.clock o.callee (omega arith);
      own_runs = runs-noted_there u.runs o.callee run within ∙ ap (λ runs. runs ++ run ∷ []) (h.still.runs o.callee (omega arith));
      still = record {
        clock = λ k from. h.still.clock k (omega (arith, from));
        runs = λ k from.
            let other : k ≢ o.callee = omega (arith, from) in
            runs-noted_elsewhere u.runs o.callee k run other ∙ h.still.runs k (omega (arith, from));
      };
      extends = λ k index x at. noted_extends u.runs o.callee run within k index x (h.extends k index x at);
      grows = h.grows;
    }
