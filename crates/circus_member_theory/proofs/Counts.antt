-- A clock of the history of a program never counts more calls than a thread makes.
use Rattle.std.proofs.Common.{◌≡◌, ℕ, zero, suc, ◌+◌, ◌<◌, ◌≤◌, Bool, true, false, List, [], ◌∷◌, ◌++◌, length, take, get_or, length-set, ◌⊎◌, Some, inl, inr, refl, sym, ap, subst, ◌∙◌, arith}
use Rattle.std.specs.Prelude.{slice_get, slice_index, slice_set}
use Rattle.std.proofs.lemmas.Bool.{cases_eq, cases_lt}
use Rattle.std.proofs.lemmas.List.{get_or-set_same, get_or-set_other, get_or_past, take_all}
use Rattle.std.proofs.lemmas.Option.{same_Some, get_or_from_slice_get}
use Rattle.std.proofs.Math.Seq.{take-suc}
use Rattle.circus_limits.specs.Limits.{most_calls}
use Rattle.circus_model.specs.declared.history.Ask.{Ask}
use Rattle.circus_model.specs.declared.history.Run.{Run}
use Rattle.circus_model.specs.Behaviour.{Behaviour}
use Rattle.circus_model.specs.Agree.{IsAt, AreModules, Agree}
use Rattle.circus_model.specs.Execution.{is_spent, history_of}
use Rattle.circus_model.specs.History.{run_at, current_clock, clock_before, IsMadeBy}
use Rattle.circus_model.proofs.Lookups.{within}
use Rattle.circus_model.proofs.Counting.{clock_after_more}
use Rattle.circus_model.proofs.Logging.{some_and}
use Rattle.circus_model.proofs.Histories.{in_history, maker_of, root_runs_once}
use Rattle.circus_member_theory.proofs.Histories.{counts_are_few}

-- no entry counts more
abbrev pub IsFew : List ℕ → Type 0
IsFew clock = (entry : ℕ) → slice_index clock entry ≤ most_calls

-- one call more is counted
counted_few : (clock : List ℕ) (callee : ℕ) → is_spent clock ≡ false → IsFew (slice_set clock callee (slice_index clock callee + 1))
counted_few clock callee left entry =
    elim (cases_eq entry callee) [
      | inl same ↦ elim (cases_lt callee (length clock)) [
        | inl within ↦
            let now : slice_index (slice_set clock callee (slice_index clock callee + 1)) callee ≡ slice_index clock callee + 1 =
            get_or-set_same clock callee (slice_index clock callee + 1) 0 within in
            let less = counts_are_few clock left callee in
            subst (λ e. slice_index (slice_set clock callee (slice_index clock callee + 1)) e ≤ most_calls) (sym same) (omega (arith, now, less))
        | inr past ↦
            let none = get_or_past (slice_set clock callee (slice_index clock callee + 1)) entry 0
            (omega (arith, same, past, length-set clock callee (slice_index clock callee + 1))) in
            omega (arith, none)
      ]
      | inr other ↦
          let now : slice_index (slice_set clock callee (slice_index clock callee + 1)) entry ≡ slice_index clock entry =
          get_or-set_other clock callee entry (slice_index clock callee + 1) 0 other in
          let less = counts_are_few clock left entry in
          omega (arith, now, less)
    ]

-- what stands in a list of one run is that
alone_is : (one run : Run) (index : ℕ) → slice_get (one ∷ []) index ≡ Some run → one ≡ run
alone_is one run zero at = same_Some one run at
alone_is one run (suc index) at = cc

module _ (program : List Behaviour) (agree : Agree program) (lawful : AreModules program) where
  entry_few : (place index : ℕ) (run : Run) → run_at (history_of program) place index ≡ Some run → IsFew run.entry
  entry_few place index run at =
      let i = in_history program agree lawful place index run at in
      by_root i.logged.behaviour i.logged.there i.logged.behaviour.declared.root refl
    where
      by_root : (b : Behaviour) → IsAt program place b → (root : Bool) → b.declared.root ≡ root → IsFew run.entry
      by_root b there true is =
          let once = root_runs_once program agree lawful place b there is in
          let same : once.0 ≡ run = alone_is once.0 run index (subst (λ (runs : List Run). slice_get runs index ≡ Some run) once.1.0 at) in
          λ entry. let none : slice_index run.entry entry ≡ 0 = subst (λ (r : Run). slice_index r.entry entry ≡ 0) same (once.1.1.clock_zero entry) in omega (arith, none)
      by_root b there false is =
          let m = maker_of program agree lawful place index run b at there is in
          let c = in_history program agree lawful m.caller_place m.caller_index m.caller m.caller_is in
          let before = clock_before m.caller m.number in
          let answered = c.logged.answered m.number m.ask m.ask_is in
          let made = some_and (run_at (history_of program) m.ask.callee m.ask.index) (IsMadeBy c.root (m.caller.path ++ m.number ∷ []) before m.ask)
          (answered.makes m.not_spent) in
          let here : run_at (history_of program) place index ≡ Some made.0 =
          subst (λ p. run_at (history_of program) p index ≡ Some made.0) m.callee
          (subst (λ j. run_at (history_of program) m.ask.callee j ≡ Some made.0) m.index_is made.1.0) in
          let same : made.0 ≡ run = same_Some made.0 run (sym here ∙ at) in
          let entry : run.entry ≡ slice_set before m.ask.callee (slice_index before m.ask.callee + 1) =
          ap (λ (r : Run). r.entry) (sym same) ∙ made.1.1.entry ∙ ap (λ n. slice_set before m.ask.callee (n + 1)) answered.index in
          subst IsFew (sym entry) (counted_few before m.ask.callee m.not_spent)

  -- before each of its asks, and at its end
  few_below : (bound place index : ℕ) (run : Run) → place < bound → run_at (history_of program) place index ≡ Some run → (number : ℕ) → IsFew (clock_before run number)
  few_below zero place index run low at number = absurd (omega arith)
  few_below (suc bound) place index run low at zero = entry_few place index run at
  few_below (suc bound) place index run low at (suc number) =
      by_place (few_below (suc bound) place index run low at number) (few_below bound) (cases_lt number (length run.asks))
    where
      by_spent : IsFew (clock_before run number) → ((p i : ℕ) (r : Run) → p < bound → run_at (history_of program) p i ≡ Some r → (n : ℕ) → IsFew (clock_before r n))
          → (ask : Ask) → slice_get run.asks number ≡ Some ask → (spent : Bool) → is_spent (clock_before run number) ≡ spent → IsFew ask.after
      by_spent so_far deeper ask there true is =
          let logged = (in_history program agree lawful place index run at).logged in
          subst IsFew (sym ((logged.answered number ask there).refused is).after) so_far
      by_spent so_far deeper ask there false is =
          let i = in_history program agree lawful place index run at in
          let answered = i.logged.answered number ask there in
          let made = some_and (run_at (history_of program) ask.callee ask.index) (IsMadeBy i.root (run.path ++ number ∷ []) (clock_before run number) ask)
          (answered.makes is) in
          let below = i.logged.calls number ask there in
          let r = made.0 in
          let grows = (in_history program agree lawful ask.callee ask.index r made.1.0).logged.grows in
          let whole : clock_before r (length r.asks) ≡ r.end = ap (current_clock r.entry) (take_all (length r.asks) r.asks (omega arith)) ∙ sym grows.end in
          subst IsFew (whole ∙ made.1.1.end) (deeper ask.callee ask.index r (omega (arith, below, low)) made.1.0 (length r.asks))

      by_place : IsFew (clock_before run number) → ((p i : ℕ) (r : Run) → p < bound → run_at (history_of program) p i ≡ Some r → (n : ℕ) → IsFew (clock_before r n))
          → (number < length run.asks) ⊎ (length run.asks ≤ number) → IsFew (clock_before run (suc number))
      by_place so_far deeper (inl less) =
          let there = within run.asks number less in
          let ask = there.0 in
          let is : get_or run.asks number ask ≡ ask = get_or_from_slice_get run.asks number ask ask there.1 in
          let more : take (suc number) run.asks ≡ take number run.asks ++ ask ∷ [] = take-suc run.asks number ask less ∙ ap (λ (x : Ask). take number run.asks ++ x ∷ []) is in
          let now : clock_before run (suc number) ≡ ask.after = ap (current_clock run.entry) more ∙ clock_after_more run.entry (take number run.asks) ask in
          subst IsFew (sym now) (by_spent so_far deeper ask there.1 (is_spent (clock_before run number)) refl)
      by_place so_far deeper (inr past) =
          let now : clock_before run (suc number) ≡ clock_before run number =
          ap (current_clock run.entry) (take_all (suc number) run.asks (omega arith) ∙ sym (take_all number run.asks past)) in
          subst IsFew (sym now) so_far

  pub end_few : (place index : ℕ) (run : Run) → run_at (history_of program) place index ≡ Some run → IsFew run.end
  end_few place index run at =
      let grows = (in_history program agree lawful place index run at).logged.grows in
      let whole : clock_before run (length run.asks) ≡ run.end = ap (current_clock run.entry) (take_all (length run.asks) run.asks (omega arith)) ∙ sym grows.end in
      subst IsFew whole (few_below (suc place) place index run (omega arith) at (length run.asks))
