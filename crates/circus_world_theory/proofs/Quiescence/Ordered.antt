-- Where a member goes on whenever it may, the whole history is performed: by the clocks of its runs, and by their modules where these are equal.
use Rattle.std.proofs.Common.{◌≡◌, ℕ, zero, suc, ◌+◌, ◌-◌, ◌<◌, ◌≤◌, Bool, true, false, List, [], ◌∷◌, length, take, set, sum, get_or, Option, None, Some, refl, sym, ap, subst, ◌∙◌, arith}
use Rattle.std.specs.Prelude.{slice_get}
use Rattle.std.proofs.lemmas.List.Sums.{sum_by-cons, sum_by-set}
use Rattle.std.proofs.lemmas.Option.{same_Some, slice_get_within}
use Rattle.circus_model.specs.declared.history.Ask.{Ask}
use Rattle.circus_model.specs.declared.history.Run.{Run}
use Rattle.circus_model.specs.Behaviour.{Behaviour}
use Rattle.circus_model.specs.Agree.{IsAt, IsRoot, AreModules, Agree}
use Rattle.circus_model.specs.Execution.{is_spent, history_of}
use Rattle.circus_model.specs.History.{runs_of, run_at, current_clock, clock_before, IsEarlier, ClockGrows, HasMaker}
use Rattle.circus_model.proofs.Lookups as lookups
use Rattle.circus_model.proofs.Logging.{some_and, IsLogged}
use Rattle.circus_model.proofs.Histories.{in_history, maker_of, root_runs_once}

-- ---- sums of clocks

sum_cons : (x : ℕ) (xs : List ℕ) → sum (x ∷ xs) ≡ x + sum xs
sum_cons x xs = sum_by-cons (λ (n : ℕ). n) x xs

sum_rises : (a b : List ℕ) → length a ≡ length b → IsEarlier a b → sum a ≤ sum b
sum_rises [] [] same rises = omega arith
sum_rises [] (y ∷ b) same rises = absurd (omega (arith, same))
sum_rises (x ∷ a) [] same rises = absurd (omega (arith, same))
sum_rises (x ∷ a) (y ∷ b) same rises =
    let first : x ≤ y = rises 0 in
    let rest = sum_rises a b (omega (arith, same)) (λ k. rises (suc k)) in
    omega (arith, first, rest, sum_cons x a, sum_cons y b)

sum_grows : (a b : List ℕ) (k : ℕ) → length a ≡ length b → IsEarlier a b → get_or a k 0 < get_or b k 0 → sum a < sum b
sum_grows [] [] k same rises less = absurd (omega (arith, less))
sum_grows [] (y ∷ b) k same rises less = absurd (omega (arith, same))
sum_grows (x ∷ a) [] k same rises less = absurd (omega (arith, same))
sum_grows (x ∷ a) (y ∷ b) zero same rises less =
    let rest = sum_rises a b (omega (arith, same)) (λ k. rises (suc k)) in
    omega (arith, less, rest, sum_cons x a, sum_cons y b)
sum_grows (x ∷ a) (y ∷ b) (suc k) same rises less =
    let first : x ≤ y = rises 0 in
    let rest = sum_grows a b k (omega (arith, same)) (λ j. rises (suc j)) less in
    omega (arith, first, rest, sum_cons x a, sum_cons y b)

sum_counted : (a : List ℕ) (k n : ℕ) → k < length a → get_or a k 0 ≡ n → sum (set a k (n + 1)) ≡ sum a + 1
sum_counted a k n less is = (let e = sum_by-set (λ (x : ℕ). x) a k (n + 1) 0 less in omega (arith, e, is))

set_count : (a : List ℕ) (k n : ℕ) → k < length a → get_or (set a k n) k 0 ≡ n
set_count [] k n less = absurd (omega (arith, less))
set_count (x ∷ a) zero n less = refl
set_count (x ∷ a) (suc k) n less = set_count a k n (omega (arith, less))

-- ---- a run's clock

earlier_same : (a : List ℕ) → IsEarlier a a
earlier_same a k = omega arith

earlier_then : (a b c : List ℕ) → IsEarlier a b → IsEarlier b c → IsEarlier a c
earlier_then a b c f g k = (let p = f k in let q = g k in omega (arith, p, q))

-- the clock behind an ask
clock_behind : (entry : List ℕ) (asks : List Ask) (number : ℕ) (ask : Ask) → slice_get asks number ≡ Some ask → current_clock entry (take (suc number) asks) ≡ ask.after
clock_behind entry [] number ask is = absurd (let clash : ◌≡◌ {A = Option Ask} None (Some ask) = is in cc)
clock_behind entry (a ∷ asks) zero ask is = ap (λ (x : Ask). x.after) (same_Some a ask is)
clock_behind entry (a ∷ asks) (suc number) ask is = clock_behind a.after asks number ask is

clock_whole : (entry : List ℕ) (asks : List Ask) → current_clock entry (take (length asks) asks) ≡ current_clock entry asks
clock_whole entry [] = refl
clock_whole entry (a ∷ asks) = clock_whole a.after asks

module _ (modules : ℕ) (run : Run) (grows : ClockGrows modules run) where
  clock_length : (number : ℕ) → number ≤ length run.asks → length (clock_before run number) ≡ modules
  clock_length zero le = grows.entry_length
  clock_length (suc number) le =
      let ask = lookups.within run.asks number le in
      ap length (clock_behind run.entry run.asks number ask.0 ask.1) ∙ grows.after_length number ask.0 ask.1

  -- it rises with each ask
  clock_rises : (number more : ℕ) → number + more ≤ length run.asks → IsEarlier (clock_before run number) (clock_before run (number + more))
  clock_rises number zero le = (let same : number ≡ number + 0 = omega arith in subst (λ n. IsEarlier (clock_before run number) (clock_before run n)) same (earlier_same _))
  clock_rises number (suc more) le =
      let at : number + more < length run.asks = omega (arith, le) in
      let ask = lookups.within run.asks (number + more) at in
      let same : suc (number + more) ≡ number + suc more = omega arith in
      subst (λ n. IsEarlier (clock_before run number) (clock_before run n)) same
      (subst (IsEarlier (clock_before run number)) (sym (clock_behind run.entry run.asks (number + more) ask.0 ask.1))
      (earlier_then _ _ _ (clock_rises number more (omega (arith, at))) (grows.with_asks (number + more) ask.0 ask.1)))

  rises_from : (later : ℕ) → later ≤ length run.asks → IsEarlier run.entry (clock_before run later)
  rises_from later le = (let same : 0 + later ≡ later = omega arith in subst (λ n. IsEarlier run.entry (clock_before run n)) same (clock_rises 0 later (omega (arith, le))))

  end_is : run.end ≡ clock_before run (length run.asks)
  end_is = grows.end ∙ sym (clock_whole run.entry run.asks)

  -- an ask's clock is not above that before a later one
  pub after_within : (number later : ℕ) (ask : Ask) → slice_get run.asks number ≡ Some ask → number < later → later ≤ length run.asks → sum ask.after ≤ sum (clock_before run later)
  after_within number later ask is less le =
      let same : suc number + (later - suc number) ≡ later = omega (arith, less) in
      let rises = subst (λ n. IsEarlier (clock_before run (suc number)) (clock_before run n)) same (clock_rises (suc number) (later - suc number) (omega (arith, le, less))) in
      let behind = clock_behind run.entry run.asks number ask is in
      sum_rises ask.after (clock_before run later)
      (grows.after_length number ask is ∙ sym (clock_length later le))
      (subst (λ c. IsEarlier c (clock_before run later)) behind rises)

  pub entry_within : (later : ℕ) → later ≤ length run.asks → sum run.entry ≤ sum (clock_before run later)
  entry_within later le =
      sum_rises run.entry (clock_before run later) (grows.entry_length ∙ sym (clock_length later le)) (rises_from later le)

  pub end_sum : sum run.end ≡ sum (clock_before run (length run.asks))
  end_sum = ap sum end_is

  pub end_length : length run.end ≡ modules
  end_length = ap length end_is ∙ clock_length (length run.asks) (omega arith)

  pub entry_earlier : IsEarlier run.entry run.end
  entry_earlier = subst (IsEarlier run.entry) (sym end_is) (rises_from (length run.asks) (omega arith))

-- ---- the history

module _ (program : List Behaviour) (agree : Agree program) (are : AreModules program) (Answered : ℕ → ℕ → ℕ → Type 0) (Ended : ℕ → ℕ → Type 0) where
  -- a run goes on whenever it may: a root's at once; another one once its ask is made and the runs before have ended; each ask's reply comes once
  -- its run has ended, or at once where the thread was spent; and a run whose asks all have replies ends
  pub record GoesOn : Type 0 where
    pub roots : (place : ℕ) → IsRoot program place → Answered place 0 0
    pub starts : (place index : ℕ) (b : Behaviour) (run : Run) → IsAt program place b → b.declared.root ≡ false → run_at (history_of program) place index ≡ Some run
        → (m : HasMaker (history_of program) place index) → Answered m.caller_place m.caller_index m.number → ((earlier : ℕ) → earlier < index → Ended place earlier) → Answered place index 0
    pub replies : (place index number : ℕ) (run : Run) (ask : Ask) → run_at (history_of program) place index ≡ Some run → slice_get run.asks number ≡ Some ask
        → Answered place index number → (is_spent (clock_before run number) ≡ false → Ended ask.callee ask.index) → Answered place index (suc number)
    pub ends : (place index : ℕ) (run : Run) → run_at (history_of program) place index ≡ Some run → Answered place index (length run.asks) → Ended place index

  module _ (on : GoesOn) where
    logged : (place index : ℕ) (run : Run) → run_at (history_of program) place index ≡ Some run → (root : ℕ) × IsLogged program root (history_of program) place index run
    logged place index run is = (let h = in_history program agree are place index run is in (h.root, h.logged))

    -- a module's runs up to a sum of clocks are entered and ended
    record Is (S place : ℕ) : Type 0 where
      entered : (index : ℕ) (run : Run) → run_at (history_of program) place index ≡ Some run → sum run.entry ≤ S → Answered place index 0
      ended : (index : ℕ) (run : Run) → run_at (history_of program) place index ≡ Some run → sum run.end ≤ S → Ended place index

    -- where the runs that asks made have ended, they have their replies
    answered_to : (place index : ℕ) (run : Run) → run_at (history_of program) place index ≡ Some run → Answered place index 0 → (number : ℕ) → number ≤ length run.asks
        → ((k : ℕ) (ask : Ask) → k < number → slice_get run.asks k ≡ Some ask → is_spent (clock_before run k) ≡ false → Ended ask.callee ask.index) → Answered place index number
    answered_to place index run is begun zero le each = begun
    answered_to place index run is begun (suc number) le each =
        let ask = lookups.within run.asks number le in
        on.replies place index number run ask.0 is ask.1
        (answered_to place index run is begun number (omega (arith, le)) (λ k a less at. each k a (omega (arith, less)) at))
        (each number ask.0 (omega arith) ask.1)

    -- the run that an ask made
    made : (place index number : ℕ) (run : Run) (ask : Ask) → run_at (history_of program) place index ≡ Some run → slice_get run.asks number ≡ Some ask → is_spent (clock_before run number) ≡ false
        → (callee : Run) × (run_at (history_of program) ask.callee ask.index ≡ Some callee) × (callee.end ≡ ask.after) × (callee.entry ≡ set (clock_before run number) ask.callee (ask.index + 1)) × (ask.callee < place)
    made place index number run ask is at left =
        let l = (logged place index run is).1 in
        let r = some_and (run_at (history_of program) ask.callee ask.index) _ ((l.answered number ask at).makes left) in
        (r.0, r.1.0, r.1.1.end, r.1.1.entry, l.calls number ask at)

    -- ---- up to a sum, where this is so below it, and at it for the modules before

    module _ (S place : ℕ) (below : (s : ℕ) → s < S → (p : ℕ) → Is s p) (before : (p : ℕ) → p < place → Is S p) where
      -- the asks of a run have their replies, up to the sum
      all_answered : (index : ℕ) (run : Run) → run_at (history_of program) place index ≡ Some run → sum run.end ≤ S → Answered place index 0 → Ended place index
      all_answered index run is low begun =
          let l = (logged place index run is).1 in
          on.ends place index run is
          (answered_to place index run is begun (length run.asks) (omega arith)
          (λ k ask less at left.
          let m = made place index k run ask is at left in
          let within = after_within (length program) run l.grows k (length run.asks) ask at less (omega arith) in
          let end = end_sum (length program) run l.grows in
          let same : sum m.0.end ≡ sum ask.after = ap sum m.2 in
          (before ask.callee m.4).ended ask.index m.0 m.1 (omega (arith, within, end, same, low))))

      -- a run that was asked for
      module _ (index : ℕ) (run : Run) (b : Behaviour) (is : run_at (history_of program) place index ≡ Some run) (low : sum run.entry ≤ S) (at : IsAt program place b) (no_root : b.declared.root ≡ false) (maker : HasMaker (history_of program) place index) where
        abbrev clock : List ℕ
        clock = clock_before maker.caller maker.number

        within_asks : maker.number < length maker.caller.asks
        within_asks = slice_get_within maker.caller.asks maker.number maker.ask maker.ask_is

        caller_grows : ClockGrows (length program) maker.caller
        caller_grows = (logged maker.caller_place maker.caller_index maker.caller maker.caller_is).1.grows

        own : (root : ℕ) × IsLogged program root (history_of program) place index run
        own = logged place index run is

        this_is : run.entry ≡ set clock place (index + 1)
        this_is =
            let m = made maker.caller_place maker.caller_index maker.number maker.caller maker.ask maker.caller_is maker.ask_is maker.not_spent in
            let found : run_at (history_of program) place index ≡ Some m.0 = subst (λ p. run_at (history_of program) p index ≡ Some m.0) maker.callee (subst (λ i. run_at (history_of program) maker.ask.callee i ≡ Some m.0) maker.index_is m.1) in
            let same : m.0 ≡ run = same_Some m.0 run (sym found ∙ is) in
            ap (λ (x : Run). x.entry) (sym same) ∙ m.3 ∙ ap (λ p. set clock p (maker.ask.index + 1)) maker.callee ∙ ap (λ i. set clock place (i + 1)) maker.index_is

        count_is : get_or clock place 0 ≡ index
        count_is =
            let answered = (logged maker.caller_place maker.caller_index maker.caller maker.caller_is).1.answered maker.number maker.ask maker.ask_is in
            ap (get_or clock place) refl ∙ subst (λ p. get_or clock p 0 ≡ index) maker.callee (sym answered.index ∙ maker.index_is)

        place_within : place < length program
        place_within = slice_get_within program place b at

        -- the clock before the ask is one less
        sum_before : sum run.entry ≡ sum clock + 1
        sum_before =
            let long = clock_length (length program) maker.caller caller_grows maker.number (omega (arith, within_asks)) in
            ap sum this_is ∙ sum_counted clock place index (omega (arith, long, place_within)) count_is

        -- the caller has made the ask
        caller_there : Answered maker.caller_place maker.caller_index maker.number
        caller_there =
            let entry = entry_within (length program) maker.caller caller_grows maker.number (omega (arith, within_asks)) in
            let sums = sum_before in
            answered_to maker.caller_place maker.caller_index maker.caller maker.caller_is
            ((below (sum clock) (omega (arith, sums, low)) maker.caller_place).entered maker.caller_index maker.caller maker.caller_is entry)
            maker.number (omega (arith, within_asks))
            (λ k ask less ask_at left.
            let m = made maker.caller_place maker.caller_index k maker.caller ask maker.caller_is ask_at left in
            let within = after_within (length program) maker.caller caller_grows k maker.number ask ask_at less (omega (arith, within_asks)) in
            let same : sum m.0.end ≡ sum ask.after = ap sum m.2 in
            (below (sum clock) (omega (arith, sums, low)) ask.callee).ended ask.index m.0 m.1 (omega (arith, within, same)))

        -- the runs before have ended
        earlier_ended : (earlier : ℕ) → earlier < index → Ended place earlier
        earlier_ended earlier less =
            let one = lookups.within (runs_of (history_of program) place) earlier (omega (arith, less, slice_get_within (runs_of (history_of program) place) index run is)) in
            let l = logged place earlier one.0 one.1 in
            let long = clock_length (length program) maker.caller caller_grows maker.number (omega (arith, within_asks)) in
            let between = own.1.after_others earlier one.0 less one.1 in
            let up = earlier_then one.0.entry one.0.end run.entry (entry_earlier (length program) one.0 l.1.grows) between in
            let there : b ≡ l.1.behaviour = same_Some b l.1.behaviour (sym at ∙ l.1.there) in
            let count : get_or one.0.entry place 0 ≡ earlier + 1 = l.1.numbered (ap (λ (x : Behaviour). x.declared.root) (sym there) ∙ no_root) in
            let count_here : get_or run.entry place 0 ≡ index + 1 = ap (λ c. get_or c place 0) this_is ∙ set_count clock place (index + 1) (omega (arith, long, place_within)) in
            let fewer = sum_grows one.0.entry run.entry place (l.1.grows.entry_length ∙ sym own.1.grows.entry_length) up (omega (arith, count, count_here, less)) in
            let sum_end = sum_rises one.0.end run.entry (end_length (length program) one.0 l.1.grows ∙ sym own.1.grows.entry_length) between in
            all_answered earlier one.0 one.1 (omega (arith, sum_end, low))
            ((below (sum one.0.entry) (omega (arith, fewer, low)) place).entered earlier one.0 one.1 (omega arith))

        entered_here : Answered place index 0
        entered_here = on.starts place index b run at no_root is maker caller_there earlier_ended

      -- a root's run
      root_here : (index : ℕ) (run : Run) (b : Behaviour) → run_at (history_of program) place index ≡ Some run → IsAt program place b → b.declared.root ≡ true → Answered place index 0
      root_here index run b is at root =
          let once = root_runs_once program agree are place b at root in
          let only : slice_get (once.0 ∷ []) index ≡ Some run = ap (λ (runs : List Run). slice_get runs index) (sym once.1.0) ∙ is in
          let first : 0 ≡ index = omega (arith, slice_get_within (once.0 ∷ []) index run only) in
          subst (λ i. Answered place i 0) first (on.roots place (record { behaviour = b; there = at; root = root }))

      entered_now : (index : ℕ) (run : Run) → run_at (history_of program) place index ≡ Some run → sum run.entry ≤ S → Answered place index 0
      entered_now index run is low = by_root (logged place index run is).1.behaviour (logged place index run is).1.there (logged place index run is).1.behaviour.declared.root refl
        where
          by_root : (b : Behaviour) → IsAt program place b → (root : Bool) → b.declared.root ≡ root → Answered place index 0
          by_root b at true root = root_here index run b is at root
          by_root b at false no_root = entered_here index run b is low at no_root (maker_of program agree are place index run b is at no_root)

      is_here : Is S place
      is_here = record {
        entered = entered_now;
        ended = λ index run is low.
            let l = (logged place index run is).1 in
            let rises = sum_rises run.entry run.end (l.grows.entry_length ∙ sym (end_length (length program) run l.grows)) (entry_earlier (length program) run l.grows) in
            all_answered index run is low (entered_now index run is (omega (arith, rises, low)));
      }

    -- for all modules at a sum
    is_at : (S : ℕ) → ((s : ℕ) → s < S → (p : ℕ) → Is s p) → (n place : ℕ) → place < n → Is S place
    is_at S below zero place less = absurd (omega (arith, less))
    is_at S below (suc n) place less = is_here S place below (λ p fewer. is_at S below n p (omega (arith, less, fewer)))

    is_below : (n S : ℕ) → S < n → (place : ℕ) → Is S place
    is_below zero S less place = absurd (omega (arith, less))
    is_below (suc n) S less place = is_at S (λ s fewer p. is_below n s (omega (arith, less, fewer)) p) (suc place) place (omega arith)

    pub all_ended : (place index : ℕ) (run : Run) → run_at (history_of program) place index ≡ Some run → Ended place index
    all_ended place index run is = (is_below (suc (sum run.end)) (sum run.end) (omega arith) place).ended index run is (omega arith)
