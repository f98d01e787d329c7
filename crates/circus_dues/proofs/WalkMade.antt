-- What is made in a step of the runs of a record is made of those that go on then, or start.
use Rattle.std.proofs.Common.{◌≡◌, ℕ, ◌+◌, ◌-◌, ◌≤◌, ◌⊎◌, inl, inr, Bool, true, false, ◌&&◌, not, cond, if◌then◌else◌, List, [], ◌∷◌, ◌++◌, filter, length, All, Option, None, Some, refl, sym, ap, subst, ◌∙◌, arith, append_assoc, append-nil, length-append}
use Rattle.std.specs.Prelude.{slice_get, slice_index_or, nat_eq, nat_lt, unwrap_or}
use Rattle.std.specs.List.{flat_map}
use Rattle.std.specs.Option.{option_map_or}
use Rattle.std.proofs.lemmas.Bool.{lt-ltb, le-ltb, ne_eqb}
use Rattle.std.proofs.lemmas.Bool.Decides.{eqb_tells}
use Rattle.std.proofs.lemmas.List.Elements.{All-nil, All-cons, All-head, All-tail, All-weaker}
use Rattle.circus_value.specs.ValueTree.{ValueTree}
use Rattle.circus_collate.specs.declared.view.View.{View}
use Rattle.circus_transfer.specs.declared.joiner.Joiner.{Joiner}
use Rattle.circus_record.specs.declared.record.AskRecord.{AskRecord}
use Rattle.circus_record.specs.declared.record.MemberRecord.{MemberRecord}
use Rattle.circus_record.specs.declared.record.RunRecord.{RunRecord}
use Rattle.circus_gather.specs.Gathering.{index_of, is_of_index}
use Rattle.circus_gather.specs.declared.held.HeldCall.{HeldCall}
use Rattle.circus_fanout.specs.Asking.{Asking}
use Rattle.circus_performing.specs.Performing.{step_after}
use Rattle.circus_member_rules.specs.declared.place.Place.{Place}
use Rattle.circus_member_rules.specs.declared.occurrence.AskName.{AskName}
use Rattle.circus_member_theory.specs.Past.{Past, now}
use Rattle.circus_member_theory.specs.Asks.{is_new, knows, first_calls, asks_from, asks_of, new_asks}
use Rattle.circus_member_theory.specs.Made.{asks}
use Rattle.circus_member_theory.specs.Order.{if_now, is_answered_by_end, ends_now, returns_now, made_by_run, made_by_runs, snapshots_now, executed_then}
use Rattle.circus_member_theory.specs.Returns.{run_of, is_stale, is_before, return_owed}
use Rattle.circus_dues.specs.Walk.{IsBefore, IsRunInOrder, RunOneByOne, AreStanding, made_by_each}
use Rattle.circus_headline_theory.proofs.One.{at_front}
use Rattle.circus_headline_theory.proofs.Owed.Entries.{none_from, none_of}
use Rattle.circus_dues.proofs.WalkRuns.{IsAskedIn, run_asks_in, run_rises, StartsLater, StartsNow, IsGoing, EndedBefore}

-- ---- a run that makes nothing in a step

pub record IsQuiet (step : ℕ) (run : RunRecord) : Type 0 where
  pub no_ask : All (λ (ask : AskRecord). nat_eq ask.asked step ≡ false) run.asks
  pub no_end : option_map_or (nat_eq step) run.ended false ≡ false

-- it ended before
pub quiet_before : (step : ℕ) (run : RunRecord) → IsRunInOrder run → EndedBefore step run → IsQuiet step run
quiet_before step run order early = by_end run.ended refl early
  where
    by_end : (o : Option ℕ) → run.ended ≡ o → IsBefore step o → IsQuiet step run
    by_end None is below = absurd below
    by_end (Some n) is below =
        let same = order.ended_so n is in
        record {
          no_ask = All-weaker (IsAskedIn run.started (step_after run.started run.asks)) (λ (ask : AskRecord). nat_eq ask.asked step ≡ false)
              (λ ask h. ne_eqb ask.asked step (λ at. (let high = h.1 in absurd (omega (arith, high, same, below, at))))) run.asks (run_asks_in run order);
          no_end = ap (λ o. option_map_or (nat_eq step) o false) is ∙ ne_eqb step n (λ at. absurd (omega (arith, at, below)));
        }

-- or starts later
pub quiet_later : (step : ℕ) (run : RunRecord) → IsRunInOrder run → StartsLater step run → IsQuiet step run
quiet_later step run order late =
    record {
      no_ask = All-weaker (IsAskedIn run.started (step_after run.started run.asks)) (λ (ask : AskRecord). nat_eq ask.asked step ≡ false)
          (λ ask h. ne_eqb ask.asked step (λ at. (let low = h.0 in absurd (omega (arith, low, late, at))))) run.asks (run_asks_in run order);
      no_end = by_end run.ended refl (run_rises run order);
    }
  where
    rises_so : (n : ℕ) → run.ended ≡ Some n → run.started ≤ n
    rises_so n is = (let low = run_rises run order in subst (λ o. run.started ≤ o) refl (by_some n is low))
      where
        by_some : (n : ℕ) → run.ended ≡ Some n → run.started ≤ unwrap_or run.ended run.started → run.started ≤ n
        by_some n is low = subst (λ (o : Option ℕ). run.started ≤ unwrap_or o run.started) is low

    by_end : (o : Option ℕ) → run.ended ≡ o → run.started ≤ unwrap_or run.ended run.started → option_map_or (nat_eq step) run.ended false ≡ false
    by_end None is low = ap (λ o. option_map_or (nat_eq step) o false) is
    by_end (Some n) is low = ap (λ o. option_map_or (nat_eq step) o false) is ∙ ne_eqb step n (λ at. (let high = rises_so n is in absurd (omega (arith, high, late, at))))

-- ---- runs of a list

abbrev pub AreInOrder : List RunRecord → Type 0
AreInOrder runs = All IsRunInOrder runs

pub each_in_order : (from : ℕ) (runs : List RunRecord) → RunOneByOne from runs → AreInOrder runs
each_in_order from [] so = All-nil IsRunInOrder
each_in_order from (run ∷ runs) so = All-cons IsRunInOrder run runs so.1 (each_in_order (unwrap_or run.ended run.started) runs so.3)

pub all_front : {X : Type 0} (P : X → Type 0) (xs ys : List X) → All P (xs ++ ys) → All P xs
all_front P [] ys all = All-nil P
all_front P (x ∷ xs) ys all = All-cons P x xs (All-head P x (xs ++ ys) all) (all_front P xs ys (All-tail P x (xs ++ ys) all))

pub all_back : {X : Type 0} (P : X → Type 0) (xs ys : List X) → All P (xs ++ ys) → All P ys
all_back P [] ys all = all
all_back P (x ∷ xs) ys all = all_back P xs ys (All-tail P x (xs ++ ys) all)

pub all_both : {X : Type 0} (P Q R : X → Type 0) → ((x : X) → P x → Q x → R x) → (xs : List X) → All P xs → All Q xs → All R xs
all_both P Q R each [] one other = All-nil R
all_both P Q R each (x ∷ xs) one other = All-cons R x xs (each x (All-head P x xs one) (All-head Q x xs other)) (all_both P Q R each xs (All-tail P x xs one) (All-tail Q x xs other))

none_pass : {X : Type 0} (test : X → Bool) (xs : List X) → All (λ x. test x ≡ false) xs → filter test xs ≡ []
none_pass test [] all = refl
none_pass test (x ∷ xs) all = (λ j. cond (All-head (λ y. test y ≡ false) x xs all j) (x ∷ filter test xs) (filter test xs)) ∙ none_pass test xs (All-tail (λ y. test y ≡ false) x xs all)

pub of_both : (place : Place) (test : AskRecord → Bool) (index : ℕ) (xs ys : List RunRecord) → asks_of place test index (xs ++ ys) ≡ asks_of place test index xs ++ asks_of place test (index + length xs) ys
of_both place test index [] ys = let same : index ≡ index + 0 = omega arith in ap (λ n. asks_of place test n ys) same
of_both place test index (x ∷ xs) ys =
    let head = asks_from place test index x.root x.path 0 x.entry x.asks in
    let same : (index + 1) + length xs ≡ index + length (x ∷ xs) = omega arith in
    ap (λ l. head ++ l) (of_both place test (index + 1) xs ys ∙ ap (λ n. asks_of place test (index + 1) xs ++ asks_of place test n ys) same)
    ∙ sym (append_assoc head (asks_of place test (index + 1) xs) (asks_of place test (index + length (x ∷ xs)) ys))

-- ---- what they make

module _ (place : Place) (boot : List View) (begins : Joiner) (first : List ValueTree) (kept : MemberRecord) (p : Past) where
  -- the run of an index, behind others
  run_there : (before : List RunRecord) (run : RunRecord) (rest : List RunRecord) → kept.runs ≡ before ++ run ∷ rest → run_of kept (kept.from + length before) ≡ Some run
  run_there before run rest are =
      ap (λ b. if b then None else slice_get kept.runs (kept.from + length before - kept.from)) (le-ltb (kept.from + length before) kept.from (omega arith))
      ∙ ap (λ n. slice_get kept.runs n) same
      ∙ ap (λ l. slice_get l (length before)) are
      ∙ at_front before run rest
    where
      same : kept.from + length before - kept.from ≡ length before
      same = omega arith

  -- no return is made for it where it doesn't end
  no_returns : (index : ℕ) → ends_now place boot begins first kept p index ≡ false
      → returns_now place boot begins first kept p (λ (e : ℕ × HeldCall). is_answered_by_end place boot begins first kept p e && is_of_index place.troupe index e.1) ≡ []
  no_returns index none =
      ap (λ l. flat_map (λ (e : ℕ × HeldCall). if_now p e.1.sender (return_owed place.troupe begins kept e.0 e.1 p)) l)
      (none_pass (λ (e : ℕ × HeldCall). is_answered_by_end place boot begins first kept p e && is_of_index place.troupe index e.1) (asks p) (λ k d below. fails (slice_index_or (asks p) k d)))
    where
      none_and : (a b c : Bool) → c ≡ false → ((a && b && c) && true) ≡ false
      none_and true true c is = ap (λ t. t && true) is
      none_and true false c is = refl
      none_and false b c is = refl

      and_false : (t : Bool) → (t && false) ≡ false
      and_false true = refl
      and_false false = refl

      fails : (e : ℕ × HeldCall) → (is_answered_by_end place boot begins first kept p e && is_of_index place.troupe index e.1) ≡ false
      fails e = by_index (eqb_tells (index_of place.troupe e.1.header) index)
        where
          a : Bool
          a = not (is_stale place.troupe begins kept e.0 e.1 p)

          b : Bool
          b = not (is_before place.troupe begins kept e.1 p)

          by_index : ((nat_eq (index_of place.troupe e.1.header) index ≡ true) × (index_of place.troupe e.1.header ≡ index)) ⊎ ((nat_eq (index_of place.troupe e.1.header) index ≡ false) × ((index_of place.troupe e.1.header ≡ index) → ⊥))
              → (is_answered_by_end place boot begins first kept p e && is_of_index place.troupe index e.1) ≡ false
          by_index (inl same) =
              ap (λ t. is_answered_by_end place boot begins first kept p e && t) same.0
              ∙ none_and a b (ends_now place boot begins first kept p (index_of place.troupe e.1.header)) (ap (ends_now place boot begins first kept p) same.1 ∙ none)
          by_index (inr other) =
              ap (λ t. is_answered_by_end place boot begins first kept p e && t) other.0
              ∙ and_false (is_answered_by_end place boot begins first kept p e)

  quiet_run : (before : List RunRecord) (run : RunRecord) (rest : List RunRecord) → kept.runs ≡ before ++ run ∷ rest → IsQuiet (now p) run → made_by_run place boot begins first kept p (kept.from + length before) run ≡ []
  quiet_run before run rest are quiet =
      let index = kept.from + length before in
      let there = run_there before run rest are in
      let none : ends_now place boot begins first kept p index ≡ false = ap (λ o. option_map_or (λ (r : RunRecord). option_map_or (nat_eq (now p)) r.ended false) o false) there ∙ quiet.no_end in
      (λ j. flat_map (first_calls place boot (knows place boot p)) (none_from place (is_new p) index run.root run.path 0 run.entry run.asks quiet.no_ask j) ++ no_returns index none j)

  -- runs that make nothing
  quiet_runs : (test : RunRecord → Bool) (before runs rest : List RunRecord) → kept.runs ≡ before ++ (runs ++ rest) → All (IsQuiet (now p)) runs → made_by_runs place boot begins first kept test p (kept.from + length before) runs ≡ []
  quiet_runs test before [] rest are quiet = refl
  quiet_runs test before (run ∷ runs) rest are quiet =
      (λ j. (if test run then quiet_run before run (runs ++ rest) are (All-head (IsQuiet (now p)) run runs quiet) j else []) ++ made_by_runs place boot begins first kept test p (next j) runs)
      ∙ nothing (test run)
      ∙ quiet_runs test (before ++ run ∷ []) runs rest (are ∙ sym (append_assoc before (run ∷ []) (runs ++ rest))) (All-tail (IsQuiet (now p)) run runs quiet)
    where
      next : kept.from + length before + 1 ≡ kept.from + length (before ++ run ∷ [])
      next = let long = length-append before (run ∷ []) in omega (arith, long)

      nothing : (t : Bool) → (if t then [] else []) ++ made_by_runs place boot begins first kept test p (kept.from + length (before ++ run ∷ [])) runs ≡ made_by_runs place boot begins first kept test p (kept.from + length (before ++ run ∷ [])) runs
      nothing true = refl
      nothing false = refl

  made_by-append : (test : RunRecord → Bool) (index : ℕ) (xs ys : List RunRecord)
      → made_by_runs place boot begins first kept test p index (xs ++ ys) ≡ made_by_runs place boot begins first kept test p index xs ++ made_by_runs place boot begins first kept test p (index + length xs) ys
  made_by-append test index [] ys = let same : index ≡ index + 0 = omega arith in ap (λ n. made_by_runs place boot begins first kept test p n ys) same
  made_by-append test index (x ∷ xs) ys =
      let head = if test x then made_by_run place boot begins first kept p index x else [] in
      let same : (index + 1) + length xs ≡ index + length (x ∷ xs) = omega arith in
      ap (λ l. head ++ l) (made_by-append test (index + 1) xs ys ∙ ap (λ n. made_by_runs place boot begins first kept test p (index + 1) xs ++ made_by_runs place boot begins first kept test p n ys) same)
      ∙ sym (append_assoc head (made_by_runs place boot begins first kept test p (index + 1) xs) (made_by_runs place boot begins first kept test p (index + length (x ∷ xs)) ys))

  none_of_those : (test : RunRecord → Bool) (index : ℕ) (runs : List RunRecord) → All (λ run. test run ≡ false) runs → made_by_runs place boot begins first kept test p index runs ≡ []
  none_of_those test index [] all = refl
  none_of_those test index (run ∷ runs) all =
      (λ j. (if All-head (λ r. test r ≡ false) run runs all j then made_by_run place boot begins first kept p index run else []) ++ none_of_those test (index + 1) runs (All-tail (λ r. test r ≡ false) run runs all) j)

  all_of_those : (test : RunRecord → Bool) (index : ℕ) (runs : List RunRecord) → All (λ run. test run ≡ true) runs → made_by_runs place boot begins first kept test p index runs ≡ made_by_each place boot begins first kept p index runs
  all_of_those test index [] all = refl
  all_of_those test index (run ∷ runs) all =
      (λ j. (if All-head (λ r. test r ≡ true) run runs all j then made_by_run place boot begins first kept p index run else []) ++ all_of_those test (index + 1) runs (All-tail (λ r. test r ≡ true) run runs all) j)

  -- ---- the runs as they stand

  module _ (before going starting later : List RunRecord) (so : AreStanding (now p) kept.runs before going starting later) (order : AreInOrder kept.runs) where
    in_order : AreInOrder (before ++ (going ++ (starting ++ later)))
    in_order = subst AreInOrder so.are order

    later_order : AreInOrder later
    later_order = all_back IsRunInOrder starting later (all_back IsRunInOrder going (starting ++ later) (all_back IsRunInOrder before (going ++ (starting ++ later)) in_order))

    quiet_first : All (IsQuiet (now p)) before
    quiet_first = all_both IsRunInOrder (EndedBefore (now p)) (IsQuiet (now p)) (λ run o e. quiet_before (now p) run o e) before (all_front IsRunInOrder before (going ++ (starting ++ later)) in_order) so.ended

    quiet_last : All (IsQuiet (now p)) later
    quiet_last = all_both IsRunInOrder (StartsLater (now p)) (IsQuiet (now p)) (λ run o e. quiet_later (now p) run o e) later later_order so.start_later

    -- by any test on the steps of starts
    made_by_parts : (test : RunRecord → Bool)
        → made_by_runs place boot begins first kept test p kept.from kept.runs
        ≡ made_by_runs place boot begins first kept test p (kept.from + length before) going ++ made_by_runs place boot begins first kept test p ((kept.from + length before) + length going) starting
    made_by_parts test =
        ap (made_by_runs place boot begins first kept test p kept.from) so.are
        ∙ made_by-append test kept.from before (going ++ (starting ++ later))
        ∙ (λ j. no_first j ++ made_by_runs place boot begins first kept test p (kept.from + length before) (going ++ (starting ++ later)))
        ∙ made_by-append test (kept.from + length before) going (starting ++ later)
        ∙ ap (λ l. made_by_runs place boot begins first kept test p (kept.from + length before) going ++ l)
        (made_by-append test ((kept.from + length before) + length going) starting later
        ∙ ap (λ l. made_by_runs place boot begins first kept test p ((kept.from + length before) + length going) starting ++ l) no_last
        ∙ append-nil (made_by_runs place boot begins first kept test p ((kept.from + length before) + length going) starting))
      where
        no_first : made_by_runs place boot begins first kept test p kept.from before ≡ []
        no_first = (let same : kept.from ≡ kept.from + length {A = RunRecord} [] = omega arith in ap (λ n. made_by_runs place boot begins first kept test p n before) same ∙ quiet_runs test [] before (going ++ (starting ++ later)) so.are quiet_first)

        all_are : kept.runs ≡ (before ++ (going ++ starting)) ++ (later ++ [])
        all_are = so.are ∙ sym (append_assoc before (going ++ starting) (later ++ []) ∙ ap (λ l. before ++ l) (append_assoc going starting (later ++ []) ∙ ap (λ l. going ++ (starting ++ l)) (append-nil later)))

        number : ((kept.from + length before) + length going) + length starting ≡ kept.from + length (before ++ (going ++ starting))
        number = let one = length-append before (going ++ starting) in let other = length-append going starting in omega (arith, one, other)

        no_last : made_by_runs place boot begins first kept test p (((kept.from + length before) + length going) + length starting) later ≡ []
        no_last = ap (λ n. made_by_runs place boot begins first kept test p n later) number ∙ quiet_runs test (before ++ (going ++ starting)) later [] all_are quiet_last

    -- what the execution makes: of the run that goes on, then the snapshots, then of those that start
    pub executed_by_standing : executed_then place boot begins first kept p
        ≡ (made_by_each place boot begins first kept p (kept.from + length before) going ++ snapshots_now place boot begins first kept p)
        ++ made_by_each place boot begins first kept p ((kept.from + length before) + length going) starting
    executed_by_standing = λ j. (first_part j ++ snapshots_now place boot begins first kept p) ++ second_part j
      where
        going_early : All (λ run. nat_lt run.started (now p) ≡ true) going
        going_early = All-weaker (IsGoing (now p)) (λ run. nat_lt run.started (now p) ≡ true) (λ run g. lt-ltb run.started (now p) g.0) going so.go_on

        going_not : All (λ run. not (nat_lt run.started (now p)) ≡ false) going
        going_not = All-weaker (IsGoing (now p)) (λ run. not (nat_lt run.started (now p)) ≡ false) (λ run g. ap not (lt-ltb run.started (now p) g.0)) going so.go_on

        starting_not : All (λ run. nat_lt run.started (now p) ≡ false) starting
        starting_not = All-weaker (StartsNow (now p)) (λ run. nat_lt run.started (now p) ≡ false) (λ run at. le-ltb run.started (now p) (omega (arith, at))) starting so.start_now

        starting_late : All (λ run. not (nat_lt run.started (now p)) ≡ true) starting
        starting_late = All-weaker (StartsNow (now p)) (λ run. not (nat_lt run.started (now p)) ≡ true) (λ run at. ap not (le-ltb run.started (now p) (omega (arith, at)))) starting so.start_now

        first_part : made_by_runs place boot begins first kept (λ run. nat_lt run.started (now p)) p kept.from kept.runs ≡ made_by_each place boot begins first kept p (kept.from + length before) going
        first_part =
            made_by_parts (λ run. nat_lt run.started (now p))
            ∙ (λ j. all_of_those (λ run. nat_lt run.started (now p)) (kept.from + length before) going going_early j ++ none_of_those (λ run. nat_lt run.started (now p)) ((kept.from + length before) + length going) starting starting_not j)
            ∙ append-nil (made_by_each place boot begins first kept p (kept.from + length before) going)

        second_part : made_by_runs place boot begins first kept (λ run. not (nat_lt run.started (now p))) p kept.from kept.runs ≡ made_by_each place boot begins first kept p ((kept.from + length before) + length going) starting
        second_part =
            made_by_parts (λ run. not (nat_lt run.started (now p)))
            ∙ (λ j. none_of_those (λ run. not (nat_lt run.started (now p))) (kept.from + length before) going going_not j ++ all_of_those (λ run. not (nat_lt run.started (now p))) ((kept.from + length before) + length going) starting starting_late j)

    -- ---- the asks that are made

    abbrev new_of : ℕ → List RunRecord → List (AskName × Asking)
    new_of index runs = asks_of place (is_new p) index runs

    -- those of the run that goes on, and then of those that start
    pub new_by_standing : new_asks place boot kept p ≡ new_of (kept.from + length before) going ++ new_of ((kept.from + length before) + length going) starting
    new_by_standing =
        ap (new_of kept.from) so.are
        ∙ of_both place (is_new p) kept.from before (going ++ (starting ++ later))
        ∙ (λ j. none_of place (is_new p) kept.from before (no_asks before quiet_first) j ++ new_of (kept.from + length before) (going ++ (starting ++ later)))
        ∙ of_both place (is_new p) (kept.from + length before) going (starting ++ later)
        ∙ ap (λ l. new_of (kept.from + length before) going ++ l)
        (of_both place (is_new p) ((kept.from + length before) + length going) starting later
        ∙ ap (λ l. new_of ((kept.from + length before) + length going) starting ++ l) (none_of place (is_new p) (((kept.from + length before) + length going) + length starting) later (no_asks later quiet_last))
        ∙ append-nil (new_of ((kept.from + length before) + length going) starting))
      where
        no_asks : (runs : List RunRecord) → All (IsQuiet (now p)) runs → All (λ (run : RunRecord). All (λ (ask : AskRecord). is_new p ask ≡ false) run.asks) runs
        no_asks runs quiet = All-weaker (IsQuiet (now p)) (λ (run : RunRecord). All (λ (ask : AskRecord). is_new p ask ≡ false) run.asks) (λ run q. q.no_ask) runs quiet
