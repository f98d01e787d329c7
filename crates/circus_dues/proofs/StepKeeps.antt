-- The ask that waits at the end of a step is the one that waited before it, or was made in it; so it is open.
use Rattle.std.proofs.Common.{◌≡◌, ℕ, suc, ◌+◌, ◌-◌, ◌<◌, ◌≤◌, ◌⊎◌, inl, inr, true, false, ◌&&◌, not, if◌then◌else◌, List, [], ◌∷◌, ◌++◌, length, take, drop, All, Option, None, Some, refl, sym, ap, subst, ◌∙◌, arith, append_assoc, length-append}
use Rattle.std.specs.Prelude.{slice_get, unwrap_or, IfSome}
use Rattle.std.proofs.lemmas.Bool.{cases_lt, eq-eqb}
use Rattle.std.proofs.lemmas.List.Elements.{All-nil, All-cons}
use Rattle.std.proofs.lemmas.Option.{same_Some, slice_get_within}
use Rattle.circus_collate.specs.declared.view.View.{View}
use Rattle.circus_model.specs.Execution.{is_spent}
use Rattle.circus_record.specs.declared.record.AskRecord.{AskRecord}
use Rattle.circus_record.specs.declared.record.MemberRecord.{MemberRecord}
use Rattle.circus_record.specs.declared.record.RunRecord.{RunRecord}
use Rattle.circus_fanout.specs.Asking.{Asking}
use Rattle.circus_performing.specs.Performing.{clock_after, step_after}
use Rattle.circus_member_rules.specs.declared.place.Place.{Place}
use Rattle.circus_member_rules.specs.declared.occurrence.AskName.{AskName}
use Rattle.circus_member_rules.specs.declared.occurrence.Occurrence.{Occurrence}
use Rattle.circus_member_theory.specs.Past.{Past, followed, now}
use Rattle.circus_member_theory.specs.Asks.{as_made, asks_from, asks_of, is_new, new_asks, waits_then}
use Rattle.circus_dues.specs.Calls.{IsOutside, NoneBetween}
use Rattle.circus_dues.specs.Dues.{HasComeTo}
use Rattle.circus_dues.specs.Walk.{IsBy, IsLater, IsNotBefore, AskOneByOne, IsRunInOrder, RunOneByOne}
use Rattle.circus_dues.specs.declared.walk.Walk.{Walk}
use Rattle.circus_dues.proofs.CallsPassing.{run_at}
use Rattle.circus_dues.proofs.OutValue.{IsKeptOpen, still_kept, newly_kept}
use Rattle.circus_dues.proofs.WalkMade.{each_in_order, of_both}
use Rattle.circus_dues.proofs.WalkNew.{from_both}
use Rattle.circus_dues.proofs.WalkRuns.{IsAskedIn, run_asks_in}
use Rattle.circus_dues.proofs.WalkStarts.{all_at}
use Rattle.circus_dues.proofs.WalkStep.{IsBehind, front_or_behind}
use Rattle.circus_dues.proofs.WalkWaiting.{AnsweredBy}
use Rattle.circus_dues.proofs.StepLists.{IsSplit, split_at}
use Rattle.circus_dues.proofs.StepReached.{IsAtRest, IsUnderWay, stands_so, WaitsAt, waits_at, waits_there}

never : (low high : ℕ) (o : Option ℕ) → low ≤ high → IsBy low o → IsLater high o → ⊥
never low high None rise by later = by
never low high (Some n) rise by later = omega (arith, rise, by, later)

-- asks that are made from a step on
abbrev MadeFrom : ℕ → AskRecord → Type 0
MadeFrom step ask = step ≤ ask.asked

made_from_then : (step from : ℕ) (asks : List AskRecord) → AskOneByOne from asks → step ≤ from → All (MadeFrom step) asks
made_from_then step from [] so low = All-nil (MadeFrom step)
made_from_then step from (ask ∷ asks) so low =
    let asked = so.0 in
    let on = so.1 in
    All-cons (MadeFrom step) ask asks (omega (arith, asked, low)) (made_from_then step (unwrap_or ask.answered from) asks so.3 (omega (arith, on, low)))

-- so they are behind one that was answered from then on
made_behind : (step from : ℕ) (ask : AskRecord) (rest : List AskRecord) → AskOneByOne from (ask ∷ rest) → IsNotBefore step ask.answered → All (MadeFrom step) rest
made_behind step from ask rest so late = by_answer ask.answered refl late
  where
    by_answer : (o : Option ℕ) → ask.answered ≡ o → IsNotBefore step o → All (MadeFrom step) rest
    by_answer None is high = subst (All (MadeFrom step)) (sym (so.2 is)) (All-nil (MadeFrom step))
    by_answer (Some n) is high = made_from_then step n rest (subst (λ o. AskOneByOne (unwrap_or o from) rest) is so.3) high

module _ (kept : MemberRecord) (p : Past) (at : ℕ) (o : Occurrence) (later : now p < at) (order : RunOneByOne 0 kept.runs) (between : NoneBetween kept (now p) at)
    (answered : (number place_of : ℕ) (run : RunRecord) (ask : AskRecord) → slice_get kept.runs number ≡ Some run → slice_get run.asks place_of ≡ Some ask
    → is_spent (clock_after run.entry (take place_of run.asks)) ≡ false → IfSome ask.answered (IsOutside (now p) at))
    (before : Walk) (came : HasComeTo kept p before) (behind : Walk) (comes : HasComeTo kept (followed p at o) behind) where
  abbrev q : Past
  q = followed p at o

  abbrev Waits : Type 0
  Waits = IsUnderWay kept q order behind

  abbrev Waited : Type 0
  Waited = IsUnderWay kept p order before

  -- it is the ask that waited before
  pub record IsSame (u : Waits) : Type 0 where
    pub ended : before.ended ≡ behind.ended
    pub asked : before.asked ≡ Some u.count

  module _ (u : Waits) where
    abbrev w : WaitsAt kept q order behind comes u
    w = waits_at kept q order behind comes u

    run_so : IsRunInOrder u.run
    run_so = all_at IsRunInOrder kept.runs behind.ended u.run (each_in_order 0 kept.runs order) u.there

    -- its run started in the step
    started_now : now p < u.run.started → at ≤ w.ask.asked
    started_now late =
        let from = by_side ((between (kept.from + behind.ended) u.run (run_at kept behind.ended ∙ u.there)).0) in
        let asked = (all_at (IsAskedIn u.run.started (step_after u.run.started u.run.asks)) u.run.asks (u.count - 1) w.ask (run_asks_in u.run run_so) w.here).0 in
        omega (arith, from, asked)
      where
        by_side : IsOutside (now p) at u.run.started → at ≤ u.run.started
        by_side (inl early) = absurd (omega (arith, early, late))
        by_side (inr high) = high

    -- its run was under way
    module _ (v : Waited) (same : before.ended ≡ behind.ended) where
      abbrev x : WaitsAt kept p order before came v
      x = waits_at kept p order before came v

      run_is : v.run ≡ u.run
      run_is = same_Some v.run u.run (sym v.there ∙ ap (slice_get kept.runs) same ∙ u.there)

      here : slice_get v.run.asks (u.count - 1) ≡ Some w.ask
      here = ap (λ (r : RunRecord). slice_get r.asks (u.count - 1)) run_is ∙ w.here

      s : IsSplit v.run.asks (v.count - 1) x.ask
      s = split_at v.run.asks (v.count - 1) x.ask x.here

      -- not before the ask that waited
      not_earlier : u.count - 1 < v.count - 1 → ⊥
      not_earlier low = by_place (front_or_behind made rest (u.count - 1) w.ask (ap (λ l. slice_get l (u.count - 1)) (sym s.are) ∙ here))
        where
          made : List AskRecord
          made = take (v.count - 1) v.run.asks

          rest : List AskRecord
          rest = x.ask ∷ drop (suc (v.count - 1)) v.run.asks

          by_place : (slice_get made (u.count - 1) ≡ Some w.ask) ⊎ IsBehind made rest (u.count - 1) w.ask → ⊥
          by_place (inl at_front) = never (now p) at w.ask.answered (omega (arith, later)) (all_at (AnsweredBy (now p)) made (u.count - 1) w.ask x.before.answered at_front) w.waits
          by_place (inr b) = (let long = s.long in let place = b.number_is in omega (arith, long, place, low))

      -- behind it only in the step
      later_made : v.count - 1 < u.count - 1 → at ≤ w.ask.asked
      later_made high = by_place (front_or_behind front rest (u.count - 1) w.ask (ap (λ l. slice_get l (u.count - 1)) (sym are) ∙ here))
        where
          front : List AskRecord
          front = take (v.count - 1) v.run.asks ++ x.ask ∷ []

          rest : List AskRecord
          rest = drop (suc (v.count - 1)) v.run.asks

          are : v.run.asks ≡ front ++ rest
          are = s.are ∙ sym (append_assoc (take (v.count - 1) v.run.asks) (x.ask ∷ []) rest)

          long : length front ≡ suc (v.count - 1)
          long = let all = length-append (take (v.count - 1) v.run.asks) (x.ask ∷ []) in let first = s.long in omega (arith, all, first)

          not_before : IsNotBefore at x.ask.answered
          not_before = by_answer x.ask.answered x.waits (answered before.ended (v.count - 1) v.run x.ask v.there x.here v.has_asked.calls_left)
            where
              by_answer : (a : Option ℕ) → IsLater (now p) a → IfSome a (IsOutside (now p) at) → IsNotBefore at a
              by_answer None late outside = tt
              by_answer (Some n) late (inl early) = absurd (omega (arith, late, early))
              by_answer (Some n) late (inr from) = from

          by_place : (slice_get front (u.count - 1) ≡ Some w.ask) ⊎ IsBehind front rest (u.count - 1) w.ask → at ≤ w.ask.asked
          by_place (inl at_front) = (let within = slice_get_within front (u.count - 1) w.ask at_front in absurd (omega (arith, within, long, high)))
          by_place (inr b) = all_at (MadeFrom at) rest b.place w.ask (made_behind at x.before.from x.ask rest x.before.so not_before) b.there

      by_count : IsSame u ⊎ (at ≤ w.ask.asked)
      by_count = elim (cases_lt (u.count - 1) (v.count - 1)) [
        | inl low ↦ absurd (not_earlier low)
        | inr up ↦ elim (cases_lt (v.count - 1) (u.count - 1)) [
          | inl high ↦ inr (later_made high)
          | inr down ↦ inl (record { ended = same; asked = v.some ∙ ap (λ n. Some n) (counts up down) })
        ]
      ]
        where
          counts : v.count - 1 ≤ u.count - 1 → u.count - 1 ≤ v.count - 1 → v.count ≡ u.count
          counts up down = let one = u.has_asked.some in let other = v.has_asked.some in omega (arith, up, down, one, other)

    -- the one or the other
    pub same_or_new : IsSame u ⊎ (at ≤ w.ask.asked)
    same_or_new = by_stand (stands_so kept p order before came)
      where
        not_ended : behind.ended < before.ended → ⊥
        not_ended low = never (now p) at u.run.ended (omega (arith, later)) (came.ended behind.ended u.run low u.there) u.goes

        by_order : Waited → (before.ended < behind.ended) ⊎ (behind.ended ≤ before.ended) → IsSame u ⊎ (at ≤ w.ask.asked)
        by_order v (inl low) = inr (started_now (v.later behind.ended u.run (omega (arith, low)) u.there))
        by_order v (inr up) = by_same (cases_lt behind.ended before.ended)
          where
            by_same : (behind.ended < before.ended) ⊎ (before.ended ≤ behind.ended) → IsSame u ⊎ (at ≤ w.ask.asked)
            by_same (inl low) = absurd (not_ended low)
            by_same (inr down) = by_count v (omega (arith, up, down))

        at_rest : IsAtRest kept p order before → (behind.ended < before.ended) ⊎ (before.ended ≤ behind.ended) → at ≤ w.ask.asked
        at_rest r (inl low) = absurd (not_ended low)
        at_rest r (inr up) = started_now (r.later behind.ended u.run up u.there)

        by_stand : IsAtRest kept p order before ⊎ Waited → IsSame u ⊎ (at ≤ w.ask.asked)
        by_stand (inl r) = inr (at_rest r (cases_lt behind.ended before.ended))
        by_stand (inr v) = by_order v (cases_lt before.ended behind.ended)

  -- ---- so it is open

  module _ (place : Place) (boot : List View) (few : kept.from + length kept.runs ≤ 4294967296) (u : Waits) where
    abbrev ask_there : AskRecord
    ask_there = (waits_at kept q order behind comes u).ask

    abbrev name_there : AskName
    name_there = record { run = kept.from + behind.ended; ask = u.count - 1 }

    waits_so : waits_then place boot kept q name_there ≡ true
    waits_so = waits_there kept q order behind comes place boot few u

    still : IsKeptOpen place boot kept p name_there ask_there → IsKeptOpen place boot kept q name_there ask_there
    still is_kept = still_kept place boot kept p at o name_there ask_there waits_so is_kept

    module _ (asked : at ≤ ask_there.asked) where
      in_runs : IsSplit kept.runs behind.ended u.run
      in_runs = split_at kept.runs behind.ended u.run u.there

      in_asks : IsSplit u.run.asks (u.count - 1) ask_there
      in_asks = split_at u.run.asks (u.count - 1) ask_there (waits_at kept q order behind comes u).here

      abbrev front : List RunRecord
      front = take behind.ended kept.runs

      abbrev rest : List RunRecord
      rest = drop (suc behind.ended) kept.runs

      abbrev made : List AskRecord
      made = take (u.count - 1) u.run.asks

      abbrev others : List AskRecord
      others = drop (suc (u.count - 1)) u.run.asks

      abbrev index : ℕ
      index = kept.from + length front

      abbrev clock : List ℕ
      clock = clock_after u.run.entry made

      abbrev entry : AskName × Asking
      entry = as_made place index u.run.root u.run.path (0 + length made) clock ask_there

      abbrev new_in : ℕ → List RunRecord → List (AskName × Asking)
      new_in n runs = asks_of place (is_new q) n runs

      abbrev new_from : ℕ → List ℕ → List AskRecord → List (AskName × Asking)
      new_from n c asks = asks_from place (is_new q) index u.run.root u.run.path n c asks

      is_now : is_new q ask_there ≡ true
      is_now = let made_by = (waits_at kept q order behind comes u).made in eq-eqb ask_there.asked at (omega (arith, asked, made_by))

      of_run : new_from 0 u.run.entry u.run.asks ≡ new_from 0 u.run.entry made ++ entry ∷ new_from (0 + length made + 1) (unwrap_or ask_there.after clock) others
      of_run =
          ap (new_from 0 u.run.entry) in_asks.are
          ∙ from_both place (is_new q) index u.run.root u.run.path 0 u.run.entry made (ask_there ∷ others)
          ∙ (λ j. new_from 0 u.run.entry made
          ++ ((if is_now j && not (u.has_asked.calls_left j) then entry ∷ [] else []) ++ new_from (0 + length made + 1) (unwrap_or ask_there.after clock) others))

      new_are : new_asks place boot kept q
          ≡ (new_in kept.from front ++ new_from 0 u.run.entry made) ++ entry ∷ (new_from (0 + length made + 1) (unwrap_or ask_there.after clock) others ++ new_in (index + 1) rest)
      new_are =
          let more = new_from (0 + length made + 1) (unwrap_or ask_there.after clock) others in
          ap (new_in kept.from) in_runs.are
          ∙ of_both place (is_new q) kept.from front (u.run ∷ rest)
          ∙ ap (λ l. new_in kept.from front ++ (l ++ new_in (index + 1) rest)) of_run
          ∙ ap (λ l. new_in kept.from front ++ l) (append_assoc (new_from 0 u.run.entry made) (entry ∷ more) (new_in (index + 1) rest))
          ∙ sym (append_assoc (new_in kept.from front) (new_from 0 u.run.entry made) (entry ∷ (more ++ new_in (index + 1) rest)))

      named : ◌≡◌ {A = AskName} name_there entry.0
      named = let counted : u.count - 1 ≡ 0 + length made = (let long = in_asks.long in omega (arith, long)) in λ j. record { run = kept.from + sym in_runs.long j; ask = counted j }

      new : IsKeptOpen place boot kept q name_there ask_there
      new =
          subst (λ n. IsKeptOpen place boot kept q n ask_there) (sym named)
          (newly_kept place boot kept (new_in kept.from front ++ new_from 0 u.run.entry made) entry (new_from (0 + length made + 1) (unwrap_or ask_there.after clock) others ++ new_in (index + 1) rest) ask_there refl p at o
          new_are (subst (λ n. waits_then place boot kept q n ≡ true) named waits_so))

    -- where the one that waited before was
    pub keeps : (IsSame u → IsKeptOpen place boot kept p name_there ask_there) → IsKeptOpen place boot kept q name_there ask_there
    keeps was = elim (same_or_new u) [ inl same ↦ still (was same) | inr asked ↦ new asked ]
