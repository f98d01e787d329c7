-- What stands at the end of a past that a record has come to: which runs have ended, which one is open, which ask waits, and what is later.
use Rattle.std.proofs.Common.{◌≡◌, ℕ, suc, ◌+◌, ◌-◌, ◌<◌, ◌≤◌, ◌⊎◌, inl, inr, Bool, true, false, true≢false, ◌||◌, not, if◌then◌else◌, List, [], ◌∷◌, ◌++◌, length, take, drop, All, Option, None, Some, option_map, refl, sym, ap, subst, ◌∙◌, arith, take-append-drop, length-append}
use Rattle.std.specs.Prelude.{slice_get, nat_eq, nat_le, unwrap_or, IsSomeAnd, IfSome}
use Rattle.std.specs.List.{list_any}
use Rattle.std.specs.Option.{option_map_or}
use Rattle.std.proofs.lemmas.Bool.{le-leb, lt-leb, ne_eqb}
use Rattle.std.proofs.lemmas.Bool.Decides.{leb_tells}
use Rattle.std.proofs.lemmas.List.Elements.{All-nil, All-cons}
use Rattle.std.proofs.lemmas.Option.{same_Some}
use Rattle.circus_record.specs.declared.record.AskRecord.{AskRecord}
use Rattle.circus_record.specs.declared.record.MemberRecord.{MemberRecord}
use Rattle.circus_record.specs.declared.record.RunRecord.{RunRecord}
use Rattle.circus_fanout.specs.Asking.{Asking}
use Rattle.circus_performing.specs.Performing.{clock_after}
use Rattle.circus_performing.specs.Record.{count_after}
use Rattle.circus_member_rules.specs.declared.place.Place.{Place}
use Rattle.circus_member_rules.specs.declared.occurrence.AskName.{AskName}
use Rattle.circus_member_rules.specs.OpenAsks.{is_name}
use Rattle.circus_member_rules.specs.OpenAsks as open_asks
use Rattle.circus_member_rules.proofs.Named.{names_are}
use Rattle.circus_member_theory.specs.Past.{Past, now}
use Rattle.circus_member_theory.specs.Asks.{as_made, asks_of, is_waiting, waits_then}
use Rattle.circus_member_theory.specs.Returns.{has_ended}
use Rattle.circus_collate.specs.declared.view.View.{View}
use Rattle.circus_dues.specs.Calls as calls
use Rattle.circus_dues.specs.Dues.{StandsAt, HasAsked, HasComeTo}
use Rattle.circus_dues.specs.Walk.{IsBy, IsLater, AskOneByOne, IsRunInOrder, RunOneByOne}
use Rattle.circus_dues.specs.declared.walk.Walk.{Walk}
use Rattle.circus_dues.proofs.CallsOpen.{none_past, starts_later, ended_earlier, opens_alone, none_opens}
use Rattle.circus_dues.proofs.CallsPassing.{ends_in}
use Rattle.circus_dues.proofs.OneByOne.{alone_of}
use Rattle.circus_dues.proofs.StepLists.{IsSplit, split_at, all_first, all_behind}
use Rattle.circus_dues.proofs.WalkMade.{each_in_order}
use Rattle.circus_dues.proofs.WalkRuns.{StartsLater}
use Rattle.circus_dues.proofs.WalkStarts.{all_at}
use Rattle.circus_dues.proofs.WalkWaiting.{AnsweredBy, EndedBy, none_wait, waits_in_run, one_waits}

-- ---- asks before one that was made

-- each was answered by then, and behind them one follows the other
pub record AreBefore (last : ℕ) (front rest : List AskRecord) : Type 0 where
  pub from : ℕ
  pub answered : All (AnsweredBy last) front
  pub so : AskOneByOne from rest

pub before_made : (last step : ℕ) (front : List AskRecord) (ask : AskRecord) (rest : List AskRecord) → AskOneByOne step (front ++ ask ∷ rest) → ask.asked ≤ last → AreBefore last front (ask ∷ rest)
before_made last step [] ask rest so low = record { from = step; answered = All-nil (AnsweredBy last); so = so }
before_made last step (x ∷ front) ask rest so low =
    let b = before_made last (unwrap_or x.answered step) front ask rest so.3 low in
    record { from = b.from; answered = All-cons (AnsweredBy last) x front (by_answer x.answered refl (later_made (unwrap_or x.answered step) front so.3)) b.answered; so = b.so }
  where
    some_left : (xs : List AskRecord) → xs ++ ask ∷ rest ≡ [] → ⊥
    some_left [] is = cc
    some_left (y ∷ xs) is = cc

    later_made : (from : ℕ) (xs : List AskRecord) → AskOneByOne from (xs ++ ask ∷ rest) → from ≤ last
    later_made from [] one = let asked = one.0 in omega (arith, asked, low)
    later_made from (y ∷ xs) one =
        let on = one.1 in
        let high = later_made (unwrap_or y.answered from) xs one.3 in
        omega (arith, on, high)

    by_answer : (o : Option ℕ) → x.answered ≡ o → unwrap_or x.answered step ≤ last → IsBy last x.answered
    by_answer None is high = absurd (some_left front (so.2 is))
    by_answer (Some n) is high = subst (IsBy last) (sym is) (subst (λ o. unwrap_or o step ≤ last) is high)

-- ---- a run that has ended by then, or ends later

module _ (p : Past) (run : RunRecord) where
  pub ended_so : IsBy (now p) run.ended → has_ended run p ≡ true
  ended_so = by_end run.ended
    where
      by_end : (o : Option ℕ) → IsBy (now p) o → option_map_or (λ step. nat_le step (now p)) o false ≡ true
      by_end None by = absurd by
      by_end (Some n) by = le-leb n (now p) by

  pub goes_on : IsLater (now p) run.ended → has_ended run p ≡ false
  goes_on = by_end run.ended
    where
      by_end : (o : Option ℕ) → IsLater (now p) o → option_map_or (λ step. nat_le step (now p)) o false ≡ false
      by_end None later = refl
      by_end (Some n) later = lt-leb n (now p) later

  ends_not : IsLater (now p) run.ended → ends_in (now p) run ≡ false
  ends_not = by_end run.ended
    where
      by_end : (o : Option ℕ) → IsLater (now p) o → option_map_or (nat_eq (now p)) o false ≡ false
      by_end None later = refl
      by_end (Some n) later = ne_eqb (now p) n (λ at. absurd (omega (arith, later, at)))

-- ---- a record

module _ (kept : MemberRecord) (p : Past) (order : RunOneByOne 0 kept.runs) (walk : Walk) where
  -- the runs from this number on start later
  abbrev pub StartLater : ℕ → Type 0
  StartLater number = (m : ℕ) (run : RunRecord) → number ≤ m → slice_get kept.runs m ≡ Some run → now p < run.started

  -- no run is under way
  pub record IsAtRest : Type 0 where
    pub none : walk.asked ≡ None
    pub later : StartLater walk.ended

  -- one is, and waits at the last of so many asks
  pub record IsUnderWay : Type 0 where
    pub run : RunRecord
    pub count : ℕ
    pub there : slice_get kept.runs walk.ended ≡ Some run
    pub some : walk.asked ≡ Some count
    pub started : run.started ≤ now p
    pub goes : IsLater (now p) run.ended
    pub has_asked : HasAsked p run count
    pub later : StartLater (suc walk.ended)

  alone : calls.RunOneByOne kept
  alone = alone_of kept order

  clash : {X : Type 0} (x : X) → ◌≡◌ {A = Option X} None (Some x) → ⊥
  clash x eq = cc

  -- runs that are not there start later, and so do those from one on that does
  later_none : (n : ℕ) → slice_get kept.runs n ≡ None → StartLater n
  later_none n none m run up is = absurd (clash run (sym (none_past kept.runs n m up none) ∙ is))

  later_some : (n : ℕ) (other : RunRecord) → slice_get kept.runs n ≡ Some other → now p < other.started → StartLater n
  later_some n other at late m run up is = (let rise = starts_later kept alone n m other run up at is in omega (arith, late, rise))

  -- behind one that goes on too
  later_behind : (n : ℕ) (other : RunRecord) → slice_get kept.runs n ≡ Some other → IsLater (now p) other.ended → StartLater (suc n)
  later_behind n other at goes m run up is = by_tell (leb_tells run.started (now p))
    where
      by_tell : ((nat_le run.started (now p) ≡ true) × (run.started ≤ now p)) ⊎ ((nat_le run.started (now p) ≡ false) × (now p < run.started)) → now p < run.started
      by_tell (inl low) = absurd (true≢false (sym (ended_earlier kept alone p m run is low.1 n other (omega (arith, up)) at) ∙ goes_on p other goes))
      by_tell (inr high) = high.1

  -- the one or the other
  pub stands_so : HasComeTo kept p walk → IsAtRest ⊎ IsUnderWay
  stands_so comes = by_next (slice_get kept.runs walk.ended) refl walk.asked refl comes.next
    where
      by_next : (o : Option RunRecord) → slice_get kept.runs walk.ended ≡ o → (asked : Option ℕ) → walk.asked ≡ asked → StandsAt p o asked → IsAtRest ⊎ IsUnderWay
      by_next None at None is stands = inl (record { none = is; later = later_none walk.ended at })
      by_next None at (Some count) is stands = absurd stands
      by_next (Some run) at None is stands = inl (record { none = is; later = later_some walk.ended run at stands })
      by_next (Some run) at (Some count) is stands =
          inr (record { run = run; count = count; there = at; some = is; started = stands.0; goes = stands.1; has_asked = stands.2; later = later_behind walk.ended run at stands.1 })

  module _ (comes : HasComeTo kept p walk) where
    abbrev front : List RunRecord
    front = take walk.ended kept.runs

    -- ---- runs

    -- no run that isn't passed ends in the last step
    pub none_ends : (m : ℕ) (run : RunRecord) → walk.ended ≤ m → slice_get kept.runs m ≡ Some run → ends_in (now p) run ≡ false
    none_ends m run up is = ends_not p run (by_stand (stands_so comes))
      where
        late_end : now p < run.started → (o : Option ℕ) → IfSome o (λ step. run.started ≤ step) → IsLater (now p) o
        late_end late None lasts = tt
        late_end late (Some n) lasts = omega (arith, late, lasts)

        by_place : (u : IsUnderWay) → ((nat_le (suc walk.ended) m ≡ true) × (suc walk.ended ≤ m)) ⊎ ((nat_le (suc walk.ended) m ≡ false) × (m < suc walk.ended)) → IsLater (now p) run.ended
        by_place u (inl above) = late_end (u.later m run above.1 is) run.ended (alone.lasts m run is)
        by_place u (inr below) =
            let high = below.1 in
            let same : walk.ended ≡ m = omega (arith, high, up) in
            subst (λ (r : RunRecord). IsLater (now p) r.ended) (same_Some u.run run (sym u.there ∙ ap (slice_get kept.runs) same ∙ is)) u.goes

        by_stand : IsAtRest ⊎ IsUnderWay → IsLater (now p) run.ended
        by_stand (inl r) = late_end (r.later m run up is) run.ended (alone.lasts m run is)
        by_stand (inr u) = by_place u (leb_tells (suc walk.ended) m)

    -- the run that is open
    pub opens_so : (n : ℕ) → calls.is_index (option_map (λ _. kept.from + walk.ended) walk.asked) n ≡ calls.is_open kept p n
    opens_so n = by_stand (stands_so comes)
      where
        ended_all : (r : IsAtRest) (m : ℕ) (run : RunRecord) → slice_get kept.runs m ≡ Some run → run.started ≤ now p → has_ended run p ≡ true
        ended_all r m run is low = by_tell (leb_tells walk.ended m)
          where
            by_tell : ((nat_le walk.ended m ≡ true) × (walk.ended ≤ m)) ⊎ ((nat_le walk.ended m ≡ false) × (m < walk.ended)) → has_ended run p ≡ true
            by_tell (inl up) = (let late = r.later m run up.1 is in absurd (omega (arith, late, low)))
            by_tell (inr below) = ended_so p run (comes.ended m run below.1 is)

        by_stand : IsAtRest ⊎ IsUnderWay → calls.is_index (option_map (λ _. kept.from + walk.ended) walk.asked) n ≡ calls.is_open kept p n
        by_stand (inl r) = ap (λ o. calls.is_index (option_map (λ _. kept.from + walk.ended) o) n) r.none ∙ none_opens kept alone p (ended_all r) n
        by_stand (inr u) =
            ap (λ o. calls.is_index (option_map (λ _. kept.from + walk.ended) o) n) u.some
            ∙ opens_alone kept alone p walk.ended u.run u.there u.started (goes_on p u.run u.goes) n

    -- ---- asks

    runs_in_order : All IsRunInOrder kept.runs
    runs_in_order = each_in_order 0 kept.runs order

    ended_front : All (EndedBy (now p)) front
    ended_front = all_first (EndedBy (now p)) kept.runs walk.ended comes.ended

    -- of the run that is under way: the asks before the one that waits
    pub record WaitsAt (u : IsUnderWay) : Type 0 where
      pub ask : AskRecord
      pub here : slice_get u.run.asks (u.count - 1) ≡ Some ask
      pub made : ask.asked ≤ now p
      pub waits : IsLater (now p) ask.answered
      pub before : AreBefore (now p) (take (u.count - 1) u.run.asks) (ask ∷ drop (suc (u.count - 1)) u.run.asks)

    pub waits_at : (u : IsUnderWay) → WaitsAt u
    waits_at u = by_ask (slice_get u.run.asks (u.count - 1)) refl u.has_asked.waits
      where
        some : 1 ≤ u.count
        some = u.has_asked.some

        run_so : IsRunInOrder u.run
        run_so = all_at IsRunInOrder kept.runs walk.ended u.run runs_in_order u.there

        by_ask : (o : Option AskRecord) → slice_get u.run.asks (u.count - 1) ≡ o → IsSomeAnd o (λ (ask : AskRecord). IsLater (now p) ask.answered) → WaitsAt u
        by_ask None is waits = absurd waits
        by_ask (Some ask) is waits =
            let low = u.has_asked.made (u.count - 1) ask (omega (arith, some)) is in
            let s = split_at u.run.asks (u.count - 1) ask is in
            record {
              ask = ask;
              here = is;
              made = low;
              waits = waits;
              before = before_made (now p) u.run.started (take (u.count - 1) u.run.asks) ask (drop (suc (u.count - 1)) u.run.asks) (subst (AskOneByOne u.run.started) s.are run_so.asks_so) low;
            }

    module _ (place : Place) (boot : List View) (few : kept.from + length kept.runs ≤ 4294967296) where
      -- the name of the ask that waits
      abbrev pub name_there : ℕ → AskName
      name_there asked = record { run = count_after kept.from walk.ended; ask = asked - 1 }

      -- it is this one, where one does
      pub waits_so : (name : AskName) → open_asks.is_waiting (option_map name_there walk.asked) name ≡ waits_then place boot kept p name
      waits_so name = by_stand (stands_so comes)
        where
          at_rest : (r : IsAtRest) → asks_of place (is_waiting p) kept.from kept.runs ≡ []
          at_rest r =
              none_wait place p kept runs_in_order front (drop walk.ended kept.runs) (sym (take-append-drop walk.ended kept.runs)) ended_front
              (all_behind (StartsLater (now p)) kept.runs walk.ended r.later)

          or_false : (b : Bool) → b ≡ (b || false)
          or_false true = refl
          or_false false = refl

          under_way : (u : IsUnderWay) (w : WaitsAt u) (s : IsSplit kept.runs walk.ended u.run) (t : IsSplit u.run.asks (u.count - 1) w.ask)
              → asks_of place (is_waiting p) kept.from kept.runs
              ≡ as_made place (kept.from + length front) u.run.root u.run.path (length (take (u.count - 1) u.run.asks)) (clock_after u.run.entry (take (u.count - 1) u.run.asks)) w.ask ∷ []
          under_way u w s t =
              let made = take (u.count - 1) u.run.asks in
              let clock = clock_after u.run.entry made in
              waits_in_run place p kept runs_in_order front u.run (drop (suc walk.ended) kept.runs) s.are ended_front (all_behind (StartsLater (now p)) kept.runs (suc walk.ended) u.later)
              ∙ one_waits place p (kept.from + length front) u.run made w.ask (drop (suc (u.count - 1)) u.run.asks) w.before.from t.are w.before.answered w.before.so w.made w.waits
              ∙ ap (λ b. (if not b then as_made place (kept.from + length front) u.run.root u.run.path (length made) clock w.ask ∷ [] else []) ++ []) u.has_asked.calls_left

          below : (u : IsUnderWay) (s : IsSplit kept.runs walk.ended u.run) → count_after kept.from walk.ended ≡ kept.from + length front
          below u s =
              let long = s.long in
              let all = ap (λ (l : List RunRecord). length l) s.are ∙ length-append front (u.run ∷ drop (suc walk.ended) kept.runs) in
              omega (arith, long, all, few)

          named : (u : IsUnderWay) (s : IsSplit kept.runs walk.ended u.run) (w : WaitsAt u) (t : IsSplit u.run.asks (u.count - 1) w.ask)
              → ◌≡◌ {A = AskName} (name_there u.count) (record { run = kept.from + length front; ask = length (take (u.count - 1) u.run.asks) })
          named u s w t = λ j. record { run = below u s j; ask = sym t.long j }

          by_stand : IsAtRest ⊎ IsUnderWay → open_asks.is_waiting (option_map name_there walk.asked) name ≡ waits_then place boot kept p name
          by_stand (inl r) =
              ap (λ o. open_asks.is_waiting (option_map name_there o) name) r.none
              ∙ sym (ap (list_any (λ (e : AskName × Asking). is_name e.0 name)) (at_rest r))
          by_stand (inr u) =
              let w = waits_at u in
              let s = split_at kept.runs walk.ended u.run u.there in
              let t = split_at u.run.asks (u.count - 1) w.ask w.here in
              ap (λ o. open_asks.is_waiting (option_map name_there o) name) u.some
              ∙ ap (λ (n : AskName). is_name n name) (named u s w t)
              ∙ or_false (is_name (record { run = kept.from + length front; ask = length (take (u.count - 1) u.run.asks) }) name)
              ∙ sym (ap (list_any (λ (e : AskName × Asking). is_name e.0 name)) (under_way u w s t))

      -- so it waits
      pub waits_there : (u : IsUnderWay) → waits_then place boot kept p (record { run = kept.from + walk.ended; ask = u.count - 1 }) ≡ true
      waits_there u =
          sym (waits_so there)
          ∙ ap (λ o. open_asks.is_waiting (option_map name_there o) there) u.some
          ∙ ap (λ (n : AskName). is_name n there) same
          ∙ names_are.refl there
        where
          there : AskName
          there = record { run = kept.from + walk.ended; ask = u.count - 1 }

          bounded : IsSplit kept.runs walk.ended u.run → count_after kept.from walk.ended ≡ kept.from + walk.ended
          bounded s =
              let long = s.long in
              let all = ap (λ (l : List RunRecord). length l) s.are ∙ length-append front (u.run ∷ drop (suc walk.ended) kept.runs) in
              omega (arith, long, all, few)

          same : ◌≡◌ {A = AskName} (name_there u.count) there
          same = λ j. record { run = bounded (split_at kept.runs walk.ended u.run u.there) j; ask = u.count - 1 }
