-- Records that agree by a step say the same of all that was by then.
use Rattle.std.proofs.Common.{◌≡◌, ℕ, zero, suc, ◌+◌, ◌-◌, ◌<◌, ◌≤◌, ◌⊎◌, inl, inr, Bool, true, false, cond, not, ◌&&◌, ◌||◌, if◌then◌else◌, List, [], ◌∷◌, ◌++◌, length, filter, Option, None, Some, refl, sym, ap, subst, ◌∙◌, arith}
use Rattle.std.specs.Prelude.{slice_get, nat_eq, nat_le, nat_lt, unwrap_or, option_map, option_and_then}
use Rattle.std.specs.List.{flat_map, list_all}
use Rattle.std.specs.Option.{option_map_or}
use Rattle.std.proofs.lemmas.Bool.{le-ltb, lt-leb, eqb-true, and_right}
use Rattle.std.proofs.lemmas.Option.{same_Some}
use Rattle.circus_value.specs.ValueTree.{ValueTree}
use Rattle.circus_value.specs.declared.caller.Caller.{Caller}
use Rattle.circus_collate.specs.declared.view.View.{View}
use Rattle.circus_transfer.specs.Snapshot.{snapshot_bytes}
use Rattle.circus_transfer.specs.declared.joiner.Joiner.{Joiner}
use Rattle.circus_model.specs.Execution.{is_spent}
use Rattle.circus_record.specs.declared.record.AskRecord.{AskRecord}
use Rattle.circus_record.specs.declared.record.MemberRecord.{MemberRecord}
use Rattle.circus_record.specs.declared.record.RunRecord.{RunRecord}
use Rattle.circus_gather.specs.Gathering.{index_of, is_of_index}
use Rattle.circus_gather.specs.declared.held.HeldCall.{HeldCall}
use Rattle.circus_performing.specs.Performing.{is_active, state_after}
use Rattle.circus_performing.specs.Record.{count_after}
use Rattle.circus_member_rules.specs.Messages.{reply_message, stale_message, before_message}
use Rattle.circus_member_rules.specs.declared.occurrence.AskName.{AskName}
use Rattle.circus_member_rules.specs.declared.place.Place.{Place}
use Rattle.circus_member_rules.specs.Step.{reply_of_run}
use Rattle.circus_member_theory.specs.Past.{Past, now, Rises, phase, required_incarnation}
use Rattle.circus_member_theory.proofs.Timely.Firsts.{same_first}
use Rattle.circus_member_theory.specs.Asks.{is_new, is_waiting, as_made, asks_from, asks_of, knows, first_calls, calls_behind, open_asks, new_asks}
use Rattle.circus_member_theory.specs.Made.{asks, requests}
use Rattle.circus_member_theory.specs.Order.{if_now, ends_now, is_answered_by_end, returns_now, returns_at_once, made_by_run, made_by_runs, snapshots_now, executed_then, made_in_step}
use Rattle.circus_member_theory.specs.Requests.{for_what_came, lookups}
use Rattle.circus_member_theory.specs.Returns.{first_of, run_of, was_started, has_ended, is_stale, is_before, reply_by, return_at, return_owed}
use Rattle.circus_member_theory.specs.Snapshots.{runs_before, began, snapshot_at, snapshot_owed}
use Rattle.circus_headline_theory.proofs.Owed.CallsOwing.{open_same}
use Rattle.circus_headline_theory.proofs.Owed.Owing.{lookups_same}
use Rattle.circus_headline_theory.proofs.Asks.{Callee, callee_of, recorded, recorded_at}
use Rattle.circus_headline_theory.proofs.One.{none_is_some}
use Rattle.circus_headline_theory.proofs.Agree.{NotBy, AsksLate, LateRun, RunsLate, AskAgrees, AsksAgree, RunAgrees, RunsAgree, Agree}

-- ---- lists and options

none_pass : {X : Type 0} (test : X → Bool) → ((x : X) → test x ≡ false) → (xs : List X) → filter test xs ≡ []
none_pass test none [] = refl
none_pass test none (x ∷ xs) = ap (λ t. cond t (x ∷ filter test xs) (filter test xs)) (none x) ∙ none_pass test none xs

-- what was not by a step was not by an earlier one
not_yet : (s n : ℕ) (o : Option ℕ) → NotBy s o → n ≤ s → option_map_or (λ step. nat_le step n) o false ≡ false
not_yet s n None late low = refl
not_yet s n (Some m) late low = lt-leb m n (omega (arith, late, low))

not_at : (s n : ℕ) (o : Option ℕ) → NotBy s o → n ≤ s → option_map_or (nat_eq n) o false ≡ false
not_at s n None late low = refl
not_at s n (Some m) late low = by_test (nat_eq n m) refl
  where
    by_test : (t : Bool) → nat_eq n m ≡ t → nat_eq n m ≡ false
    by_test true is = (let same = eqb-true n m is in absurd (omega (arith, same, late, low)))
    by_test false is = is

-- ---- asks

-- a test that tells nothing of what came later than a step
pub record TellsBy (s : ℕ) (test : AskRecord → Bool) : Type 0 where
  pub late : (c : AskRecord) → s < c.asked → test c ≡ false
  pub same : (c e : AskRecord) → AskAgrees s c e → test c ≡ test e

new_tells : (s : ℕ) (r : Past) → now r ≤ s → TellsBy s (is_new r)
new_tells s r low =
    record {
      late = λ c after. by_test c after (nat_eq c.asked (now r)) refl;
      same = λ c e a j. nat_eq (a.asked j) (now r);
    }
  where
    by_test : (c : AskRecord) → s < c.asked → (t : Bool) → nat_eq c.asked (now r) ≡ t → nat_eq c.asked (now r) ≡ false
    by_test c after true is = (let same = eqb-true c.asked (now r) is in absurd (omega (arith, same, after, low)))
    by_test c after false is = is

waiting_tells : (s : ℕ) (r : Past) → now r ≤ s → TellsBy s (is_waiting r)
waiting_tells s r low =
    record {
      late = λ c after. ap (λ t. t && not (option_map_or (λ step. nat_le step (now r)) c.answered false)) (lt-leb c.asked (now r) (omega (arith, after, low)));
      same = λ c e a.
          ap (λ t. nat_le c.asked (now r) && not t) (not_yet s (now r) c.answered a.one_waits low)
          ∙ (λ j. nat_le (a.asked j) (now r) && not false)
          ∙ sym (ap (λ t. nat_le e.asked (now r) && not t) (not_yet s (now r) e.answered a.other_waits low));
    }

module _ (place : Place) (s : ℕ) (test : AskRecord → Bool) (tells : TellsBy s test) where
  asks_late : (index root : ℕ) (path : List ℕ) (number : ℕ) (clock : List ℕ) (cs : List AskRecord) → AsksLate s cs → asks_from place test index root path number clock cs ≡ []
  asks_late index root path number clock [] late = refl
  asks_late index root path number clock (c ∷ cs) late =
      ap (λ t. (if t && not (is_spent clock) then as_made place index root path number clock c ∷ [] else []) ++ asks_from place test index root path (number + 1) (unwrap_or c.after clock) cs)
      (tells.late c late.0)
      ∙ asks_late index root path (number + 1) (unwrap_or c.after clock) cs late.1

  asks_same : (index root : ℕ) (path : List ℕ) (number : ℕ) (clock : List ℕ) (cs es : List AskRecord) → AsksAgree s cs es
      → asks_from place test index root path number clock cs ≡ asks_from place test index root path number clock es
  asks_same index root path number clock [] [] agree = refl
  asks_same index root path number clock [] (e ∷ es) agree = absurd agree
  asks_same index root path number clock (c ∷ cs) [] agree = absurd agree
  asks_same index root path number clock (c ∷ cs) (e ∷ es) (inl same) =
      ap (λ l. (if test c && not (is_spent clock) then as_made place index root path number clock c ∷ [] else []) ++ l)
      (asks_same index root path (number + 1) (unwrap_or c.after clock) cs es same.1)
      ∙ ap (λ (x : AskRecord). (if test x && not (is_spent clock) then as_made place index root path number clock x ∷ [] else []) ++ asks_from place test index root path (number + 1) (unwrap_or x.after clock) es) same.0
  asks_same index root path number clock (c ∷ cs) (e ∷ es) (inr a) =
      let told = tells.same c e a.0 in
      ap (λ l. (if test c && not (is_spent clock) then as_made place index root path number clock c ∷ [] else []) ++ l) (asks_late index root path (number + 1) (unwrap_or c.after clock) cs a.1)
      ∙ (λ j. (if told j && not (is_spent clock)
      then as_made place index root path number clock (record c { callee = a.0.callee j; procedure = a.0.procedure j; arguments = a.0.arguments j }) ∷ []
      else []) ++ [])
      ∙ sym (ap (λ l. (if test e && not (is_spent clock) then as_made place index root path number clock e ∷ [] else []) ++ l) (asks_late index root path (number + 1) (unwrap_or e.after clock) es a.2))

  of_late : (index : ℕ) (runs : List RunRecord) → RunsLate s runs → asks_of place test index runs ≡ []
  of_late index [] late = refl
  of_late index (run ∷ runs) late =
      ap (λ l. l ++ asks_of place test (index + 1) runs) (asks_late index run.root run.path 0 run.entry run.asks late.0.asks) ∙ of_late (index + 1) runs late.1

  run_asks_same : (index : ℕ) (x y : RunRecord) → RunAgrees s x y
      → asks_from place test index x.root x.path 0 x.entry x.asks ≡ asks_from place test index y.root y.path 0 y.entry y.asks
  run_asks_same index x y a =
      asks_same index x.root x.path 0 x.entry x.asks y.asks a.asks ∙ (λ j. asks_from place test index (a.start j).root (a.start j).path 0 (a.start j).clock y.asks)

  of_same : (index : ℕ) (xs ys : List RunRecord) → RunsAgree s xs ys → asks_of place test index xs ≡ asks_of place test index ys
  of_same index [] ys late = sym (of_late index ys late)
  of_same index (x ∷ xs) [] late = of_late index (x ∷ xs) late
  of_same index (x ∷ xs) (y ∷ ys) (inl same) =
      ap (λ l. asks_from place test index x.root x.path 0 x.entry x.asks ++ l) (of_same (index + 1) xs ys same.1)
      ∙ ap (λ (run : RunRecord). asks_from place test index run.root run.path 0 run.entry run.asks ++ asks_of place test (index + 1) ys) same.0
  of_same index (x ∷ xs) (y ∷ ys) (inr (inl a)) =
      ap (λ l. asks_from place test index x.root x.path 0 x.entry x.asks ++ l) (of_late (index + 1) xs a.1)
      ∙ ap (λ l. l ++ []) (run_asks_same index x y a.0)
      ∙ sym (ap (λ l. asks_from place test index y.root y.path 0 y.entry y.asks ++ l) (of_late (index + 1) ys a.2))
  of_same index (x ∷ xs) (y ∷ ys) (inr (inr late)) = of_late index (x ∷ xs) late.0 ∙ sym (of_late index (y ∷ ys) late.1)

  pub asks_of_record : (one other : MemberRecord) → Agree s one other → asks_of place test one.from one.runs ≡ asks_of place test other.from other.runs
  asks_of_record one other a = elim a.from [
    | inl from ↦ of_same one.from one.runs other.runs a.runs ∙ ap (λ index. asks_of place test index other.runs) from
    | inr late ↦ of_late one.from one.runs late.0 ∙ sym (of_late other.from other.runs late.1)
  ]

-- ---- the run of an index

abbrev LateAt : ℕ → Option RunRecord → Type 0
LateAt s None = Unit {0}
LateAt s (Some run) = LateRun s run

abbrev SlotsAgree : ℕ → Option RunRecord → Option RunRecord → Type 0
SlotsAgree s None o = LateAt s o
SlotsAgree s (Some x) None = LateRun s x
SlotsAgree s (Some x) (Some y) = (x ≡ y) ⊎ (RunAgrees s x y ⊎ (LateRun s x × LateRun s y))

late_slots : (s : ℕ) (o u : Option RunRecord) → LateAt s o → LateAt s u → SlotsAgree s o u
late_slots s None u one other = other
late_slots s (Some x) None one other = one
late_slots s (Some x) (Some y) one other = inr (inr (one, other))

late_at : (s : ℕ) (runs : List RunRecord) (n : ℕ) → RunsLate s runs → LateAt s (slice_get runs n)
late_at s [] n late = tt
late_at s (run ∷ runs) zero late = late.0
late_at s (run ∷ runs) (suc n) late = late_at s runs n late.1

slots_agree : (s : ℕ) (xs ys : List RunRecord) (n : ℕ) → RunsAgree s xs ys → SlotsAgree s (slice_get xs n) (slice_get ys n)
slots_agree s [] ys n late = late_at s ys n late
slots_agree s (x ∷ xs) [] n late = late_slots s (slice_get (x ∷ xs) n) None (late_at s (x ∷ xs) n late) tt
slots_agree s (x ∷ xs) (y ∷ ys) zero (inl same) = inl same.0
slots_agree s (x ∷ xs) (y ∷ ys) zero (inr (inl a)) = inr (inl a.0)
slots_agree s (x ∷ xs) (y ∷ ys) zero (inr (inr late)) = inr (inr (late.0.0, late.1.0))
slots_agree s (x ∷ xs) (y ∷ ys) (suc n) (inl same) = slots_agree s xs ys n same.1
slots_agree s (x ∷ xs) (y ∷ ys) (suc n) (inr (inl a)) = late_slots s (slice_get xs n) (slice_get ys n) (late_at s xs n a.1) (late_at s ys n a.2)
slots_agree s (x ∷ xs) (y ∷ ys) (suc n) (inr (inr late)) = late_slots s (slice_get xs n) (slice_get ys n) (late_at s xs n late.0.1) (late_at s ys n late.1.1)

late_of : (s : ℕ) (kept : MemberRecord) (index : ℕ) → RunsLate s kept.runs → LateAt s (run_of kept index)
late_of s kept index late = by_test (nat_lt index kept.from)
  where
    by_test : (t : Bool) → LateAt s (if t then None else slice_get kept.runs (index - kept.from))
    by_test true = tt
    by_test false = late_at s kept.runs (index - kept.from) late

run_slots : (s : ℕ) (one other : MemberRecord) → Agree s one other → (index : ℕ) → SlotsAgree s (run_of one index) (run_of other index)
run_slots s one other a index = elim a.from [
  | inl from ↦ subst (λ n. SlotsAgree s (run_of one index) (if nat_lt index n then None else slice_get other.runs (index - n))) from (by_test (nat_lt index one.from))
  | inr late ↦ late_slots s (run_of one index) (run_of other index) (late_of s one index late.0) (late_of s other index late.1)
]
  where
    by_test : (t : Bool) → SlotsAgree s (if t then None else slice_get one.runs (index - one.from)) (if t then None else slice_get other.runs (index - one.from))
    by_test true = tt
    by_test false = slots_agree s one.runs other.runs (index - one.from) a.runs

-- what is said of a run, but not of one that is late
record SaysBy {X : Type 0} (s : ℕ) (says : RunRecord → X) (nothing : X) : Type 0 where
  late : (run : RunRecord) → LateRun s run → says run ≡ nothing
  same : (x y : RunRecord) → RunAgrees s x y → says x ≡ says y

slot_says : {X : Type 0} (s : ℕ) (says : RunRecord → X) (nothing : X) → SaysBy s says nothing → (o u : Option RunRecord) → SlotsAgree s o u → option_map_or says o nothing ≡ option_map_or says u nothing
slot_says s says nothing by None None agree = refl
slot_says s says nothing by None (Some y) agree = sym (by.late y agree)
slot_says s says nothing by (Some x) None agree = by.late x agree
slot_says s says nothing by (Some x) (Some y) (inl same) = ap says same
slot_says s says nothing by (Some x) (Some y) (inr (inl a)) = by.same x y a
slot_says s says nothing by (Some x) (Some y) (inr (inr late)) = by.late x late.0 ∙ sym (by.late y late.1)

-- ---- what was by then

module _ (s : ℕ) (one other : MemberRecord) (a : Agree s one other) where
  started_same : (index step : ℕ) → step ≤ s → was_started one index step ≡ was_started other index step
  started_same index step low =
      slot_says s (λ (run : RunRecord). nat_lt run.started step) false
      (record {
        late = λ run late. (let after = late.started in le-ltb run.started step (omega (arith, after, low)));
        same = λ x y g j. nat_lt (g.started j) step;
      }) (run_of one index) (run_of other index) (run_slots s one other a index)

  ends_same : (p : Past) → now p ≤ s → (place : Place) (boot : List View) (begins : Joiner) (first : List ValueTree) (index : ℕ) → ends_now place boot begins first one p index ≡ ends_now place boot begins first other p index
  ends_same p low place boot begins first index =
      slot_says s (λ (run : RunRecord). option_map_or (nat_eq (now p)) run.ended false) false
      (record {
        late = λ run late. not_at s (now p) run.ended late.not_ended low;
        same = λ x y g. not_at s (now p) x.ended g.one_open low ∙ sym (not_at s (now p) y.ended g.other_open low);
      }) (run_of one index) (run_of other index) (run_slots s one other a index)

  -- ---- returns

  module _ (troupe : ℕ) (begins : Joiner) where
    replies_same : (call : HeldCall) (p : Past) → now p ≤ s → reply_by troupe begins one call p ≡ reply_by troupe begins other call p
    replies_same call p low = by_slots (run_of one (index_of troupe call.header)) (run_of other (index_of troupe call.header)) (run_slots s one other a (index_of troupe call.header))
      where
        says : RunRecord → Option (List ℕ)
        says run = if has_ended run p then Some (reply_message (reply_of_run run)) else None

        none_says : (run : RunRecord) → NotBy s run.ended → says run ≡ None
        none_says run late = ap (λ t. if t then Some (reply_message (reply_of_run run)) else None) (not_yet s (now p) run.ended late low)

        by_slots : (o u : Option RunRecord) → SlotsAgree s o u
            → option_and_then (λ (run : RunRecord). if has_ended run p then Some (reply_message (reply_of_run run)) else None) o
            ≡ option_and_then (λ (run : RunRecord). if has_ended run p then Some (reply_message (reply_of_run run)) else None) u
        by_slots None None agree = refl
        by_slots None (Some y) agree = sym (none_says y agree.not_ended)
        by_slots (Some x) None agree = none_says x agree.not_ended
        by_slots (Some x) (Some y) (inl same) = ap says same
        by_slots (Some x) (Some y) (inr (inl g)) = none_says x g.one_open ∙ sym (none_says y g.other_open)
        by_slots (Some x) (Some y) (inr (inr late)) = none_says x late.0.not_ended ∙ sym (none_says y late.1.not_ended)

    stale_same : (step : ℕ) (call : HeldCall) (p : Past) → now p ≤ s → is_stale troupe begins one step call p ≡ is_stale troupe begins other step call p
    stale_same step call p low =
        ap (λ t. nat_lt call.header.server_incarnation (required_incarnation p) && (nat_eq step (now p) || not t)) (started_same (index_of troupe call.header) (now p) low)

    return_same : (step : ℕ) (call : HeldCall) (p : Past) → now p ≤ s → return_at troupe begins one step call p ≡ return_at troupe begins other step call p
    return_same step call p low =
        λ j.
        if nat_lt (now p) step then None
        else if stale_same step call p low j then Some (stale_message (required_incarnation p))
        else if is_before troupe begins one call p then Some (before_message (first_of (phase begins p)))
        else replies_same call p low j

    owed_same : (step : ℕ) (call : HeldCall) (p : Past) → Rises p → now p ≤ s → return_owed troupe begins one step call p ≡ return_owed troupe begins other step call p
    owed_same step call p rises low = same_first (return_at troupe begins one step call) (return_at troupe begins other step call) s p rises low (λ q below. return_same step call q below)

  -- ---- snapshots

  module _ (p : Past) (low : now p ≤ s) where
    abbrev early : RunRecord → Bool
    early run = nat_lt run.started (now p)

    late_early : (run : RunRecord) → LateRun s run → early run ≡ false
    late_early run late = (let after = late.started in le-ltb run.started (now p) (omega (arith, after, low)))

    none_early : (runs : List RunRecord) → RunsLate s runs → filter early runs ≡ []
    none_early [] late = refl
    none_early (run ∷ runs) late = ap (λ t. cond t (run ∷ filter early runs) (filter early runs)) (late_early run late.0) ∙ none_early runs late.1

    abbrev ended : RunRecord → Bool
    ended run = has_ended run p

    abbrev EarlySame : List RunRecord → List RunRecord → Type 0
    EarlySame xs ys = (filter early xs ≡ filter early ys) ⊎ ((list_all ended (filter early xs) ≡ false) × (list_all ended (filter early ys) ≡ false))

    early_same : (xs ys : List RunRecord) → RunsAgree s xs ys → EarlySame xs ys
    early_same [] ys late = inl (sym (none_early ys late))
    early_same (x ∷ xs) [] late = inl (none_early (x ∷ xs) late)
    early_same (x ∷ xs) (y ∷ ys) (inl same) = by_rest (early_same xs ys same.1)
      where
        open_before : (run : RunRecord) (runs : List RunRecord) → list_all ended (filter early runs) ≡ false → (t : Bool) → list_all ended (cond t (run ∷ filter early runs) (filter early runs)) ≡ false
        open_before run runs is true = and_right (ended run) (list_all ended (filter early runs)) is
        open_before run runs is false = is

        by_rest : EarlySame xs ys → EarlySame (x ∷ xs) (y ∷ ys)
        by_rest (inl rest) = inl (λ j. cond (early (same.0 j)) (same.0 j ∷ rest j) (rest j))
        by_rest (inr still) = inr (open_before x xs still.0 (early x), open_before y ys still.1 (early y))
    early_same (x ∷ xs) (y ∷ ys) (inr (inl g)) = by_test (early x) refl
      where
        told : early x ≡ early y
        told = λ j. nat_lt (g.0.started j) (now p)

        open_one : (run : RunRecord) (runs : List RunRecord) → RunsLate s runs → NotBy s run.ended → early run ≡ true → list_all ended (filter early (run ∷ runs)) ≡ false
        open_one run runs late still is =
            ap (λ t. list_all ended (cond t (run ∷ filter early runs) (filter early runs))) is
            ∙ ap (λ l. list_all ended (run ∷ l)) (none_early runs late)
            ∙ ap (λ t. t && true) (not_yet s (now p) run.ended still low)

        none_one : (run : RunRecord) (runs : List RunRecord) → RunsLate s runs → early run ≡ false → filter early (run ∷ runs) ≡ []
        none_one run runs late is = ap (λ t. cond t (run ∷ filter early runs) (filter early runs)) is ∙ none_early runs late

        by_test : (t : Bool) → early x ≡ t → EarlySame (x ∷ xs) (y ∷ ys)
        by_test true is = inr (open_one x xs g.1 g.0.one_open is, open_one y ys g.2 g.0.other_open (sym told ∙ is))
        by_test false is = inl (none_one x xs g.1 is ∙ sym (none_one y ys g.2 (sym told ∙ is)))
    early_same (x ∷ xs) (y ∷ ys) (inr (inr late)) = inl (none_early (x ∷ xs) late.0 ∙ sym (none_early (y ∷ ys) late.1))

    module _ (begins : Joiner) (first : List ValueTree) (step : ℕ) where
      abbrev given_where : Bool → Bool → List RunRecord → Option (List ℕ)
      given_where before idle runs =
          if before then None
          else if idle then Some (snapshot_bytes (count_after (first_of (phase begins p)) (length runs)) (state_after (began begins first p) runs))
          else None

      abbrev given_by : List RunRecord → Option (List ℕ)
      given_by runs = given_where (nat_lt (now p) step) (is_active (phase begins p) && list_all (λ run. has_ended run p) runs) runs

      none_by : (runs : List RunRecord) → list_all ended runs ≡ false → given_by runs ≡ None
      none_by runs is = by_test (nat_lt (now p) step)
        where
          by_test : (before : Bool) → given_where before (is_active (phase begins p) && list_all (λ run. has_ended run p) runs) runs ≡ None
          by_test true = refl
          by_test false = ap (λ t. given_where false t runs) (and_right (is_active (phase begins p)) (list_all ended runs) is)

      snapshot_same : snapshot_at begins first one step p ≡ snapshot_at begins first other step p
      snapshot_same = by_early (early_same one.runs other.runs a.runs)
        where
          by_early : EarlySame one.runs other.runs → given_by (runs_before one p) ≡ given_by (runs_before other p)
          by_early (inl same) = ap given_by same
          by_early (inr still) = none_by (runs_before one p) still.0 ∙ sym (none_by (runs_before other p) still.1)

  snapshots_same : (begins : Joiner) (first : List ValueTree) (step : ℕ) (p : Past) → Rises p → now p ≤ s → snapshot_owed begins first one step p ≡ snapshot_owed begins first other step p
  snapshots_same begins first step p rises low = same_first (snapshot_at begins first one step) (snapshot_at begins first other step) s p rises low (λ q below. snapshot_same q below begins first step)

  -- ---- what was made in a step

  -- the runs of a list are those of a record from an index on
  abbrev Stand : MemberRecord → ℕ → List RunRecord → Type 0
  Stand kept index runs = (n : ℕ) → run_of kept (index + n) ≡ slice_get runs n

  stand_all : (kept : MemberRecord) → Stand kept kept.from kept.runs
  stand_all kept n =
      ap (λ t. if t then None else slice_get kept.runs ((kept.from + n) - kept.from)) (le-ltb (kept.from + n) kept.from (omega arith))
      ∙ ap (slice_get kept.runs) (let same : (kept.from + n) - kept.from ≡ n = omega arith in same)

  stand_first : (kept : MemberRecord) (index : ℕ) (run : RunRecord) (runs : List RunRecord) → Stand kept index (run ∷ runs) → run_of kept index ≡ Some run
  stand_first kept index run runs stand = ap (run_of kept) (let same : index ≡ index + 0 = omega arith in same) ∙ stand 0

  stand_next : (kept : MemberRecord) (index : ℕ) (run : RunRecord) (runs : List RunRecord) → Stand kept index (run ∷ runs) → Stand kept (index + 1) runs
  stand_next kept index run runs stand n = ap (run_of kept) (let same : (index + 1) + n ≡ index + suc n = omega arith in same) ∙ stand (suc n)

  module _ (place : Place) (boot : List View) (begins : Joiner) (first : List ValueTree) (p : Past) (rises : Rises p) (low : now p ≤ s) where
    answered_same : (e : ℕ × HeldCall) → is_answered_by_end place boot begins first one p e ≡ is_answered_by_end place boot begins first other p e
    answered_same e = λ j.
        not (stale_same place.troupe begins e.0 e.1 p low j) && not (is_before place.troupe begins one e.1 p) && ends_same p low place boot begins first (index_of place.troupe e.1.header) j

    returns_same : (test check : ℕ × HeldCall → Bool) → ((e : ℕ × HeldCall) → test e ≡ check e) → returns_now place boot begins first one p test ≡ returns_now place boot begins first other p check
    returns_same test check same = λ j.
        flat_map (λ (e : ℕ × HeldCall). if_now p e.1.sender (owed_same place.troupe begins e.0 e.1 p rises low j)) (filter (λ (e : ℕ × HeldCall). same e j) (asks p))

    at_once_same : returns_at_once place boot begins first one p ≡ returns_at_once place boot begins first other p
    at_once_same =
        returns_same (λ e. not (is_answered_by_end place boot begins first one p e)) (λ e. not (is_answered_by_end place boot begins first other p e)) (λ e. ap not (answered_same e))

    -- ---- by a run

    ended_same : (index : ℕ) → returns_now place boot begins first one p (λ e. is_answered_by_end place boot begins first one p e && is_of_index place.troupe index e.1)
        ≡ returns_now place boot begins first other p (λ e. is_answered_by_end place boot begins first other p e && is_of_index place.troupe index e.1)
    ended_same index =
        returns_same (λ e. is_answered_by_end place boot begins first one p e && is_of_index place.troupe index e.1)
        (λ e. is_answered_by_end place boot begins first other p e && is_of_index place.troupe index e.1)
        (λ e. ap (λ t. t && is_of_index place.troupe index e.1) (answered_same e))

    run_made : (index : ℕ) (x y : RunRecord) → RunAgrees s x y → made_by_run place boot begins first one p index x ≡ made_by_run place boot begins first other p index y
    run_made index x y g = λ j. flat_map (first_calls place boot (knows place boot p)) (run_asks_same place s (is_new p) (new_tells s p low) index x y g j) ++ ended_same index j

    own_made : (index : ℕ) (x : RunRecord) → made_by_run place boot begins first one p index x ≡ made_by_run place boot begins first other p index x
    own_made index x = λ j. flat_map (first_calls place boot (knows place boot p)) (asks_from place (is_new p) index x.root x.path 0 x.entry x.asks) ++ ended_same index j

    -- a late run makes nothing
    late_made : (kept : MemberRecord) (index : ℕ) (run : RunRecord) → run_of kept index ≡ Some run → LateRun s run → made_by_run place boot begins first kept p index run ≡ []
    late_made kept index run there late =
        ap (λ l. flat_map (first_calls place boot (knows place boot p)) l ++ returns_now place boot begins first kept p test) (asks_late place s (is_new p) (new_tells s p low) index run.root run.path 0 run.entry run.asks late.asks)
        ∙ ap (flat_map (λ (e : ℕ × HeldCall). if_now p e.1.sender (return_owed place.troupe begins kept e.0 e.1 p))) (none_pass test none (asks p))
      where
        test : ℕ × HeldCall → Bool
        test e = is_answered_by_end place boot begins first kept p e && is_of_index place.troupe index e.1

        ends_not : ends_now place boot begins first kept p index ≡ false
        ends_not = ap (λ o. option_map_or (λ (r : RunRecord). option_map_or (nat_eq (now p)) r.ended false) o false) there ∙ not_at s (now p) run.ended late.not_ended low

        by_index : (e : ℕ × HeldCall) (t : Bool) → is_of_index place.troupe index e.1 ≡ t → (is_answered_by_end place boot begins first kept p e && t) ≡ false
        by_index e true is =
            let same : index_of place.troupe e.1.header ≡ index = eqb-true (index_of place.troupe e.1.header) index is in
            ap (λ n. (not (is_stale place.troupe begins kept e.0 e.1 p) && not (is_before place.troupe begins kept e.1 p) && ends_now place boot begins first kept p n) && true) same
            ∙ ap (λ t. (not (is_stale place.troupe begins kept e.0 e.1 p) && not (is_before place.troupe begins kept e.1 p) && t) && true) ends_not
            ∙ ap (λ t. t && true) (and_right (not (is_stale place.troupe begins kept e.0 e.1 p) && not (is_before place.troupe begins kept e.1 p)) false refl)
        by_index e false is = and_right (is_answered_by_end place boot begins first kept p e) false refl

        none : (e : ℕ × HeldCall) → test e ≡ false
        none e = by_index e (is_of_index place.troupe index e.1) refl

    -- ---- by all runs

    late_all : (kept : MemberRecord) (test : RunRecord → Bool) (index : ℕ) (runs : List RunRecord) → Stand kept index runs → RunsLate s runs → made_by_runs place boot begins first kept test p index runs ≡ []
    late_all kept test index [] stand late = refl
    late_all kept test index (run ∷ runs) stand late =
        ap (λ l. l ++ made_by_runs place boot begins first kept test p (index + 1) runs) (by_test (test run))
        ∙ late_all kept test (index + 1) runs (stand_next kept index run runs stand) late.1
      where
        by_test : (t : Bool) → (if t then made_by_run place boot begins first kept p index run else []) ≡ []
        by_test true = late_made kept index run (stand_first kept index run runs stand) late.0
        by_test false = refl

    module _ (test : RunRecord → Bool) (told : (x y : RunRecord) → RunAgrees s x y → test x ≡ test y) where
      runs_made : (index : ℕ) (xs ys : List RunRecord) → Stand one index xs → Stand other index ys → RunsAgree s xs ys
          → made_by_runs place boot begins first one test p index xs ≡ made_by_runs place boot begins first other test p index ys
      runs_made index [] ys one_stand other_stand late = sym (late_all other test index ys other_stand late)
      runs_made index (x ∷ xs) [] one_stand other_stand late = late_all one test index (x ∷ xs) one_stand late
      runs_made index (x ∷ xs) (y ∷ ys) one_stand other_stand (inl same) =
          let rest = runs_made (index + 1) xs ys (stand_next one index x xs one_stand) (stand_next other index y ys other_stand) same.1 in
          (λ j. (if test x then own_made index x j else []) ++ rest j)
          ∙ ap (λ (run : RunRecord). (if test run then made_by_run place boot begins first other p index run else []) ++ made_by_runs place boot begins first other test p (index + 1) ys) same.0
      runs_made index (x ∷ xs) (y ∷ ys) one_stand other_stand (inr (inl g)) =
          let is = told x y g.0 in
          let one_none = late_all one test (index + 1) xs (stand_next one index x xs one_stand) g.1 in
          let other_none = late_all other test (index + 1) ys (stand_next other index y ys other_stand) g.2 in
          λ j. (if is j then run_made index x y g.0 j else []) ++ (one_none ∙ sym other_none) j
      runs_made index (x ∷ xs) (y ∷ ys) one_stand other_stand (inr (inr late)) =
          late_all one test index (x ∷ xs) one_stand late.0 ∙ sym (late_all other test index (y ∷ ys) other_stand late.1)

      record_made : made_by_runs place boot begins first one test p one.from one.runs ≡ made_by_runs place boot begins first other test p other.from other.runs
      record_made = elim a.from [
        | inl from ↦
            runs_made one.from one.runs other.runs (stand_all one) (subst (λ index. Stand other index other.runs) (sym from) (stand_all other)) a.runs
            ∙ ap (λ index. made_by_runs place boot begins first other test p index other.runs) from
        | inr late ↦ late_all one test one.from one.runs (stand_all one) late.0 ∙ sym (late_all other test other.from other.runs (stand_all other) late.1)
      ]

    snapshots_given : snapshots_now place boot begins first one p ≡ snapshots_now place boot begins first other p
    snapshots_given = λ j. flat_map (λ (e : ℕ × Caller). if_now p e.1 (snapshots_same begins first e.0 p rises low j)) (requests p)

    executed_same : executed_then place boot begins first one p ≡ executed_then place boot begins first other p
    executed_same =
        let before = record_made (λ run. nat_lt run.started (now p)) (λ x y g j. nat_lt (g.started j) (now p)) in
        let behind = record_made (λ run. not (nat_lt run.started (now p))) (λ x y g j. not (nat_lt (g.started j) (now p))) in
        λ j. (before j ++ snapshots_given j) ++ behind j

  -- ---- asks and Lookups

  module _ (place : Place) (boot : List View) where
    pub news_same : (p : Past) → now p ≤ s → new_asks place boot one p ≡ new_asks place boot other p
    news_same p low = asks_of_record place s (is_new p) (new_tells s p low) one other a

    waiting_same : (p : Past) → now p ≤ s → asks_of place (is_waiting p) one.from one.runs ≡ asks_of place (is_waiting p) other.from other.runs
    waiting_same p low = asks_of_record place s (is_waiting p) (waiting_tells s p low) one other a

    opens_same : (p : Past) → Rises p → now p ≤ s → open_asks place boot one p ≡ open_asks place boot other p
    opens_same p rises low =
        open_same place boot one other (s + 1) (λ r below. news_same r (omega (arith, below))) (λ r below. waiting_same r (omega (arith, below))) p rises (omega (arith, low))

    looks_same : (begins : Joiner) (p : Past) → Rises p → now p ≤ s → lookups place boot begins one p ≡ lookups place boot begins other p
    looks_same begins p rises low =
        lookups_same place boot begins one other (s + 1) (λ call r below. replies_same place.troupe begins call r (omega (arith, below))) p rises (omega (arith, low))

    -- what was made in a step is the same
    pub step_same : (begins : Joiner) (first : List ValueTree) (before p : Past) → Rises before → now before ≤ s → Rises p → now p ≤ s
        → made_in_step place boot begins first one before p ≡ made_in_step place boot begins first other before p
    step_same begins first before p before_rises before_low rises low =
        let opens = opens_same before before_rises before_low in
        let at_once = at_once_same place boot begins first p rises low in
        let executed = executed_same place boot begins first p rises low in
        let looks = looks_same begins p rises low in
        λ j. (((calls_behind place boot p (opens j) ++ for_what_came place boot begins p) ++ at_once j) ++ executed j) ++ looks j

  -- ---- which procedure an ask calls

  late_ask : (cs : List AskRecord) (n : ℕ) (c : AskRecord) → AsksLate s cs → slice_get cs n ≡ Some c → c.asked ≤ s → ⊥
  late_ask [] n c late there low = absurd (none_is_some None c refl there)
  late_ask (x ∷ cs) zero c late there low = (let after = late.0 in let same = ap (λ (y : AskRecord). y.asked) (same_Some x c there) in omega (arith, after, same, low))
  late_ask (x ∷ cs) (suc n) c late there low = late_ask cs n c late.1 there low

  abbrev called : Option AskRecord → Option Callee
  called o = option_map callee_of o

  called_same : (cs es : List AskRecord) (n : ℕ) (c : AskRecord) → AsksAgree s cs es → slice_get cs n ≡ Some c → c.asked ≤ s → called (slice_get cs n) ≡ called (slice_get es n)
  called_same [] es n c agree there low = absurd (none_is_some None c refl there)
  called_same (x ∷ cs) [] n c agree there low = absurd agree
  called_same (x ∷ cs) (y ∷ es) zero c (inl same) there low = ap (λ z. called (Some z)) same.0
  called_same (x ∷ cs) (y ∷ es) zero c (inr g) there low = λ j. Some (g.0.callee j, g.0.procedure j)
  called_same (x ∷ cs) (y ∷ es) (suc n) c (inl same) there low = called_same cs es n c same.1 there low
  called_same (x ∷ cs) (y ∷ es) (suc n) c (inr g) there low = absurd (late_ask cs n c g.1 there low)

  run_called_same : (o u : Option RunRecord) (n : ℕ) (run : RunRecord) (c : AskRecord) → SlotsAgree s o u → o ≡ Some run → slice_get run.asks n ≡ Some c → c.asked ≤ s
      → called (option_and_then (λ (r : RunRecord). slice_get r.asks n) o) ≡ called (option_and_then (λ (r : RunRecord). slice_get r.asks n) u)
  run_called_same None u n run c agree is there low = absurd (none_is_some None run refl is)
  run_called_same (Some x) None n run c agree is there low = absurd (late_ask x.asks n c agree.asks (ap (λ (r : RunRecord). slice_get r.asks n) (same_Some x run is) ∙ there) low)
  run_called_same (Some x) (Some y) n run c (inl same) is there low = ap (λ (r : RunRecord). called (slice_get r.asks n)) same
  run_called_same (Some x) (Some y) n run c (inr (inl g)) is there low = called_same x.asks y.asks n c g.asks (ap (λ (r : RunRecord). slice_get r.asks n) (same_Some x run is) ∙ there) low
  run_called_same (Some x) (Some y) n run c (inr (inr late)) is there low =
      absurd (late_ask x.asks n c late.0.asks (ap (λ (r : RunRecord). slice_get r.asks n) (same_Some x run is) ∙ there) low)

  -- the two say the same of an ask that was made by then
  pub calls_same : (name : AskName) (number : ℕ) (run : RunRecord) (ask : AskRecord) → name.run ≡ one.from + number → slice_get one.runs number ≡ Some run → slice_get run.asks name.ask ≡ Some ask → ask.asked ≤ s
      → (recorded one name ≡ Some (callee_of ask)) × (recorded other name ≡ Some (callee_of ask))
  calls_same name number run ask index run_is ask_is low =
      let own = recorded_at one name run ask number at run_is ask_is in
      (own, sym same ∙ own)
    where
      at : name.run - one.from ≡ number
      at = omega (arith, index)

      late_run_at : (o : Option RunRecord) (x : RunRecord) → LateAt s o → o ≡ Some x → LateRun s x
      late_run_at None x late is = absurd (none_is_some None x refl is)
      late_run_at (Some y) x late is = subst (LateRun s) (same_Some y x is) late

      same : recorded one name ≡ recorded other name
      same = elim a.from [
        | inl from ↦
            run_called_same (slice_get one.runs (name.run - one.from)) (slice_get other.runs (name.run - one.from)) name.ask run ask
            (slots_agree s one.runs other.runs (name.run - one.from) a.runs) (ap (slice_get one.runs) at ∙ run_is) ask_is low
            ∙ ap (λ n. called (option_and_then (λ (r : RunRecord). slice_get r.asks name.ask) (slice_get other.runs (name.run - n)))) from
        | inr late ↦ absurd (late_ask run.asks name.ask ask (late_run_at (slice_get one.runs number) run (late_at s one.runs number late.0) run_is).asks ask_is low)
      ]
