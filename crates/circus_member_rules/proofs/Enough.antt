-- Starts enough: with more left than there are held calls it comes to the same.
use Rattle.std.proofs.Common.{◌≡◌, ℕ, zero, suc, ◌<◌, ◌≤◌, not, Bool, true, false, cond, if◌then◌else◌, List, [], ◌∷◌, map, filter, length, All, Option, Some, None, refl, sym, subst, ap, ◌∙◌, arith}
use Rattle.std.specs.Prelude.{slice_get}
use Rattle.std.specs.Option.{option_map_or}
use Rattle.std.proofs.lemmas.Bool.{eq-eqb}
use Rattle.std.proofs.lemmas.List.Elements.{All-nil, All-cons, All-weaker}
use Rattle.circus_value.specs.ValueTree.{ValueTree}
use Rattle.circus_value.specs.declared.outcome.Outcome.{Outcome}
use Rattle.circus_collate.specs.declared.kind.Kind.{Kind}
use Rattle.circus_collate.specs.declared.kind.Kind.TheVariants.{First, Majority, Unanimous, AtLeast, Watchdog}
use Rattle.circus_collate.specs.declared.view.View.{View}
use Rattle.circus_collate.specs.Giving.{place_of_value, first, unanimous, majority, reached, at_least, first_difference}
use Rattle.circus_model.specs.declared.signature.Signature.{Signature}
use Rattle.circus_model.specs.NextTurn.{NextTurn}
use Rattle.circus_model.specs.Behaviour.{IsModule}
use Rattle.circus_record.specs.declared.record.AskRecord.{AskRecord}
use Rattle.circus_record.specs.declared.record.RunRecord.{RunRecord}
use Rattle.circus_record.specs.declared.record.MemberRecord.{MemberRecord}
use Rattle.circus_gather.specs.declared.held.HeldCall.{HeldCall}
use Rattle.circus_gather.specs.Gathering.{Gathered, index_of, is_of_index, is_counted, is_same_call, expected_callers, call_to_start, given_call, as_said}
use Rattle.circus_performing.specs.declared.start.RunStart.{RunStart}
use Rattle.circus_performing.specs.Performing.{Performing, open_ask, last_of, is_active, begin_run, gone_on, most_turns}
use Rattle.circus_performing.specs.Record.{behaviour}
use Rattle.circus_member_rules.specs.MemberState.{MemberState, Doing, add_effects}
use Rattle.circus_performing.proofs.Ends.{last_more}
use Rattle.circus_performing.proofs.Records.{none_is_some}
use Rattle.circus_member_rules.specs.Rules.{index_of_last, snapshots_owed}
use Rattle.circus_member_rules.specs.Step.{name_of_last, asking_begun, is_idle, start_by_call, next_start, given_states, opened_by_view, opened_ask, ended_run, enter_run_of, after_turns, start_runs}
use Rattle.circus_member_rules.proofs.Writing.{none_is_idle}
use Rattle.circus_member_rules.proofs.Entering.{index_more, with_entered}
use Rattle.circus_member_rules.proofs.Starting.{and_right, none_from_test, given_is_chosen, next_is_ready, may_start, IsSoundNow, sound_given, sound_entered}

-- ---- no words

module _ {V : Type 0} (eq : V → V → Bool) (expected : V → List ℕ) where
  -- no collator gives a value over no words
  pub none_given : (kind : Kind) (down : List ℕ) → place_of_value eq expected [] kind down ≡ None
  unfolding first unanimous majority reached at_least first_difference
  none_given First down = refl
  none_given Watchdog down = refl
  none_given Unanimous down = refl
  none_given Majority down = refl
  none_given (AtLeast number) down = refl

-- so no call starts where none is held
none_to_start : (g : Gathered) (views : List View) (down : List ℕ) (kind : Kind) (index : ℕ) → length g.held ≡ 0 → call_to_start g views down kind index ≡ None
unfolding given_call
none_to_start g views down kind index none =
    ap (λ held. given_call views down kind (map as_said (filter (is_counted g.module g.required views index) held))) (no_items g.held none) ∙ over_none
  where
    no_items : (calls : List HeldCall) → length calls ≡ 0 → calls ≡ []
    no_items [] is = refl
    no_items (c ∷ cs) is = absurd (omega arith)

    over_none : given_call views down kind [] ≡ None
    over_none = rw (none_given is_same_call (expected_callers views) kind down) refl

-- ---- fewer calls

module _ {X : Type 0} (p : X → Bool) where
  no_more : (xs : List X) → length (filter p xs) ≤ length xs
  no_more [] = omega arith
  no_more (x ∷ xs) =
      let rest = no_more xs in
      elim (p x) as (λ b. length (cond b (x ∷ filter p xs) (filter p xs)) ≤ suc (length xs)) [ true ↦ omega arith | false ↦ omega arith ]

  -- each that doesn't pass makes them fewer
  pub all_shorten : (xs : List X) → All (λ x. p x ≡ false → length (filter p xs) < length xs) xs
  all_shorten [] = All-nil (λ x. p x ≡ false → 0 < 0)
  all_shorten (x ∷ xs) =
      All-cons (λ y. p y ≡ false → length (filter p (x ∷ xs)) < length (x ∷ xs)) x xs here
      (All-weaker (λ y. p y ≡ false → length (filter p xs) < length xs) (λ y. p y ≡ false → length (filter p (x ∷ xs)) < length (x ∷ xs)) later xs (all_shorten xs))
    where
      here : p x ≡ false → length (filter p (x ∷ xs)) < length (x ∷ xs)
      here out = let rest = no_more xs in rw out (omega arith)

      later : (y : X) → (p y ≡ false → length (filter p xs) < length xs) → p y ≡ false → length (filter p (x ∷ xs)) < length (x ∷ xs)
      later y rest out =
          let fewer = rest out in
          elim (p x) as (λ b. length (cond b (x ∷ filter p xs) (filter p xs)) < suc (length xs)) [ true ↦ omega arith | false ↦ omega arith ]

-- ---- what states are given changes no call

pub given_gathered : {M : Type 0} (d : Doing M) → (given_states d).member.gathered ≡ d.member.gathered
given_gathered {M} d = by_test (is_idle d.member.performing.kept)
  where
    by_test : (t : Bool) → let e : Doing M = if t then add_effects (record d { member = record d.member { requests = [] } }) (snapshots_owed d.member.performing.kept d.member.requests) else d in e.member.gathered ≡ d.member.gathered
    by_test true = refl
    by_test false = refl

pub given_performing : {M : Type 0} (d : Doing M) → (given_states d).member.performing ≡ d.member.performing
given_performing {M} d = by_test (is_idle d.member.performing.kept)
  where
    by_test : (t : Bool) → let e : Doing M = if t then add_effects (record d { member = record d.member { requests = [] } }) (snapshots_owed d.member.performing.kept d.member.requests) else d in e.member.performing ≡ d.member.performing
    by_test true = refl
    by_test false = refl

-- ---- a start whose run ends takes a call out

-- how many calls are held
abbrev pub held_by : {M : Type 0} → Doing M → ℕ
held_by d = length d.member.gathered.held

-- a member that waits isn't idle
waits_not_idle : (kept : MemberRecord) (ask : AskRecord) → open_ask kept ≡ Some ask → is_idle kept ≡ true → ⊥
waits_not_idle kept ask is idle =
    let none = none_from_test (open_ask kept) (and_right (is_active kept.phase) _ idle) in
    none_is_some (sym none ∙ is)

module _ {M : Type 0} where
  -- behind turns the member waits, or has fewer calls
  fewer_behind : (d : Doing M) (run : RunRecord) → last_of d.member.performing.kept.runs ≡ Some run → length (filter (λ c. not (is_of_index d.member.gathered.module (index_of_last d.member.performing.kept) c)) d.member.gathered.held) < held_by d → is_idle (after_turns d).member.performing.kept ≡ true → held_by (after_turns d) < held_by d
  fewer_behind d run at fewer idle = by_run (last_of d.member.performing.kept.runs) at idle
    where
      by_view : (r : RunRecord) (ask : AskRecord) → open_ask d.member.performing.kept ≡ Some ask → (o : Option View) → let e = option_map_or (opened_by_view d (name_of_last d.member.performing.kept) (asking_begun d.member.place d.member.performing.kept r ask)) o d in is_idle e.member.performing.kept ≡ true → held_by e < held_by d
      by_view r ask is None still = absurd (waits_not_idle d.member.performing.kept ask is still)
      by_view r ask is (Some view) still = absurd (waits_not_idle d.member.performing.kept ask is still)

      by_ask : (r : RunRecord) (o : Option AskRecord) → open_ask d.member.performing.kept ≡ o → let e = option_map_or (opened_ask d r) o (ended_run d r) in is_idle e.member.performing.kept ≡ true → held_by e < held_by d
      by_ask r None none still = fewer
      by_ask r (Some ask) is still = by_view r ask is (slice_get d.member.known.views ask.callee) still

      by_run : (o : Option RunRecord) → o ≡ Some run → let e = option_map_or (λ (r : RunRecord). option_map_or (opened_ask d r) (open_ask d.member.performing.kept) (ended_run d r)) o d in is_idle e.member.performing.kept ≡ true → held_by e < held_by d
      by_run None none still = cc
      by_run (Some r) some still = by_ask r (open_ask d.member.performing.kept) refl still

-- a call starts next where the member is idle
pub next_is_idle : {M : Type 0} (m : MemberState M) (call : HeldCall) → next_start m ≡ Some call → is_idle m.performing.kept ≡ true
next_is_idle m call next = by_test (is_idle m.performing.kept) next
  where
    by_test : (t : Bool) → (if t then call_to_start m.gathered m.known.views m.known.down m.place.calls m.performing.kept.count else None) ≡ Some call → t ≡ true
    by_test false none = cc
    by_test true some = refl

-- the call that starts is one of those that are held
taken_out : {M : Type 0} (m : MemberState M) (call : HeldCall) → next_start m ≡ Some call → (p : HeldCall → Bool) → p call ≡ false → length (filter p m.gathered.held) < length m.gathered.held
taken_out m call next p out = by_test (is_idle m.performing.kept) next
  where
    by_test : (t : Bool) → (if t then call_to_start m.gathered m.known.views m.known.down m.place.calls m.performing.kept.count else None) ≡ Some call → length (filter p m.gathered.held) < length m.gathered.held
    by_test false none = cc
    by_test true some =
        let P : HeldCall → Type 0 = λ c. p c ≡ false → length (filter p m.gathered.held) < length m.gathered.held in
        let c = given_is_chosen P m.gathered.module m.gathered.required m.known.views m.known.down m.place.calls m.performing.kept.count m.gathered.held call (all_shorten p m.gathered.held) some in
        c.holds out

-- so one is held
pub any_held : {M : Type 0} (m : MemberState M) (call : HeldCall) → next_start m ≡ Some call → 0 < length m.gathered.held
any_held m call next = let fewer = taken_out m call next (λ c. false) refl in omega (arith, fewer)

-- ---- starts

module _ {M : Type 0} (declared : M → Signature) (turn : M → List ValueTree → ℕ → List ValueTree → List Outcome → NextTurn) (first : M → List ValueTree) (lawful : (hosted : M) → IsModule (behaviour declared turn first hosted)) (step : ℕ) where
  -- the start of a call by a member
  abbrev pub start_by : MemberState M → HeldCall → RunStart
  start_by m call = start_by_call m.place.troupe (declared m.performing.hosted).procedures call

  -- where its run ends
  pub fewer_started : (d : Doing M) (call : HeldCall) → IsSoundNow declared turn first lawful d.member → next_start d.member ≡ Some call → let e = enter_run_of turn step d (start_by d.member call) in is_idle e.member.performing.kept ≡ true → held_by e < held_by d
  fewer_started d call sound next idle =
      let m = d.member in
      let b = behaviour declared turn first m.performing.hosted in
      let kept = m.performing.kept in
      let start = start_by m call in
      let law = lawful m.performing.hosted in
      let ready = next_is_ready b m call sound next in
      let x : Doing M = record d { member = with_entered b law m step start } in
      let gone = gone_on step (b.turn kept.state start.procedure start.arguments) most_turns (begin_run step start) in
      let index : index_of_last x.member.performing.kept ≡ kept.count = index_more kept gone ∙ sym (none_is_idle b m.performing.began kept sound.kept ready.idle).count in
      let out : not (is_of_index m.gathered.module (index_of_last x.member.performing.kept) call) ≡ false =
      ap not (eq-eqb (index_of m.gathered.module call.header) (index_of_last x.member.performing.kept) (ready.index ∙ sym index)) in
      fewer_behind x gone (last_more kept.runs gone)
      (taken_out m call next (λ c. not (is_of_index m.gathered.module (index_of_last x.member.performing.kept) c)) out)
      idle

  -- so many starts are enough
  abbrev pub IsEnough : ℕ → Doing M → Type 0
  IsEnough left d = is_idle d.member.performing.kept ≡ true → held_by d ≤ left

  -- a start more
  one_start : (left : ℕ) (d : Doing M) → start_runs declared turn step (suc left) d ≡ option_map_or (λ call. start_runs declared turn step left (enter_run_of turn step (given_states d) (start_by (given_states d).member call))) (next_start (given_states d).member) (given_states d)
  unfolding start_runs
  one_start left d = refl

  no_start : (d : Doing M) → start_runs declared turn step 0 d ≡ given_states d
  unfolding start_runs
  no_start d = refl

  -- where none starts next, only states are given
  pub none_started : (left : ℕ) (d : Doing M) → next_start (given_states d).member ≡ None → start_runs declared turn step left d ≡ given_states d
  none_started zero d none = no_start d
  none_started (suc left) d none =
      one_start left d ∙ ap (λ o. option_map_or (λ call. start_runs declared turn step left (enter_run_of turn step (given_states d) (start_by (given_states d).member call))) o (given_states d)) none

  pub once_started : (left : ℕ) (d : Doing M) (call : HeldCall) → next_start (given_states d).member ≡ Some call → start_runs declared turn step (suc left) d ≡ start_runs declared turn step left (enter_run_of turn step (given_states d) (start_by (given_states d).member call))
  once_started left d call some =
      one_start left d ∙ ap (λ o. option_map_or (λ c. start_runs declared turn step left (enter_run_of turn step (given_states d) (start_by (given_states d).member c))) o (given_states d)) some

  -- none starts where enough is nothing
  pub nothing_left : (d : Doing M) → IsEnough 0 d → next_start (given_states d).member ≡ None
  nothing_left d enough = by_test (is_idle e.member.performing.kept) refl
    where
      e : Doing M
      e = given_states d

      by_test : (t : Bool) → is_idle e.member.performing.kept ≡ t → (if t then call_to_start e.member.gathered e.member.known.views e.member.known.down e.member.place.calls e.member.performing.kept.count else None) ≡ None
      by_test false idle = refl
      by_test true idle =
          let here : is_idle d.member.performing.kept ≡ true = subst (λ (p : Performing M). is_idle p.kept ≡ true) (given_performing d) idle in
          let none : held_by d ≤ 0 = enough here in
          let same : held_by e ≡ held_by d = ap (λ (g : Gathered). length g.held) (given_gathered d) in
          none_to_start e.member.gathered e.member.known.views e.member.known.down e.member.place.calls e.member.performing.kept.count (omega (arith, none, same))

  -- one start less is enough behind a start
  pub less_enough : (left : ℕ) (d : Doing M) (call : HeldCall) → IsSoundNow declared turn first lawful d.member → next_start (given_states d).member ≡ Some call → IsEnough (suc left) d → IsEnough left (enter_run_of turn step (given_states d) (start_by (given_states d).member call))
  less_enough left d call sound next enough idle =
      let e = given_states d in
      let fewer = fewer_started e call (sound_given declared turn first lawful d sound) next idle in
      let same : held_by e ≡ held_by d = ap (λ (g : Gathered). length g.held) (given_gathered d) in
      let was : is_idle d.member.performing.kept ≡ true = subst (λ (p : Performing M). is_idle p.kept ≡ true) (given_performing d) (next_is_idle e.member call next) in
      let all = enough was in
      omega (arith, fewer, same, all)

  -- what starts comes to, with any two numbers of starts that are enough
  pub same_starting : (left more : ℕ) (d : Doing M) → IsSoundNow declared turn first lawful d.member → IsEnough left d → IsEnough more d → start_runs declared turn step left d ≡ start_runs declared turn step more d
  same_starting zero more d sound enough others =
      let none = nothing_left d enough in
      none_started zero d none ∙ sym (none_started more d none)
  same_starting (suc left) zero d sound enough others =
      let none = nothing_left d others in
      none_started (suc left) d none ∙ sym (none_started zero d none)
  same_starting (suc left) (suc more) d sound enough others = by_next (same_starting left more) (next_start (given_states d).member) refl
    where
      by_next : ((e : Doing M) → IsSoundNow declared turn first lawful e.member → IsEnough left e → IsEnough more e → start_runs declared turn step left e ≡ start_runs declared turn step more e) → (o : Option HeldCall) → next_start (given_states d).member ≡ o → start_runs declared turn step (suc left) d ≡ start_runs declared turn step (suc more) d
      by_next rest None none = none_started (suc left) d none ∙ sym (none_started (suc more) d none)
      by_next rest (Some call) some =
          let e = given_states d in
          let place_of_value = sound_given declared turn first lawful d sound in
          let b = behaviour declared turn first e.member.performing.hosted in
          let may = may_start b e.member call (next_is_ready b e.member call place_of_value some) in
          let f = enter_run_of turn step e (start_by e.member call) in
          once_started left d call some
          ∙ rest f (sound_entered declared turn first lawful step e (start_by e.member call) place_of_value may) (less_enough left d call sound some enough) (less_enough more d call sound some others)
          ∙ sym (once_started more d call some)
