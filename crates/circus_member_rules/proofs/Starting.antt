-- The calls that start: each of them may, and a member that goes on as far as it can is sound.
use Rattle.std.proofs.Common.{◌≡◌, ℕ, zero, suc, ◌+◌, ◌&&◌, Bool, true, false, if◌then◌else◌, List, [], map, filter, length, All, Option, Some, None, refl, sym, subst, ◌∙◌, length-set}
use Rattle.std.specs.Prelude.{slice_get, slice_index, min, is_none, option_and_then, option_map}
use Rattle.std.specs.Option.{option_map_or}
use Rattle.std.proofs.lemmas.Bool.{eqb-true}
use Rattle.std.proofs.lemmas.List.Elements.{All-get_or}
use Rattle.std.proofs.lemmas.Option.{same_Some, slice_get-map, slice_get_within, get_or_from_slice_get}
use Rattle.circus_value.specs.ValueTree.{ValueTree}
use Rattle.circus_value.specs.declared.outcome.Outcome.{Outcome}
use Rattle.circus_header.specs.declared.answer.Reply.{Reply}
use Rattle.circus_collate.specs.declared.kind.Kind.{Kind}
use Rattle.circus_collate.specs.declared.view.View.{View}
use Rattle.circus_collate.specs.declared.giving.Said.{Said}
use Rattle.circus_model.specs.declared.signature.Signature.{Signature}
use Rattle.circus_model.specs.NextTurn.{NextTurn}
use Rattle.circus_model.specs.Behaviour.{Behaviour, IsModule}
use Rattle.circus_gather.specs.declared.held.HeldCall.{HeldCall}
use Rattle.circus_gather.specs.Gathering.{index_of, reply_of, is_counted, as_said, given_call, call_to_start}
use Rattle.circus_performing.specs.declared.start.RunStart.{RunStart}
use Rattle.circus_performing.specs.Performing.{is_active, open_ask}
use Rattle.circus_performing.specs.Record.{behaviour}
use Rattle.circus_member_rules.specs.MemberState.{MemberState, Doing, add_effects}
use Rattle.circus_member_rules.specs.Rules.{snapshots_owed}
use Rattle.circus_member_rules.specs.Step.{after_turns, is_idle, start_by_call, next_start, value_of_open, given_states, answered_by, answered_open, enter_run_of, start_runs, execute}
use Rattle.circus_member_rules.specs.Seen.Sound.{IsHeld, IsSound, MayStart}
use Rattle.circus_member_rules.proofs.Held.{All-passed}
use Rattle.circus_member_rules.proofs.Sound.{sound_requests}
use Rattle.circus_member_rules.proofs.Turned.{sound_after_turns, same_hosted}
use Rattle.circus_member_rules.proofs.Entering.{with_entered, turned_by_start, HasValue, has_value, with_answered, turned_by_reply}

-- ---- which call starts

and_left : (a b : Bool) → (a && b) ≡ true → a ≡ true
and_left true b is = refl
and_left false b is = is

pub and_right : (a b : Bool) → (a && b) ≡ true → b ≡ true
and_right true b is = is
and_right false b is = cc

pub none_from_test : {A : Type 0} (o : Option A) → is_none o ≡ true → o ≡ None
none_from_test None is = refl
none_from_test (Some x) is = cc

-- a call that counts, and what holds of those that are held
pub record IsChosen (P : HeldCall → Type 0) (own required : ℕ) (views : List View) (index : ℕ) (call : HeldCall) : Type 0 where
  pub counts : is_counted own required views index call ≡ true
  pub holds : P call

-- one that is found among calls
found_among : (Q : HeldCall → Type 0) (calls : List HeldCall) (place : ℕ) (o : Option HeldCall) (call : HeldCall) → slice_get calls place ≡ o → All Q calls → option_map (λ (s : Said HeldCall). s.value) (option_map as_said o) ≡ Some call → Q call
found_among Q calls place None call at all none = cc
found_among Q calls place (Some c) call at all some =
    let here = All-get_or Q calls place c (slice_get_within calls place c at) all in
    let same : c ≡ call = same_Some c call some in
    subst Q (get_or_from_slice_get calls place c c at ∙ same) here

found_said : (Q : HeldCall → Type 0) (calls : List HeldCall) (o : Option ℕ) (call : HeldCall) → All Q calls → option_and_then (λ place. option_map (λ (s : Said HeldCall). s.value) (slice_get (map as_said calls) place)) o ≡ Some call → Q call
found_said Q calls None call all none = cc
found_said Q calls (Some place) call all some =
    found_among Q calls place (slice_get calls place) call refl all
    (subst (λ o. option_map (λ (s : Said HeldCall). s.value) o ≡ Some call) (slice_get-map as_said calls place) some)

-- the call that the collator gives is one of those that count
pub given_is_chosen : (P : HeldCall → Type 0) (own required : ℕ) (views : List View) (down : List ℕ) (kind : Kind) (index : ℕ) (held : List HeldCall) (call : HeldCall) → All P held → given_call views down kind (map as_said (filter (is_counted own required views index) held)) ≡ Some call → IsChosen P own required views index call
unfolding given_call
given_is_chosen P own required views down kind index held call all is =
    let chosen = All-passed P (IsChosen P own required views index) (is_counted own required views index) held (λ c counts holds. record { counts = counts; holds = holds }) all in
    found_said (IsChosen P own required views index) (filter (is_counted own required views index) held) _ call chosen is

of_index : (own required : ℕ) (views : List View) (index : ℕ) (call : HeldCall) → is_counted own required views index call ≡ true → index_of own call.header ≡ index
unfolding is_counted
of_index own required views index call is = eqb-true (index_of own call.header) index (and_left _ _ (and_left _ _ is))

module _ {M : Type 0} (b : Behaviour) (m : MemberState M) where
  -- the member performs no run
  pub record IsReady (call : HeldCall) : Type 0 where
    pub active : is_active m.performing.kept.phase ≡ true
    pub idle : open_ask m.performing.kept ≡ None
    pub chosen : IsChosen (IsHeld b.declared m.place.troupe (length m.known.views) m.gathered) m.gathered.module m.gathered.required m.known.views m.performing.kept.count call
    pub index : index_of m.gathered.module call.header ≡ m.performing.kept.count

  pub next_is_ready : (call : HeldCall) → IsSound b m → next_start m ≡ Some call → IsReady call
  next_is_ready call h is = by_test (is_idle m.performing.kept) refl is
    where
      by_test : (t : Bool) → is_idle m.performing.kept ≡ t → (if t then call_to_start m.gathered m.known.views m.known.down m.place.calls m.performing.kept.count else None) ≡ Some call → IsReady call
      by_test false idle none = cc
      by_test true idle some =
          let c = given_is_chosen (IsHeld b.declared m.place.troupe (length m.known.views) m.gathered) m.gathered.module m.gathered.required m.known.views m.known.down m.place.calls m.performing.kept.count m.gathered.held call h.held some in
          record {
            active = and_left _ _ idle;
            idle = none_from_test (open_ask m.performing.kept) (and_right (is_active m.performing.kept.phase) _ idle);
            chosen = c;
            index = of_index m.gathered.module m.gathered.required m.known.views m.performing.kept.count call c.counts;
          }

  pub may_start : (call : HeldCall) → IsReady call → MayStart b.declared m (start_by_call m.place.troupe b.declared.procedures call)
  may_start call ready =
      let held = ready.chosen.holds in
      let thread = held.may_run.thread in
      record {
        can = record { active = ready.active; idle = ready.idle; fit = held.may_run.fit; within = held.may_run.within };
        thread = record {
          begins = thread.begins;
          numbers = thread.numbers;
          short = thread.short;
          counts = length-set call.header.clock m.place.troupe (min (slice_index call.header.clock m.place.troupe + 1) 4294967295) ∙ thread.counts;
        };
        fresh = subst (λ i. reply_of m.gathered i ≡ None) ready.index held.fresh;
      }

-- ---- a member goes on

module _ {M : Type 0} (declared : M → Signature) (turn : M → List ValueTree → ℕ → List ValueTree → List Outcome → NextTurn) (first : M → List ValueTree) (lawful : (hosted : M) → IsModule (behaviour declared turn first hosted)) where
  -- a member of a module is sound
  abbrev pub IsSoundNow : MemberState M → Type 0
  IsSoundNow m = IsSound (behaviour declared turn first m.performing.hosted) m

  pub sound_entered : (step : ℕ) (d : Doing M) (start : RunStart) → IsSoundNow d.member → MayStart (declared d.member.performing.hosted) d.member start → IsSoundNow (enter_run_of turn step d start).member
  sound_entered step d start h may =
      let b = behaviour declared turn first d.member.performing.hosted in
      let law = lawful d.member.performing.hosted in
      let e : Doing M = record d { member = with_entered b law d.member step start } in
      subst (λ x. IsSound (behaviour declared turn first x) (after_turns e).member) (sym (same_hosted e))
      (sound_after_turns b law e (turned_by_start b law d.member step start h may))

  pub sound_by_reply : (step : ℕ) (d : Doing M) (reply : Reply) → IsSoundNow d.member → HasValue (behaviour declared turn first d.member.performing.hosted) d.member reply → IsSoundNow (answered_by turn step d reply).member
  sound_by_reply step d reply h value =
      let b = behaviour declared turn first d.member.performing.hosted in
      let law = lawful d.member.performing.hosted in
      let e : Doing M = record d { member = with_answered b law d.member step reply } in
      subst (λ x. IsSound (behaviour declared turn first x) (after_turns e).member) (sym (same_hosted e))
      (sound_after_turns b law e (turned_by_reply b law d.member step reply h value))

  pub sound_answered : (step : ℕ) (d : Doing M) → IsSoundNow d.member → IsSoundNow (answered_open turn step d).member
  sound_answered step d h = by_value (value_of_open d.member) refl
    where
      by_value : (o : Option Reply) → value_of_open d.member ≡ o → let e = option_map_or (answered_by turn step d) o d in IsSoundNow e.member
      by_value None is = h
      by_value (Some reply) is = sound_by_reply step d reply h (has_value (behaviour declared turn first d.member.performing.hosted) d.member reply h is)

  pub sound_given : (d : Doing M) → IsSoundNow d.member → IsSoundNow (given_states d).member
  sound_given d h = by_test (is_idle d.member.performing.kept)
    where
      by_test : (t : Bool) → let e = if t then add_effects (record d { member = record d.member { requests = [] } }) (snapshots_owed d.member.performing.kept d.member.requests) else d in IsSoundNow e.member
      by_test false = h
      by_test true = sound_requests (behaviour declared turn first d.member.performing.hosted) d.member [] h

  pub sound_starting : (step left : ℕ) (d : Doing M) → IsSoundNow d.member → IsSoundNow (start_runs declared turn step left d).member
  unfolding start_runs
  sound_starting step zero d h = sound_given d h
  sound_starting step (suc left) d h = by_next (sound_starting step left) (given_states d) (sound_given d h)
    where
      by_call : ((f : Doing M) → IsSoundNow f.member → IsSoundNow (start_runs declared turn step left f).member) → (e : Doing M) → IsSoundNow e.member → (o : Option HeldCall) → next_start e.member ≡ o → let f = option_map_or (λ call. start_runs declared turn step left (enter_run_of turn step e (start_by_call e.member.place.troupe (declared e.member.performing.hosted).procedures call))) o e in IsSoundNow f.member
      by_call rest e sound None is = sound
      by_call rest e sound (Some call) is =
          let b = behaviour declared turn first e.member.performing.hosted in
          let may = may_start b e.member call (next_is_ready b e.member call sound is) in
          let start = start_by_call e.member.place.troupe (declared e.member.performing.hosted).procedures call in
          rest (enter_run_of turn step e start) (sound_entered step e start sound may)

      by_next : ((f : Doing M) → IsSoundNow f.member → IsSoundNow (start_runs declared turn step left f).member) → (e : Doing M) → IsSoundNow e.member → let f = option_map_or (λ call. start_runs declared turn step left (enter_run_of turn step e (start_by_call e.member.place.troupe (declared e.member.performing.hosted).procedures call))) (next_start e.member) e in IsSoundNow f.member
      by_next rest e sound = by_call rest e sound (next_start e.member) refl

  pub sound_executed : (step : ℕ) (d : Doing M) → IsSoundNow d.member → IsSoundNow (execute declared turn step d).member
  sound_executed step d h =
      let e = answered_open turn step d in
      sound_starting step (length e.member.gathered.held) e (sound_answered step d h)
