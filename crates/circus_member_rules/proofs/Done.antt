-- A member goes on as far as it can: no ask that waits has a value, and no call that is held may start.
use Rattle.std.proofs.Common.{◌≡◌, ℕ, zero, suc, Bool, true, false, not, if◌then◌else◌, List, [], filter, length, Option, Some, None, refl, sym, subst, ap, ◌∙◌, arith}
use Rattle.std.specs.Prelude.{IfSome, slice_get, option_and_then}
use Rattle.std.specs.Option.{option_map_or}
use Rattle.circus_value.specs.ValueTree.{ValueTree}
use Rattle.circus_value.specs.declared.outcome.Outcome.{Outcome}
use Rattle.circus_header.specs.ReplyEquality.{reply_eq}
use Rattle.circus_header.specs.declared.answer.Reply.{Reply}
use Rattle.circus_collate.specs.declared.view.View.{View}
use Rattle.circus_collate.specs.Expecting.{expected_nodes}
use Rattle.circus_collate.specs.Giving.{place_of_value}
use Rattle.circus_collate.specs.Collating.{answer as collated_answer, dispute}
use Rattle.circus_model.specs.declared.signature.Signature.{Signature}
use Rattle.circus_model.specs.NextTurn.{NextTurn}
use Rattle.circus_model.specs.Behaviour.{Behaviour, IsModule}
use Rattle.circus_record.specs.declared.record.AskRecord.{AskRecord}
use Rattle.circus_record.specs.declared.record.RunRecord.{RunRecord}
use Rattle.circus_fanout.specs.Knowing.{Knowing}
use Rattle.circus_gather.specs.declared.held.HeldCall.{HeldCall}
use Rattle.circus_gather.specs.Gathering.{is_of_index}
use Rattle.circus_fanout.specs.Asking.{Asking, index_of, answer, with_view}
use Rattle.circus_performing.specs.declared.start.RunStart.{RunStart}
use Rattle.circus_performing.specs.Performing.{open_ask, last_of, unless_replied}
use Rattle.circus_performing.specs.Record.{behaviour}
use Rattle.circus_member_rules.specs.OpenAsks.{is_name, asking_of, with_ask}
use Rattle.circus_member_rules.specs.MemberState.{MemberState, Doing, add_effects}
use Rattle.circus_member_rules.specs.Rules.{index_of_last, answer_in, value_of_ask, snapshots_owed, stays_open}
use Rattle.circus_member_rules.specs.Step.{name_of_last, asking_begun, is_idle, next_start, value_of_open, given_states, opened_by_view, opened_ask, ended_run, after_turns, answered_by, answered_open, enter_run_of, start_runs, execute, waits, keep_ask_open, look_up}
use Rattle.circus_member_rules.specs.GoneOn.{HasGoneOn}
use Rattle.circus_member_rules.specs.Seen.Sound.{IsRunOf, MayStart}
use Rattle.circus_member_rules.proofs.Named.{opened_there, lookup-kept}
use Rattle.circus_member_rules.proofs.Resting.{waiting_stays}
use Rattle.circus_member_rules.proofs.Homes.{slice_get_none}
use Rattle.circus_member_rules.proofs.Turned.{IsTurned, IsAsking, asking_now}
use Rattle.circus_member_rules.proofs.Entering.{with_entered, turned_by_start, has_value, with_answered, turned_by_reply}
use Rattle.circus_member_rules.proofs.Starting.{next_is_ready, may_start, IsSoundNow, sound_given, sound_entered, sound_answered}
use Rattle.circus_member_rules.proofs.Enough.{none_given, any_held, held_by, IsEnough, start_by, none_started, once_started, nothing_left, less_enough}

-- ---- an ask with no replies

-- no value is given over no replies
pub no_replies_no_value : (k : Knowing) (a : Asking) → a.said ≡ [] → value_of_ask k a ≡ None
no_replies_no_value k a none = by_view (slice_get k.views a.header.server)
  where
    by_answer : (other : Option ℕ) → answer_in a (collated_answer None other) ≡ None
    by_answer None = refl
    by_answer (Some place) = refl

    by_view : (o : Option View) → option_map_or (λ (view : View). answer_in a (answer view k.down a)) o None ≡ None
    by_view None = refl
    by_view (Some view) =
        let nodes = expected_nodes view (index_of a.header) in
        let given_none : place_of_value reply_eq (λ _. nodes) a.said a.kind k.down ≡ None =
        ap (λ said. place_of_value reply_eq (λ _. nodes) said a.kind k.down) none ∙ none_given reply_eq (λ _. nodes) a.kind k.down in
        ap (λ o. answer_in a (collated_answer o (dispute reply_eq nodes k.down a.said a.kind))) given_none
        ∙ by_answer (dispute reply_eq nodes k.down a.said a.kind)

-- ---- behind turns

module _ {M : Type 0} (b : Behaviour) (lawful : IsModule b) (d : Doing M) (h : IsTurned b d.member) where
  -- the ask that waits has no value
  pub no_value_behind : value_of_open (after_turns d).member ≡ None
  no_value_behind = by_run (last_of d.member.performing.kept.runs) refl
    where
      by_view : (run : RunRecord) (ask : AskRecord) → open_ask d.member.performing.kept ≡ Some ask → IsAsking b d.member run ask → (o : Option View) → slice_get d.member.known.views ask.callee ≡ o → let e = option_map_or (opened_by_view d (name_of_last d.member.performing.kept) (asking_begun d.member.place d.member.performing.kept run ask)) o d in value_of_open e.member ≡ None
      by_view run ask is now None none =
          let past = slice_get_none d.member.known.views ask.callee none in
          let below = now.below in
          let own = h.home.own in
          absurd (omega (arith, past, below, own))
      by_view run ask is now (Some view) some =
          let m = d.member in
          let name = name_of_last m.performing.kept in
          let a : Asking = with_view view m.known.down (asking_begun m.place m.performing.kept run ask) in
          ap (λ o. option_and_then (λ (x : AskRecord). option_and_then (value_of_ask m.known) (asking_of (with_ask m.asks name a) name)) o) is
          ∙ ap (λ o. option_and_then (value_of_ask m.known) o) (opened_there m.asks name a)
          ∙ no_replies_no_value m.known a refl

      by_ask : (run : RunRecord) → last_of d.member.performing.kept.runs ≡ Some run → (o : Option AskRecord) → open_ask d.member.performing.kept ≡ o → let e = option_map_or (opened_ask d run) o (ended_run d run) in value_of_open e.member ≡ None
      by_ask run at None none =
          let m = (ended_run d run).member in
          ap (λ o. option_and_then (λ (x : AskRecord). option_and_then (value_of_ask m.known) (asking_of m.asks (name_of_last m.performing.kept))) o) none
      by_ask run at (Some ask) is =
          let m = d.member in
          let of : IsRunOf m.place.troupe (length m.known.views) run = subst (λ o. IfSome o (IsRunOf m.place.troupe (length m.known.views))) at h.run in
          by_view run ask is (asking_now b lawful m run ask at is h.home of h.kept) (slice_get m.known.views ask.callee) refl

      by_run : (o : Option RunRecord) → last_of d.member.performing.kept.runs ≡ o → let e = option_map_or (λ (run : RunRecord). option_map_or (opened_ask d run) (open_ask d.member.performing.kept) (ended_run d run)) o d in value_of_open e.member ≡ None
      by_run None at =
          let m = d.member in
          let none : open_ask m.performing.kept ≡ None = ap (λ o. option_and_then (λ (r : RunRecord). option_and_then unless_replied (last_of r.asks)) o) at in
          ap (λ o. option_and_then (λ (x : AskRecord). option_and_then (value_of_ask m.known) (asking_of m.asks (name_of_last m.performing.kept))) o) none
      by_run (Some run) at = by_ask run at (open_ask d.member.performing.kept) refl

-- ---- no calls

module _ {M : Type 0} where
  -- where no call is held, none starts
  pub none_held : (m : MemberState M) → m.gathered.held ≡ [] → next_start m ≡ None
  none_held m none = by_next (next_start m) refl
    where
      by_next : (o : Option HeldCall) → next_start m ≡ o → next_start m ≡ None
      by_next None nothing = nothing
      by_next (Some call) some =
          let held = any_held m call some in
          let empty : length m.gathered.held ≡ 0 = ap length none in
          absurd (omega (arith, held, empty))

  -- and none is held behind turns
  none_behind : (d : Doing M) → d.member.gathered.held ≡ [] → (after_turns d).member.gathered.held ≡ []
  none_behind d none = by_run (last_of d.member.performing.kept.runs)
    where
      by_view : (run : RunRecord) (ask : AskRecord) (o : Option View) → let e = option_map_or (opened_by_view d (name_of_last d.member.performing.kept) (asking_begun d.member.place d.member.performing.kept run ask)) o d in e.member.gathered.held ≡ []
      by_view run ask None = none
      by_view run ask (Some view) = none

      by_ask : (run : RunRecord) (o : Option AskRecord) → let e = option_map_or (opened_ask d run) o (ended_run d run) in e.member.gathered.held ≡ []
      by_ask run None = ap (filter (λ c. not (is_of_index d.member.gathered.module (index_of_last d.member.performing.kept) c))) none
      by_ask run (Some ask) = by_view run ask (slice_get d.member.known.views ask.callee)

      by_run : (o : Option RunRecord) → let e = option_map_or (λ (run : RunRecord). option_map_or (opened_ask d run) (open_ask d.member.performing.kept) (ended_run d run)) o d in e.member.gathered.held ≡ []
      by_run None = none
      by_run (Some run) = by_ask run (open_ask d.member.performing.kept)

-- ---- a member that has gone on

module _ {M : Type 0} (declared : M → Signature) (turn : M → List ValueTree → ℕ → List ValueTree → List Outcome → NextTurn) (first : M → List ValueTree) (lawful : (hosted : M) → IsModule (behaviour declared turn first hosted)) (step : ℕ) where
  no_value_answered : (d : Doing M) → IsSoundNow declared turn first lawful d.member → value_of_open (answered_open turn step d).member ≡ None
  no_value_answered d sound = by_value (value_of_open d.member) refl
    where
      by_value : (o : Option Reply) → value_of_open d.member ≡ o → let e = option_map_or (answered_by turn step d) o d in value_of_open e.member ≡ None
      by_value None is = is
      by_value (Some reply) is =
          let b = behaviour declared turn first d.member.performing.hosted in
          let law = lawful d.member.performing.hosted in
          let e : Doing M = record d { member = with_answered b law d.member step reply } in
          no_value_behind b law e (turned_by_reply b law d.member step reply sound (has_value b d.member reply sound is))

  no_value_entered : (d : Doing M) (start : RunStart) → IsSoundNow declared turn first lawful d.member → MayStart (declared d.member.performing.hosted) d.member start → value_of_open (enter_run_of turn step d start).member ≡ None
  no_value_entered d start sound may =
      let b = behaviour declared turn first d.member.performing.hosted in
      let law = lawful d.member.performing.hosted in
      let e : Doing M = record d { member = with_entered b law d.member step start } in
      no_value_behind b law e (turned_by_start b law d.member step start sound may)

  -- one that holds no call, and enters a run
  pub entered_done : (d : Doing M) (start : RunStart) → IsSoundNow declared turn first lawful d.member → MayStart (declared d.member.performing.hosted) d.member start → d.member.gathered.held ≡ [] → HasGoneOn (enter_run_of turn step d start).member
  entered_done d start sound may none =
      let e : Doing M = record d { member = with_entered (behaviour declared turn first d.member.performing.hosted) (lawful d.member.performing.hosted) d.member step start } in
      record { no_value = no_value_entered d start sound may; none_starts = none_held (enter_run_of turn step d start).member (none_behind e none) }

  no_value_given : (d : Doing M) → value_of_open d.member ≡ None → value_of_open (given_states d).member ≡ None
  no_value_given d none = by_test (is_idle d.member.performing.kept)
    where
      by_test : (t : Bool) → let e = if t then add_effects (record d { member = record d.member { requests = [] } }) (snapshots_owed d.member.performing.kept d.member.requests) else d in value_of_open e.member ≡ None
      by_test true = none
      by_test false = none

  starting_done : (left : ℕ) (d : Doing M) → IsSoundNow declared turn first lawful d.member → IsEnough declared turn first lawful step left d → value_of_open d.member ≡ None → HasGoneOn (start_runs declared turn step left d).member
  starting_done zero d sound enough none =
      let nothing = nothing_left declared turn first lawful step d enough in
      let is = none_started declared turn first lawful step zero d nothing in
      subst (λ (e : Doing M). HasGoneOn e.member) (sym is) (record { no_value = no_value_given d none; none_starts = nothing })
  starting_done (suc left) d sound enough none = by_next (starting_done left) (next_start (given_states d).member) refl
    where
      by_next : ((e : Doing M) → IsSoundNow declared turn first lawful e.member → IsEnough declared turn first lawful step left e → value_of_open e.member ≡ None → HasGoneOn (start_runs declared turn step left e).member) → (o : Option HeldCall) → next_start (given_states d).member ≡ o → HasGoneOn (start_runs declared turn step (suc left) d).member
      by_next rest None nothing =
          subst (λ (e : Doing M). HasGoneOn e.member) (sym (none_started declared turn first lawful step (suc left) d nothing)) (record { no_value = no_value_given d none; none_starts = nothing })
      by_next rest (Some call) some =
          let e = given_states d in
          let place_of_value = sound_given declared turn first lawful d sound in
          let b = behaviour declared turn first e.member.performing.hosted in
          let may = may_start b e.member call (next_is_ready b e.member call place_of_value some) in
          let start = start_by declared turn first lawful step e.member call in
          let f = enter_run_of turn step e start in
          subst (λ (x : Doing M). HasGoneOn x.member) (sym (once_started declared turn first lawful step left d call some))
          (rest f (sound_entered declared turn first lawful step e start place_of_value may) (less_enough declared turn first lawful step left d call sound some enough) (no_value_entered e start place_of_value may))

  pub executed_done : (d : Doing M) → IsSoundNow declared turn first lawful d.member → HasGoneOn (execute declared turn step d).member
  executed_done d sound =
      let e = answered_open turn step d in
      starting_done (held_by e) e (sound_answered declared turn first lawful step d sound) (λ idle. omega arith) (no_value_answered d sound)

-- ---- the end of a step

-- closing asks and looking views up leaves nothing to do
pub still_done : {M : Type 0} (d : Doing M) → HasGoneOn d.member → HasGoneOn (look_up (keep_ask_open d)).member
still_done d h = record { no_value = by_ask (open_ask d.member.performing.kept) refl; none_starts = h.none_starts }
  where
    by_ask : (o : Option AskRecord) → open_ask d.member.performing.kept ≡ o → value_of_open (look_up (keep_ask_open d)).member ≡ None
    by_ask None is =
        let m = (look_up (keep_ask_open d)).member in
        ap (λ o. option_and_then (λ (x : AskRecord). option_and_then (value_of_ask m.known) (asking_of m.asks (name_of_last m.performing.kept))) o) is
    by_ask (Some ask) is =
        let m = d.member in
        let kept = m.performing.kept in
        let name = name_of_last kept in
        let stays = stays_open m.known (waits kept) in
        let same : asking_of (filter stays m.asks) name ≡ asking_of m.asks name = lookup-kept (is_name name) stays m.asks (λ e here. rw (waiting_stays kept ask e.0 is here) refl) in
        ap (λ o. option_and_then (λ (x : AskRecord). option_and_then (value_of_ask m.known) (asking_of (filter stays m.asks) name)) o) is
        ∙ ap (option_and_then (value_of_ask m.known)) same
        ∙ sym (ap (λ o. option_and_then (λ (x : AskRecord). option_and_then (value_of_ask m.known) (asking_of m.asks name)) o) is)
        ∙ h.no_value
