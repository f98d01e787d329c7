-- What holds of a step so far holds once the execution has gone on, where each of the few things that it does keeps it.
use Rattle.std.proofs.Common.{◌≡◌, ℕ, zero, suc, Bool, true, false, if◌then◌else◌, List, [], length, Option, Some, None, refl}
use Rattle.std.specs.Prelude.{slice_get}
use Rattle.std.specs.Option.{option_map_or}
use Rattle.circus_value.specs.ValueTree.{ValueTree}
use Rattle.circus_value.specs.declared.outcome.Outcome.{Outcome}
use Rattle.circus_header.specs.declared.answer.Reply.{Reply}
use Rattle.circus_collate.specs.declared.view.View.{View}
use Rattle.circus_model.specs.declared.signature.Signature.{Signature}
use Rattle.circus_model.specs.NextTurn.{NextTurn}
use Rattle.circus_model.specs.Behaviour.{Behaviour, IsModule}
use Rattle.circus_record.specs.declared.record.AskRecord.{AskRecord}
use Rattle.circus_record.specs.declared.record.RunRecord.{RunRecord}
use Rattle.circus_gather.specs.declared.held.HeldCall.{HeldCall}
use Rattle.circus_performing.specs.declared.start.RunStart.{RunStart}
use Rattle.circus_performing.specs.Performing.{open_ask, last_of}
use Rattle.circus_performing.specs.Record.{behaviour}
use Rattle.circus_member_rules.specs.Rules.{snapshots_owed}
use Rattle.circus_member_rules.specs.MemberState.{MemberState, Doing, add_effects}
use Rattle.circus_member_rules.specs.Step.{name_of_last, asking_begun, opened_by_view, opened_ask, ended_run, after_turns, is_idle, value_of_open, next_start, given_states, start_of_call, answered_by, answered_open, enter_run_of, start_runs, execute}
use Rattle.circus_member_rules.specs.Seen.Sound.{MayStart}
use Rattle.circus_member_rules.proofs.Entering.{HasValue, has_value, with_entered, with_answered, turned_by_start, turned_by_reply}
use Rattle.circus_member_rules.proofs.Starting.{IsSoundNow, next_is_ready, may_start, sound_given, sound_entered, sound_answered}
use Rattle.circus_member_rules.proofs.Turned.{IsTurned}

-- before anything is done in a step
abbrev pub begun : {M : Type 0} → MemberState M → Doing M
begun m = record { member = m; effects = [] }

-- states are given to those that wait
abbrev pub with_given : {M : Type 0} → Doing M → Doing M
with_given d = let m = d.member in add_effects (record d { member = record m { requests = [] } }) (snapshots_owed m.performing.kept m.requests)

module _ {M : Type 0} (declared : M → Signature) (turn : M → List ValueTree → ℕ → List ValueTree → List Outcome → NextTurn) (first : M → List ValueTree)
    (lawful : (hosted : M) → IsModule (behaviour declared turn first hosted)) where
  abbrev pub behaves : Doing M → Behaviour
  behaves d = behaviour declared turn first d.member.performing.hosted

  module _ (step : ℕ) (I : Doing M → Type 0) where
    -- each thing that an execution does keeps what holds
    pub record Keeps : Type 0 where
      -- states are given by an idle member
      pub gives : (d : Doing M) → IsSoundNow declared turn first lawful d.member → is_idle d.member.performing.kept ≡ true → I d → I (with_given d)
      -- a run is entered
      pub enters : (d : Doing M) (start : RunStart) → IsSoundNow declared turn first lawful d.member → MayStart (declared d.member.performing.hosted) d.member start → I d
          → I (record d { member = with_entered (behaves d) (lawful d.member.performing.hosted) d.member step start })
      -- an ask is answered
      pub answers : (d : Doing M) (reply : Reply) → IsSoundNow declared turn first lawful d.member → HasValue (behaves d) d.member reply → I d
          → I (record d { member = with_answered (behaves d) (lawful d.member.performing.hosted) d.member step reply })
      -- the last run asks
      pub opens : (d : Doing M) (run : RunRecord) (ask : AskRecord) (view : View) → IsTurned (behaves d) d.member → last_of d.member.performing.kept.runs ≡ Some run
          → open_ask d.member.performing.kept ≡ Some ask
          → slice_get d.member.known.views ask.callee ≡ Some view → I d
          → I (opened_by_view d (name_of_last d.member.performing.kept) (asking_begun d.member.place d.member.performing.kept run ask) view)
      -- or has ended
      pub ends : (d : Doing M) (run : RunRecord) → IsTurned (behaves d) d.member → last_of d.member.performing.kept.runs ≡ Some run → open_ask d.member.performing.kept ≡ None
          → I d → I (ended_run d run)

    module _ (keeps : Keeps) where
      turns_keep : (d : Doing M) → IsTurned (behaves d) d.member → I d → I (after_turns d)
      turns_keep d h holds = by_run (last_of d.member.performing.kept.runs) refl
        where
          by_view : (run : RunRecord) (ask : AskRecord) → last_of d.member.performing.kept.runs ≡ Some run → open_ask d.member.performing.kept ≡ Some ask → (o : Option View)
              → slice_get d.member.known.views ask.callee ≡ o → let e : Doing M =
              option_map_or (opened_by_view d (name_of_last d.member.performing.kept) (asking_begun d.member.place d.member.performing.kept run ask)) o d in I e
          by_view run ask at is None none = holds
          by_view run ask at is (Some view) some = keeps.opens d run ask view h at is some holds

          by_ask : (run : RunRecord) → last_of d.member.performing.kept.runs ≡ Some run → (o : Option AskRecord) → open_ask d.member.performing.kept ≡ o → let e : Doing M =
              option_map_or (opened_ask d run) o (ended_run d run) in I e
          by_ask run at None none = keeps.ends d run h at none holds
          by_ask run at (Some ask) is = by_view run ask at is (slice_get d.member.known.views ask.callee) refl

          by_run : (o : Option RunRecord) → last_of d.member.performing.kept.runs ≡ o → let e : Doing M =
              option_map_or (λ (run : RunRecord). option_map_or (opened_ask d run) (open_ask d.member.performing.kept) (ended_run d run)) o d in I e
          by_run None at = holds
          by_run (Some run) at = by_ask run at (open_ask d.member.performing.kept) refl

      pub entered_keeps : (d : Doing M) (start : RunStart) → IsSoundNow declared turn first lawful d.member → MayStart (declared d.member.performing.hosted) d.member start → I d
          → I (enter_run_of turn step d start)
      entered_keeps d start h may holds =
          let law = lawful d.member.performing.hosted in
          let e : Doing M = record d { member = with_entered (behaves d) law d.member step start } in
          turns_keep e (turned_by_start (behaves d) law d.member step start h may) (keeps.enters d start h may holds)

      answered_keeps : (d : Doing M) → IsSoundNow declared turn first lawful d.member → I d → I (answered_open turn step d)
      answered_keeps d h holds = by_value (value_of_open d.member) refl
        where
          by_value : (o : Option Reply) → value_of_open d.member ≡ o → let e = option_map_or (answered_by turn step d) o d in I e
          by_value None is = holds
          by_value (Some reply) is =
              let law = lawful d.member.performing.hosted in
              let value = has_value (behaves d) d.member reply h is in
              let e : Doing M = record d { member = with_answered (behaves d) law d.member step reply } in
              turns_keep e (turned_by_reply (behaves d) law d.member step reply h value) (keeps.answers d reply h value holds)

      given_keeps : (d : Doing M) → IsSoundNow declared turn first lawful d.member → I d → I (given_states d)
      given_keeps d h holds = by_test (is_idle d.member.performing.kept) refl
        where
          by_test : (t : Bool) → is_idle d.member.performing.kept ≡ t → let e = if t then with_given d else d in I e
          by_test false is = holds
          by_test true is = keeps.gives d h is holds

      starting_keeps : (left : ℕ) (d : Doing M) → IsSoundNow declared turn first lawful d.member → I d → I (start_runs declared turn step left d)
      unfolding start_runs
      starting_keeps zero d h holds = given_keeps d h holds
      starting_keeps (suc left) d h holds = by_call (starting_keeps left) (given_states d) (sound_given declared turn first lawful d h) (given_keeps d h holds)
        where
          by_next : ((f : Doing M) → IsSoundNow declared turn first lawful f.member → I f → I (start_runs declared turn step left f)) → (e : Doing M)
              → IsSoundNow declared turn first lawful e.member → I e → (o : Option HeldCall) → next_start e.member ≡ o
              → let f = option_map_or (λ call. start_runs declared turn step left (enter_run_of turn step e (start_of_call declared turn e.member call))) o e in I f
          by_next rest e sound kept None is = kept
          by_next rest e sound kept (Some call) is =
              let b = behaves e in
              let may = may_start b e.member call (next_is_ready b e.member call sound is) in
              let start = start_of_call declared turn e.member call in
              rest (enter_run_of turn step e start) (sound_entered declared turn first lawful step e start sound may) (entered_keeps e start sound may kept)

          by_call : ((f : Doing M) → IsSoundNow declared turn first lawful f.member → I f → I (start_runs declared turn step left f)) → (e : Doing M)
              → IsSoundNow declared turn first lawful e.member → I e
              → let f = option_map_or (λ call. start_runs declared turn step left (enter_run_of turn step e (start_of_call declared turn e.member call))) (next_start e.member) e in I f
          by_call rest e sound kept = by_next rest e sound kept (next_start e.member) refl

      pub executed_keeps : (d : Doing M) → IsSoundNow declared turn first lawful d.member → I d → I (execute declared turn step d)
      executed_keeps d h holds =
          let e = answered_open turn step d in
          starting_keeps (length e.member.gathered.held) e (sound_answered declared turn first lawful step d h) (answered_keeps d h holds)
