-- What holds of a step so far holds once the execution has gone on, where each of the few things that it does keeps it: while a run
-- is under way something else may hold.
use Rattle.std.proofs.Common.{◌≡◌, ℕ, zero, suc, Bool, true, false, if◌then◌else◌, List, [], length, Option, Some, None, refl, sym, ap, subst, ◌∙◌, arith}
use Rattle.std.specs.Prelude.{slice_get, IfSome}
use Rattle.std.specs.Option.{option_map_or}
use Rattle.circus_value.specs.ValueTree.{ValueTree}
use Rattle.circus_value.specs.declared.outcome.Outcome.{Outcome}
use Rattle.circus_header.specs.declared.answer.Reply.{Reply}
use Rattle.circus_collate.specs.declared.view.View.{View}
use Rattle.circus_model.specs.declared.signature.Signature.{Signature}
use Rattle.circus_model.specs.NextTurn.{NextTurn}
use Rattle.circus_model.specs.Behaviour.{Behaviour, IsModule}
use Rattle.circus_record.specs.declared.record.AskRecord.{AskRecord}
use Rattle.circus_record.specs.declared.record.RunRecord.{RunRecord}
use Rattle.circus_record.specs.declared.record.MemberRecord.{MemberRecord}
use Rattle.circus_gather.specs.declared.held.HeldCall.{HeldCall}
use Rattle.circus_performing.specs.declared.start.RunStart.{RunStart}
use Rattle.circus_performing.specs.Performing.{open_ask, last_of, gone_on, begin_run, state_after, most_turns}
use Rattle.circus_performing.specs.Record.{behaviour, start_of, turns}
use Rattle.circus_performing.proofs.Ends.{last_more}
use Rattle.circus_performing.proofs.Records.{with_answer, answered_is}
use Rattle.circus_member_rules.specs.MemberState.{Doing}
use Rattle.circus_member_rules.specs.Step.{name_of_last, asking_begun, opened_by_view, opened_ask, ended_run, after_turns, is_idle, value_of_open, next_start, given_states, start_of_call, answered_by, answered_open, enter_run_of, start_runs, execute}
use Rattle.circus_member_rules.specs.Seen.Sound.{MayStart, IsRunOf}
use Rattle.circus_member_rules.proofs.Enough.{given_performing, next_is_idle}
use Rattle.circus_member_rules.proofs.Entering.{HasValue, has_value, with_entered, with_answered, turned_by_start, turned_by_reply}
use Rattle.circus_member_rules.proofs.Homes.{slice_get_none}
use Rattle.circus_member_rules.proofs.Starting.{IsSoundNow, next_is_ready, may_start, sound_given, sound_entered, sound_answered}
use Rattle.circus_member_rules.proofs.Turned.{IsTurned, asking_now}
use Rattle.circus_member_rules.proofs.Writing.{one_is_performing}
use Rattle.circus_world_theory.proofs.Border.Going.{with_given}

-- an idle member that has given states owes none
none_waits : {M : Type 0} (d : Doing M) → is_idle (given_states d).member.performing.kept ≡ true → (given_states d).member.requests ≡ []
none_waits {M} d idle = by_test (is_idle d.member.performing.kept) refl
  where
    same : is_idle d.member.performing.kept ≡ true
    same = ap (λ p. is_idle p.kept) (sym (given_performing d)) ∙ idle

    by_test : (t : Bool) → is_idle d.member.performing.kept ≡ t → let e : Doing M = if t then with_given d else d in e.member.requests ≡ []
    by_test true is = refl
    by_test false is = cc

module _ {M : Type 0} (declared : M → Signature) (turn : M → List ValueTree → ℕ → List ValueTree → List Outcome → NextTurn) (first : M → List ValueTree) (lawful : (hosted : M) → IsModule (behaviour declared turn first hosted)) where
  abbrev pub behaves : Doing M → Behaviour
  behaves d = behaviour declared turn first d.member.performing.hosted

  module _ (step : ℕ) (I : Doing M → Type 0) (T : Doing M → Type 0) where
    -- each thing that an execution does keeps what holds
    pub record Keeps : Type 0 where
      -- states are given by an idle member
      pub gives : (d : Doing M) → IsSoundNow declared turn first lawful d.member → is_idle d.member.performing.kept ≡ true → I d → I (with_given d)
      -- a run is entered, where no state is owed
      pub enters : (d : Doing M) (start : RunStart) → IsSoundNow declared turn first lawful d.member → MayStart (declared d.member.performing.hosted) d.member start → d.member.requests ≡ [] → I d
          → T (record d { member = with_entered (behaves d) (lawful d.member.performing.hosted) d.member step start })
      -- an ask is answered
      pub answers : (d : Doing M) (reply : Reply) → IsSoundNow declared turn first lawful d.member → HasValue (behaves d) d.member reply → I d
          → T (record d { member = with_answered (behaves d) (lawful d.member.performing.hosted) d.member step reply })
      -- the last run asks
      pub opens : (d : Doing M) (run : RunRecord) (ask : AskRecord) (view : View) → IsTurned (behaves d) d.member → last_of d.member.performing.kept.runs ≡ Some run → open_ask d.member.performing.kept ≡ Some ask
          → slice_get d.member.known.views ask.callee ≡ Some view → T d
          → I (opened_by_view d (name_of_last d.member.performing.kept) (asking_begun d.member.place d.member.performing.kept run ask) view)
      -- or has ended
      pub ends : (d : Doing M) (run : RunRecord) → IsTurned (behaves d) d.member → last_of d.member.performing.kept.runs ≡ Some run → open_ask d.member.performing.kept ≡ None → T d → I (ended_run d run)

    module _ (keeps : Keeps) where
      turns_keep : (d : Doing M) (run : RunRecord) → IsTurned (behaves d) d.member → last_of d.member.performing.kept.runs ≡ Some run → T d → I (after_turns d)
      turns_keep d run h at holds =
          subst (λ o. let e : Doing M = option_map_or (λ (r : RunRecord). option_map_or (opened_ask d r) (open_ask d.member.performing.kept) (ended_run d r)) o d in I e) (sym at)
          (by_ask (open_ask d.member.performing.kept) refl)
        where
          by_view : (ask : AskRecord) → open_ask d.member.performing.kept ≡ Some ask → (o : Option View) → slice_get d.member.known.views ask.callee ≡ o
              → let e : Doing M = option_map_or (opened_by_view d (name_of_last d.member.performing.kept) (asking_begun d.member.place d.member.performing.kept run ask)) o d in I e
          by_view ask is None none =
              let m = d.member in
              let of : IsRunOf m.place.troupe (length m.known.views) run = subst (λ o. IfSome o (IsRunOf m.place.troupe (length m.known.views))) at h.run in
              let past = slice_get_none m.known.views ask.callee none in
              let now = asking_now (behaves d) (lawful m.performing.hosted) m run ask at is h.home of h.kept in
              let below = now.below in
              let own = h.home.own in
              absurd (omega (arith, past, below, own))
          by_view ask is (Some view) some = keeps.opens d run ask view h at is some holds

          by_ask : (o : Option AskRecord) → open_ask d.member.performing.kept ≡ o → let e : Doing M = option_map_or (opened_ask d run) o (ended_run d run) in I e
          by_ask None none = keeps.ends d run h at none holds
          by_ask (Some ask) is = by_view ask is (slice_get d.member.known.views ask.callee) refl

      pub entered_keeps : (d : Doing M) (start : RunStart) → IsSoundNow declared turn first lawful d.member → MayStart (declared d.member.performing.hosted) d.member start → d.member.requests ≡ [] → I d → I (enter_run_of turn step d start)
      entered_keeps d start h may none holds =
          let b = behaves d in
          let law = lawful d.member.performing.hosted in
          let kept = d.member.performing.kept in
          let e : Doing M = record d { member = with_entered b law d.member step start } in
          let gone = gone_on step (b.turn kept.state start.procedure start.arguments) most_turns (begin_run step start) in
          turns_keep e gone (turned_by_start b law d.member step start h may) (last_more kept.runs gone) (keeps.enters d start h may none holds)

      answered_keeps : (d : Doing M) → IsSoundNow declared turn first lawful d.member → I d → I (answered_open turn step d)
      answered_keeps d h holds = by_value (value_of_open d.member) refl
        where
          by_value : (o : Option Reply) → value_of_open d.member ≡ o → let e = option_map_or (answered_by turn step d) o d in I e
          by_value None is = holds
          by_value (Some reply) is =
              let b = behaves d in
              let law = lawful d.member.performing.hosted in
              let kept = d.member.performing.kept in
              let began = d.member.performing.began in
              let value = has_value b d.member reply h is in
              let e : Doing M = record d { member = with_answered b law d.member step reply } in
              let p = one_is_performing b began kept h.kept value.ask value.is_open in
              let gone = gone_on step (turns b (state_after began p.before) (start_of p.run)) most_turns (with_answer b law began kept p step reply.outcome reply.clock) in
              let at : last_of e.member.performing.kept.runs ≡ Some gone =
              ap (λ (x : MemberRecord). last_of x.runs) (answered_is b law began kept p step reply.outcome reply.clock) ∙ last_more p.before gone in
              turns_keep e gone (turned_by_reply b law d.member step reply h value) at (keeps.answers d reply h value holds)

      given_keeps : (d : Doing M) → IsSoundNow declared turn first lawful d.member → I d → I (given_states d)
      given_keeps d h holds = by_test (is_idle d.member.performing.kept) refl
        where
          by_test : (t : Bool) → is_idle d.member.performing.kept ≡ t → let e = if t then with_given d else d in I e
          by_test false is = holds
          by_test true is = keeps.gives d h is holds

      starting_keeps : (left : ℕ) (d : Doing M) → IsSoundNow declared turn first lawful d.member → I d → I (start_runs declared turn step left d)
      unfolding start_runs
      starting_keeps zero d h holds = given_keeps d h holds
      starting_keeps (suc left) d h holds = by_next (starting_keeps left) (given_states d) (sound_given declared turn first lawful d h) (none_waits d) (given_keeps d h holds) (next_start (given_states d).member) refl
        where
          by_next : ((f : Doing M) → IsSoundNow declared turn first lawful f.member → I f → I (start_runs declared turn step left f)) → (e : Doing M) → IsSoundNow declared turn first lawful e.member → (is_idle e.member.performing.kept ≡ true → e.member.requests ≡ []) → I e → (o : Option HeldCall) → next_start e.member ≡ o
              → let f = option_map_or (λ call. start_runs declared turn step left (enter_run_of turn step e (start_of_call declared turn e.member call))) o e in I f
          by_next rest e sound given kept None is = kept
          by_next rest e sound given kept (Some call) is =
              let b = behaves e in
              let may = may_start b e.member call (next_is_ready b e.member call sound is) in
              let start = start_of_call declared turn e.member call in
              rest (enter_run_of turn step e start) (sound_entered declared turn first lawful step e start sound may) (entered_keeps e start sound may (given (next_is_idle e.member call is)) kept)

      pub executed_keeps : (d : Doing M) → IsSoundNow declared turn first lawful d.member → I d → I (execute declared turn step d)
      executed_keeps d h holds =
          let e = answered_open turn step d in
          starting_keeps (length e.member.gathered.held) e (sound_answered declared turn first lawful step d h) (answered_keeps d h holds)

  -- a member that has gone on owes no state where it is idle
  given_all : (step left : ℕ) (d : Doing M) → let e = start_runs declared turn step left d in is_idle e.member.performing.kept ≡ true → e.member.requests ≡ []
  unfolding start_runs
  given_all step zero d idle = none_waits d idle
  given_all step (suc left) d idle = by_next (given_all step left) (given_states d) (none_waits d) (next_start (given_states d).member) idle
    where
      by_next : ((f : Doing M) → let e = start_runs declared turn step left f in is_idle e.member.performing.kept ≡ true → e.member.requests ≡ []) → (e : Doing M) → (is_idle e.member.performing.kept ≡ true → e.member.requests ≡ []) → (o : Option HeldCall)
          → let f = option_map_or (λ call. start_runs declared turn step left (enter_run_of turn step e (start_of_call declared turn e.member call))) o e in is_idle f.member.performing.kept ≡ true → f.member.requests ≡ []
      by_next rest e given None still = given still
      by_next rest e given (Some call) still = rest (enter_run_of turn step e (start_of_call declared turn e.member call)) still

  pub executed_given : (step : ℕ) (d : Doing M) → let e = execute declared turn step d in is_idle e.member.performing.kept ≡ true → e.member.requests ≡ []
  executed_given step d = let e = answered_open turn step d in given_all step (length e.member.gathered.held) e
