-- What becomes of what a member owes, part by part of a step.
use Rattle.std.specs.Prelude.{◌≡◌, ℕ, zero, suc, ◌+◌, ◌-◌, ◌≤◌, Bool, true, false, not, ◌&&◌, nat_eq, nat_le, if◌then◌else◌, List, [], ◌∷◌, ◌++◌, length, take, drop, slice_get, Option, None, Some, is_none, option_map, option_and_then, IfSome}
use Rattle.std.specs.Option.{option_map_or}
use Rattle.circus_value.specs.ShapeTree.{FieldTrees}
use Rattle.circus_value.specs.ValueTree.{ValueTree}
use Rattle.circus_limits.specs.Limits.{most_asks}
use Rattle.circus_external.specs.Spelling.{spelling_of_all, fields_admit}
use Rattle.circus_collate.specs.declared.table.Table.{Table}
use Rattle.circus_header.specs.CallFields.{IsIncarnation}
use Rattle.circus_header.specs.declared.call.Request.{Request}
use Rattle.circus_header.specs.declared.answer.Reply.{Reply}
use Rattle.circus_transfer.specs.Joining.{after_join, after_table, after_state}
use Rattle.circus_transfer.specs.Snapshot.{snapshot_bytes}
use Rattle.circus_transfer.specs.declared.joiner.Joiner.{Joiner}
use Rattle.circus_record.specs.declared.record.AskRecord.{AskRecord}
use Rattle.circus_record.specs.declared.record.MemberRecord.{MemberRecord}
use Rattle.circus_record.specs.declared.record.RunRecord.{RunRecord}
use Rattle.circus_model.specs.Lawful.{IsState}
use Rattle.circus_model.specs.Execution.{is_spent}
use Rattle.circus_model.specs.declared.signature.Signature.{Signature}
use Rattle.circus_model.specs.declared.signature.ProcedureShape.{ProcedureShape}
use Rattle.circus_gather.specs.Gathering as gathering
use Rattle.circus_fanout.specs.Asking.{Asking}
use Rattle.circus_fanout.specs.Asking as asking
use Rattle.circus_fanout.specs.Knowing as knowing
use Rattle.circus_performing.specs.declared.start.RunStart.{RunStart}
use Rattle.circus_performing.specs.Performing.{is_active, is_fetching, state_after, last_count}
use Rattle.circus_performing.specs.Record.{count_after}
use Rattle.circus_member_rules.specs.declared.place.Place.{Place}
use Rattle.circus_member_rules.specs.declared.occurrence.AskName.{AskName}
use Rattle.circus_member_rules.specs.declared.occurrence.Difference.{Difference}
use Rattle.circus_member_rules.specs.declared.occurrence.Effect.{Effect}
use Rattle.circus_member_rules.specs.declared.occurrence.Occurrence.{Occurrence}
use Rattle.circus_member_rules.specs.declared.occurrence.Occurrence.TheVariants as comes
use Rattle.circus_member_rules.specs.Callable.{IsAsked, IsReply, AreReplies}
use Rattle.circus_member_rules.specs.Happening.{IsCallTo}
use Rattle.circus_member_rules.specs.Messages.{reply_message}
use Rattle.circus_member_rules.specs.OpenAsks.{asking_of, with_asking, is_waiting}
use Rattle.circus_member_rules.specs.Rules as rules
use Rattle.circus_member_rules.specs.Step.{reply_of_run, start_by_call, is_join, is_taken_in, known_by_table}
use Rattle.circus_dues.specs.declared.owing.Owing.{Owing}
use Rattle.circus_dues.specs.declared.walk.Walk.{Walk}
use Rattle.circus_dues.specs.Seen.Parts.{MayCallFor, with_table, calls_by_table, states_by_table, with_opened, calls_by_opening}
use Rattle.circus_dues.specs.Seen.Steps as steps

-- ---- what may come, and be sent

-- what can come to a member of this troupe, whose module declares this, in a program of so many modules
abbrev pub CanCome : Signature → ℕ → ℕ → Occurrence → Type 0
CanCome declared troupe modules (comes.Asked header body sender) = IsCallTo declared troupe modules header body
CanCome declared troupe modules (comes.Fetched incarnation sender) = IsIncarnation incarnation
CanCome declared troupe modules (comes.Replied name from reply) = Unit {0}
CanCome declared troupe modules (comes.IsStale name server from incarnation) = Unit {0}
CanCome declared troupe modules (comes.IsBefore name from) = Unit {0}
CanCome declared troupe modules (comes.Told request table) = IsIncarnation table.view.incarnation
CanCome declared troupe modules (comes.Restored state count) = IsState declared state
CanCome declared troupe modules (comes.Declared node) = Unit {0}
CanCome declared troupe modules comes.Joins = Unit {0}

-- the calls that a member may send, and the replies that it has
pub record MayOwe (place : Place) (d : Owing) : Type 0 where
  pub may : MayCallFor place d.out
  pub replies : AreReplies d.calls.gathered.replies

-- of an ask of a run of a member of this troupe: its calls may be sent
pub record MayBeSent (troupe : ℕ) (run : RunRecord) (number : ℕ) (ask : AskRecord) : Type 0 where
  pub asked : (index : ℕ) → IsAsked (steps.header_of troupe index run number ask)
  pub body : (fields : FieldTrees) × (fields_admit fields ask.arguments ≡ true)

-- what a run asks and replies may be sent
pub record MayPerform (troupe : ℕ) (run : RunRecord) : Type 0 where
  pub few : length run.asks ≤ most_asks
  pub asks : (number : ℕ) (ask : AskRecord) → slice_get run.asks number ≡ Some ask
      → is_spent (steps.clock_at run number) ≡ false → MayBeSent troupe run number ask
  pub reply : IfSome run.ended (λ step. IsReply (reply_of_run run))

-- no more asks were made than an execution may
abbrev pub HasFewAsked : Walk → Type 0
HasFewAsked walk = IfSome walk.asked (λ asked. asked ≤ most_asks)

-- ---- parts that need no record

-- from the ask of a number on, the next that its thread has calls left for
abbrev pub next_of : RunRecord → ℕ → Option ℕ
next_of run from = steps.next_ask from (steps.clock_at run from) (drop from run.asks)

abbrev pub untimely : Owing → Owing
untimely d = record d { is_timely = false }

-- the record says of an ask in a step what its collator gives
abbrev pub agrees : ℕ → AskRecord → Option Reply → Bool
agrees at ask given = option_map_or (steps.shows_answer ask at) given (not (steps.is_by ask.answered at))

-- the member is active and performs no run
abbrev pub is_idle : Owing → Bool
is_idle d = is_active d.phase && is_none d.walk.asked

-- state requests get their snapshot then
abbrev pub given_states : Owing → Owing
given_states d = if is_idle d then record d { calls = record d.calls { requests = [] } } else d

abbrev pub phase_by_table : Request → Table → Joiner → Joiner
phase_by_table request table phase = if is_join request then after_table table phase else phase

-- a run may be entered, as far as the record is in time
abbrev pub may_enter : Owing → Bool
may_enter d = d.is_timely && is_none d.walk.asked

-- a reply that differs is told
abbrev pub told_by : Occurrence → Owing → Option Difference
told_by (comes.Replied name from reply) d =
    option_and_then (rules.difference_by name from reply) (asking_of d.out.asks name)
told_by (comes.Asked header body sender) d = None
told_by (comes.Fetched incarnation sender) d = None
told_by (comes.IsStale name server from incarnation) d = None
told_by (comes.IsBefore name from) d = None
told_by (comes.Told request table) d = None
told_by (comes.Restored state count) d = None
told_by (comes.Declared node) d = None
told_by comes.Joins d = None

-- a run that made so many asks waits at its last one
abbrev pub waits_last : Option ℕ → RunRecord → Bool
waits_last asked run = is_none run.ended && option_map_or (λ n. nat_eq n (length run.asks)) asked false

-- the run that is under way, with the number of asks that it made, and the last of these
pub record Underway : Type 0 where
  pub run : RunRecord
  pub asked : ℕ
  pub ask : AskRecord

-- ---- of a member with this record in the end

module _ (kept : MemberRecord) where
  -- the index of the next run
  abbrev pub index : Owing → ℕ
  index d = count_after kept.from d.walk.ended

  -- the name of one of its asks
  abbrev pub ask_name : Owing → ℕ → AskName
  ask_name d number = record { run = count_after kept.from d.walk.ended; ask = number }

  -- it is entered, and ends
  abbrev pub begun : Owing → Owing
  begun d = record d { calls = record d.calls { gathered = gathering.with_start d.calls.gathered (index d) } }

  abbrev pub ended : Owing → RunRecord → Owing
  ended d run =
      record d {
        walk = record { ended = d.walk.ended + 1; asked = None };
        calls = record d.calls { gathered = gathering.with_end d.calls.gathered (index d) (reply_of_run run) };
      }

  abbrev pub answers_of_ended : Owing → RunRecord → List Effect
  answers_of_ended d run =
      rules.answers (reply_message (reply_of_run run)) (gathering.answered_by_end d.calls.gathered (index d))

  -- it does in a step, if the record says so
  abbrev pub ended_at : ℕ → Owing → RunRecord → Owing
  ended_at at d run = if steps.is_in run.ended at then ended d run else untimely d

  abbrev pub answers_at : ℕ → Owing → RunRecord → List Effect
  answers_at at d run = if steps.is_in run.ended at then answers_of_ended d run else []

  -- the run that is under way
  abbrev pub underway : Owing → Option Underway
  underway d =
      option_and_then
      (λ (run : RunRecord).
      option_and_then
      (λ (asked : ℕ).
      option_map (λ (ask : AskRecord). record { run = run; asked = asked; ask = ask }) (slice_get run.asks (asked - 1)))
      d.walk.asked)
      (slice_get kept.runs d.walk.ended)

  -- what the collator of one of its asks gives
  abbrev pub value_of : Owing → ℕ → Option Reply
  value_of d number = option_and_then (rules.value_of_ask d.out.known) (asking_of d.out.asks (ask_name d number))

  -- the state behind the runs that have ended
  abbrev pub state_of : Owing → List ValueTree
  state_of d = state_after d.began (take d.walk.ended kept.runs)

  abbrev pub states_given : Owing → List Effect
  states_given d =
      if is_idle d then rules.answers (snapshot_bytes (index d) (state_of d)) d.calls.requests else []

  -- the record says that the next run started by then
  abbrev pub starts_by : Owing → ℕ → Bool
  starts_by d at = option_map_or (λ (run : RunRecord). nat_le run.started at) (slice_get kept.runs d.walk.ended) false

  abbrev pub none_starts : ℕ → Owing → Owing
  none_starts at d = record d { is_timely = d.is_timely && not (starts_by d at) }

  -- one for each run of the record that is left, and one that isn't there
  abbrev pub left_of : Owing → ℕ
  left_of d = suc (length kept.runs - d.walk.ended)

  -- a state comes: a member that fetches one is active from its count on
  abbrev pub activated : ℕ → List ValueTree → ℕ → Owing → Owing
  activated at state count d =
      record d {
        phase = after_state count d.phase;
        began = state;
        calls = record d.calls { gathered = gathering.with_first d.calls.gathered count };
        is_timely = d.is_timely && (nat_eq kept.from count && nat_eq kept.active_at at);
      }

  abbrev pub restored : ℕ → List ValueTree → ℕ → Owing → Owing
  restored at state count d = if is_fetching d.phase then activated at state count d else d

  -- behind what comes
  abbrev pub behind : ℕ → Occurrence → Owing → Owing
  behind at (comes.Asked header body sender) d =
      record d {
        out = record d.out { known = rules.wanted_by_call (gathering.answer_to d.calls.gathered header) header d.out.known };
        calls = record d.calls {
          gathered = gathering.with_call d.calls.gathered (record { header = header; body = body; sender = sender });
        };
      }
  behind at (comes.Fetched incarnation sender) d =
      record d {
        calls = record {
          gathered = gathering.with_required d.calls.gathered incarnation;
          requests = d.calls.requests ++ sender ∷ [];
        };
      }
  behind at (comes.Replied name from reply) d =
      record d { out = record d.out { asks = with_asking name (asking.with_reply from reply) d.out.asks } }
  behind at (comes.IsStale name server from incarnation) d =
      record d {
        out = record {
          known = knowing.want_view d.out.known server incarnation;
          asks = with_asking name (rules.after_stale d.out.known from incarnation) d.out.asks;
        };
      }
  behind at (comes.IsBefore name from) d =
      record d { out = record d.out { asks = with_asking name (asking.with_before from) d.out.asks } }
  behind at (comes.Told request table) d =
      record d { out = with_table d.out request table.view; phase = phase_by_table request table d.phase }
  behind at (comes.Restored state count) d = restored at state count d
  behind at (comes.Declared node) d = record d { out = record d.out { known = knowing.note_down d.out.known node } }
  behind at comes.Joins d = record d { phase = after_join d.phase }

  -- all runs have ended, or the next one waits at its last ask
  abbrev pub is_walked : Owing → Bool
  is_walked d = option_map_or (waits_last d.walk.asked) (slice_get kept.runs d.walk.ended) (is_none d.walk.asked)

  -- the ask that waits
  abbrev pub waiting : Owing → Option AskName
  waiting d = option_map (λ asked. ask_name d (asked - 1)) d.walk.asked

  -- behind a step asks that are settled are closed, and views looked up
  abbrev pub concluded : Owing → Owing
  concluded d =
      record d {
        out = record {
          known = knowing.note_lookup d.out.known rules.ringmaster;
          asks = rules.close_asks d.out.known (is_waiting (waiting d)) d.out.asks;
        };
      }

-- ---- what a member that stands here makes of what comes

module _ (place : Place) where
  abbrev pub made_by_table : Request → Table → Owing → List Effect
  made_by_table request table d =
      calls_by_table d.out request table.view
      ++ states_by_table place (is_taken_in d.phase (phase_by_table request table d.phase))
      (known_by_table d.out.known request table.view).down table.view

  abbrev pub made_by_state : ℕ → Owing → List Effect
  made_by_state count d =
      if is_fetching d.phase
      then rules.active_call place d.out.known count ++ rules.before_answers d.calls.gathered count
      else []

  abbrev pub made_at_once : Occurrence → Owing → List Effect
  made_at_once (comes.Asked header body sender) d =
      rules.answer_at_once (gathering.answer_to d.calls.gathered header) sender
  made_at_once (comes.Fetched incarnation sender) d = rules.stale_answers d.calls.gathered incarnation
  made_at_once (comes.Replied name from reply) d = []
  made_at_once (comes.IsStale name server from incarnation) d =
      option_map_or (rules.call_again d.out.known name from incarnation) (asking_of d.out.asks name) []
  made_at_once (comes.IsBefore name from) d = []
  made_at_once (comes.Told request table) d = made_by_table request table d
  made_at_once (comes.Restored state count) d = made_by_state count d
  made_at_once (comes.Declared node) d = rules.gone_call place (knowing.note_down d.out.known node) node
  made_at_once comes.Joins d = rules.join_call place d.out.known

  -- ---- and of the runs of its record

  module _ (kept : MemberRecord) where
    abbrev pub asking_at : Owing → RunRecord → ℕ → AskRecord → Asking
    asking_at d run number ask =
        asking.begin_asking (steps.header_of place.troupe (index kept d) run number ask)
        (spelling_of_all ask.arguments) place.replies

    -- one asks in a step, and is not answered in the same one
    abbrev pub asked : ℕ → Owing → RunRecord → ℕ → AskRecord → Owing
    asked at d run number ask =
        record d {
          out = with_opened d.out (ask_name kept d number) (asking_at d run number ask);
          walk = record d.walk { asked = Some (number + 1) };
          is_timely = d.is_timely && not (steps.is_by ask.answered at);
        }

    abbrev pub calls_of_asked : Owing → RunRecord → ℕ → AskRecord → List Effect
    calls_of_asked d run number ask =
        calls_by_opening d.out.known (ask_name kept d number) (asking_at d run number ask)

    abbrev pub asked_at : ℕ → Owing → RunRecord → ℕ → Owing
    asked_at at d run number = option_map_or (asked at d run number) (slice_get run.asks number) d

    abbrev pub calls_at : Owing → RunRecord → ℕ → List Effect
    calls_at d run number = option_map_or (calls_of_asked d run number) (slice_get run.asks number) []

    -- from the ask of a number on it asks again, or ends
    abbrev pub passed : ℕ → Owing → RunRecord → ℕ → Owing
    passed at d run from = option_map_or (asked_at at d run) (next_of run from) (ended_at kept at d run)

    abbrev pub made_by_pass : ℕ → Owing → RunRecord → ℕ → List Effect
    made_by_pass at d run from = option_map_or (calls_at d run) (next_of run from) (answers_at kept at d run)

    -- its open ask is answered, where the collator gives a reply
    abbrev pub gone_on_with : ℕ → Owing → Underway → Owing
    gone_on_with at d u =
        let given = value_of kept d (u.asked - 1) in
        if agrees at u.ask given then option_map_or (λ _. passed at d u.run u.asked) given d else untimely d

    abbrev pub made_going_on_with : ℕ → Owing → Underway → List Effect
    made_going_on_with at d u =
        let given = value_of kept d (u.asked - 1) in
        if agrees at u.ask given then option_map_or (λ _. made_by_pass at d u.run u.asked) given [] else []

    abbrev pub gone_on : ℕ → Owing → Owing
    gone_on at d = option_map_or (gone_on_with at d) (underway kept d) d

    abbrev pub made_going_on : ℕ → Owing → List Effect
    made_going_on at d = option_map_or (made_going_on_with at d) (underway kept d) []

    -- the next one is entered so, if the record says so
    abbrev pub entered : ℕ → Owing → RunStart → Owing
    entered at d start =
        option_map_or
        (λ (run : RunRecord). if steps.is_entered run at start then passed at (begun kept d) run 0 else untimely d)
        (slice_get kept.runs d.walk.ended) (untimely d)

    abbrev pub made_entering : ℕ → Owing → RunStart → List Effect
    made_entering at d start =
        option_map_or
        (λ (run : RunRecord). if steps.is_entered run at start then made_by_pass at (begun kept d) run 0 else [])
        (slice_get kept.runs d.walk.ended) []

    -- by the call that the collator gives
    abbrev pub next_start : List ProcedureShape → Owing → Option RunStart
    next_start procedures d =
        if nat_le (kept.from + d.walk.ended) last_count
        then option_map (start_by_call place.troupe procedures)
        (gathering.call_to_start d.calls.gathered d.out.known.views d.out.known.down place.calls
        (kept.from + d.walk.ended))
        else None

    -- at most so many are
    unfoldable pub entered_all : ℕ → List ProcedureShape → ℕ → Owing → Owing
    entered_all at procedures zero d = d
    entered_all at procedures (suc left) d =
        if may_enter d
        then option_map_or (λ start. entered_all at procedures left (entered at d start))
        (next_start procedures d) (none_starts kept at d)
        else d

    unfoldable pub made_entering_all : ℕ → List ProcedureShape → ℕ → Owing → List Effect
    made_entering_all at procedures zero d = []
    made_entering_all at procedures (suc left) d =
        if may_enter d
        then option_map_or
        (λ start. made_entering at d start ++ made_entering_all at procedures left (entered at d start))
        (next_start procedures d) []
        else []

    abbrev pub started_runs : ℕ → List ProcedureShape → Owing → Owing
    started_runs at procedures d =
        if is_active d.phase then entered_all at procedures (left_of kept d) d else none_starts kept at d

    abbrev pub made_starting_runs : ℕ → List ProcedureShape → Owing → List Effect
    made_starting_runs at procedures d =
        if is_active d.phase then made_entering_all at procedures (left_of kept d) d else []

    -- ---- a whole step

    abbrev pub stepped : ℕ → List ProcedureShape → Occurrence → Owing → Owing
    stepped at procedures o d =
        concluded kept (started_runs at procedures (given_states (gone_on at (behind kept at o d))))

    abbrev pub made_by_step : ℕ → List ProcedureShape → Occurrence → Owing → List Effect
    made_by_step at procedures o d =
        let come = behind kept at o d in
        let gone = gone_on at come in
        let given = given_states gone in
        let started = started_runs at procedures given in
        (((made_at_once o d ++ made_going_on at come) ++ states_given kept gone) ++ made_starting_runs at procedures given)
        ++ rules.lookups started.out.known
