-- A member's record is timely for what happened: each start, answer and activation came in the
-- first step that allows it, and nothing that is allowed is left open.
use Rattle.std.specs.Prelude.{ℕ, zero, suc, ◌≡◌, ◌+◌, ◌<◌, ◌≤◌, ◌&&◌, nat_le, Bool, true, false, if◌then◌else◌, List, [], length, map, filter, take, Option, None, Some, IsSomeAnd, slice_get, option_map, option_and_then}
use Rattle.std.specs.Option.{option_map_or}
use Rattle.circus_value.specs.ValueTree.{ValueTree}
use Rattle.circus_header.specs.declared.answer.Reply.{Reply}
use Rattle.circus_header.specs.ReplyEquality.{reply_eq}
use Rattle.circus_collate.specs.declared.view.View.{View}
use Rattle.circus_collate.specs.declared.giving.Said.{Said}
use Rattle.circus_collate.specs.declared.collating.Collated.{Collated}
use Rattle.circus_collate.specs.declared.collating.Collated.TheVariants.{Waiting, Answer, Differ}
use Rattle.circus_collate.specs.Expecting.{expected_nodes}
use Rattle.circus_collate.specs.Collating.{collate}
use Rattle.circus_transfer.specs.declared.joiner.Joiner.{Joiner}
use Rattle.circus_model.specs.Execution.{is_spent}
use Rattle.circus_model.specs.declared.signature.ProcedureShape.{ProcedureShape}
use Rattle.circus_record.specs.declared.record.AskRecord.{AskRecord}
use Rattle.circus_record.specs.declared.record.RunRecord.{RunRecord}
use Rattle.circus_record.specs.declared.record.MemberRecord.{MemberRecord}
use Rattle.circus_gather.specs.declared.held.HeldCall.{HeldCall}
use Rattle.circus_gather.specs.Gathering.{is_counted, as_said, given_call}
use Rattle.circus_performing.specs.Performing.{is_active, clock_after, last_count}
use Rattle.circus_performing.specs.Record.{start_of}
use Rattle.circus_member_rules.specs.declared.place.Place.{Place}
use Rattle.circus_member_rules.specs.declared.occurrence.AskName.{AskName}
use Rattle.circus_member_rules.specs.Step.{start_by_call}
use Rattle.circus_member_theory.specs.Past.{Past, now, views_known, nodes_declared_down, required_incarnation, calls_arrived, replies_to, phase, snapshot_fetched}
use Rattle.circus_member_theory.specs.First.{first_given}

-- a value at the place that a collator answers
abbrev pub given_value : List (Said Reply) → Collated → Option Reply
given_value replies (Answer place) =
    option_map (λ (s : Said Reply). s.value) (slice_get replies place)
given_value replies Waiting = None
given_value replies (Differ one other) = None

-- an ask of a record shows that this was given to it, in this step, or that it waits
abbrev pub ShowsAnswer : AskRecord → Option (ℕ × Reply) → Type 0
ShowsAnswer ask None = (ask.answered ≡ None) × (ask.reply ≡ None) × (ask.after ≡ None)
ShowsAnswer ask (Some given) =
    (ask.answered ≡ Some given.0) × (ask.reply ≡ Some given.1.outcome)
    × (ask.after ≡ Some given.1.clock)

-- the MAIN of this troupe, entered in step 0: at the top of its thread, as procedure 0, without
-- arguments, by a clock that is 0 for each of these views
abbrev pub IsMain : ℕ → List View → RunRecord → Type 0
IsMain troupe boot run =
    (run.started ≡ 0)
    × (start_of run ≡ record {
      root = troupe;
      path = [];
      procedure = 0;
      arguments = [];
      clock = map (λ _. 0) boot;
    })

-- of a member that stands here, with these views and in this phase at boot
module _ (place : Place) (boot : List View) (begins : Joiner) where
  -- ---- what the collators give

  -- of all calls that arrived, those that count for an index: not of an older view than required,
  -- and of a known client's view
  abbrev pub counted_calls : ℕ → Past → List HeldCall
  counted_calls index p =
      filter (is_counted place.troupe (required_incarnation p) (views_known boot p) index) (calls_arrived p)

  abbrev pub collated_call : ℕ → Past → Option HeldCall
  collated_call index p =
      given_call (views_known boot p) (nodes_declared_down p) place.calls (map as_said (counted_calls index p))

  -- of the replies to an ask of a name, by the view of its server
  abbrev pub reply_by_view : AskName → AskRecord → Past → View → Option Reply
  reply_by_view name ask p view =
      given_value (replies_to ask.asked name p)
      (collate reply_eq (expected_nodes view ask.index) (nodes_declared_down p) (replies_to ask.asked name p)
      place.replies)

  abbrev pub collated_reply : AskName → AskRecord → Past → Option Reply
  collated_reply name ask p =
      option_and_then (reply_by_view name ask p) (slice_get (views_known boot p) ask.callee)

  -- ---- when something may come

  -- a run has ended
  abbrev pub has_ended : RunRecord → Past → Bool
  has_ended run p = option_map_or (λ step. nat_le step (now p)) run.ended false

  -- the runs before one of this number have ended
  abbrev pub is_free_for : MemberRecord → ℕ → Past → Bool
  is_free_for kept zero p = true
  is_free_for kept (suc number) p =
      option_map_or (λ run. has_ended run p) (slice_get kept.runs number) false

  -- a run of this number may start by a call: the member is active, the run before has ended, and
  -- there is such an index
  abbrev pub may_start : MemberRecord → ℕ → Past → Option HeldCall
  may_start kept number p =
      if is_active (phase begins p) && is_free_for kept number p
      && nat_le (kept.from + number) last_count
      then collated_call (kept.from + number) p
      else None

  -- an ask may be answered
  abbrev pub may_answer : AskName → AskRecord → Past → Option Reply
  may_answer name ask p =
      if nat_le ask.asked (now p) then collated_reply name ask p else None

  -- ---- the record

  -- the member declares these procedures; its first runs, so many, were entered at boot, as that of
  -- a root is
  module _ (procedures : List ProcedureShape) (at_boot : ℕ) (kept : MemberRecord) (p : Past) where
    -- a run was started in the first step that allows it, by the call that was given then
    abbrev pub IsStartedInTime : ℕ → RunRecord → Type 0
    IsStartedInTime number run =
        IsSomeAnd (first_given (may_start kept number) p)
        (λ given. (run.started ≡ given.0)
        × (start_of run ≡ start_by_call place.troupe procedures given.1))

    -- the name of an ask of a run
    abbrev pub name_of : ℕ → ℕ → AskName
    name_of number ask = record { run = kept.from + number; ask = ask }

    -- an ask was answered in the first step that allows it, with the reply that was given then; it
    -- waits where none was
    abbrev pub IsAnsweredInTime : AskName → AskRecord → Type 0
    IsAnsweredInTime name ask = ShowsAnswer ask (first_given (may_answer name ask) p)

    -- an ask of this number was made by a thread that has calls left
    abbrev pub HasCallsLeft : RunRecord → ℕ → Type 0
    HasCallsLeft run ask = is_spent (clock_after run.entry (take ask run.asks)) ≡ false

    pub record IsTimely : Type 0 where
      -- each run that is entered at boot is there
      pub boots : (number : ℕ) → number < at_boot
          → IsSomeAnd (slice_get kept.runs number) (IsMain place.troupe boot)
      pub starts : (number : ℕ) (run : RunRecord) → at_boot ≤ number
          → slice_get kept.runs number ≡ Some run → IsStartedInTime number run
      -- no further run may start
      pub no_more : at_boot ≤ length kept.runs
          → first_given (may_start kept (length kept.runs)) p ≡ None
      pub answers : (number place_of : ℕ) (run : RunRecord) (ask : AskRecord)
          → slice_get kept.runs number ≡ Some run → slice_get run.asks place_of ≡ Some ask
          → HasCallsLeft run place_of → IsAnsweredInTime (name_of number place_of) ask
      -- the phase is that of what happened, and a spare is active from the first step in which it
      -- has a state, with that
      pub phase_is : kept.phase ≡ phase begins p
      pub active : is_active begins ≡ false
          → (step : ℕ) (state : List ValueTree) (count : ℕ)
          → first_given (snapshot_fetched begins) p ≡ Some (step, (state, count))
          → (kept.active_at ≡ step) × (kept.from ≡ count)
