-- The calls in of a past, by a member's record in the end: what is kept of them at the end of each
-- step, and in the middle of one.
use Rattle.std.specs.Prelude.{◌≡◌, ℕ, ◌+◌, ◌≤◌, Bool, false, not, ◌&&◌, ◌||◌, ◌⊎◌, nat_eq, nat_lt, nat_le, if◌then◌else◌, List, [], ◌∷◌, ◌++◌, length, map, filter, Option, None, Some, IfSome, IsSomeAnd, is_none, slice_get, option_map, option_and_then}
use Rattle.std.specs.List.{list_all}
use Rattle.std.specs.Option.{option_map_or}
use Rattle.circus_value.specs.ValueTree.{ValueTree}
use Rattle.circus_value.specs.declared.caller.Caller.{Caller}
use Rattle.circus_header.specs.declared.answer.Reply.{Reply}
use Rattle.circus_transfer.specs.declared.joiner.Joiner.{Joiner}
use Rattle.circus_transfer.specs.Snapshot.{snapshot_bytes}
use Rattle.circus_record.specs.declared.record.MemberRecord.{MemberRecord}
use Rattle.circus_record.specs.declared.record.RunRecord.{RunRecord}
use Rattle.circus_gather.specs.Gathering.{Gathered, index_of, reply_of, answer_to, with_call, with_required, with_first}
use Rattle.circus_gather.specs.declared.held.HeldCall.{HeldCall}
use Rattle.circus_performing.specs.Performing.{is_active, is_fetching, state_after}
use Rattle.circus_performing.specs.Record.{count_after}
use Rattle.circus_member_rules.specs.declared.occurrence.Effect.{Effect}
use Rattle.circus_member_rules.specs.declared.occurrence.Occurrence.{Occurrence}
use Rattle.circus_member_rules.specs.declared.occurrence.Occurrence.TheVariants as comes
use Rattle.circus_member_rules.specs.Messages.{reply_message, stale_message, before_message}
use Rattle.circus_member_rules.specs.Rules.{answer_at_once, stale_answers, before_answers}
use Rattle.circus_member_rules.specs.Step.{reply_of_run}
use Rattle.circus_member_theory.specs.Past.{Past, followed, now, required_incarnation, phase}
use Rattle.circus_member_theory.specs.Made.{asks, requests}
use Rattle.circus_member_theory.specs.Returns.{first_of, run_of, has_ended, is_stale, is_before, return_owed}
use Rattle.circus_member_theory.specs.Snapshots.{runs_before, began, snapshot_owed}

-- ---- a record

-- runs were performed one by one: none ended before its start, nor was started before the end of
-- the one before it, and one that has not ended is the last
pub record RunOneByOne (kept : MemberRecord) : Type 0 where
  pub lasts : (number : ℕ) (run : RunRecord) → slice_get kept.runs number ≡ Some run
      → IfSome run.ended (λ step. run.started ≤ step)
  pub next : (number : ℕ) (run other : RunRecord) → slice_get kept.runs number ≡ Some run
      → slice_get kept.runs (number + 1) ≡ Some other
      → IsSomeAnd run.ended (λ step. step ≤ other.started)

-- no step between these two
abbrev pub IsOutside : ℕ → ℕ → ℕ → Type 0
IsOutside low high step = (step ≤ low) ⊎ (high ≤ step)

-- no run was started, or ended, between two steps
abbrev pub NoneBetween : MemberRecord → ℕ → ℕ → Type 0
NoneBetween kept low high =
    (index : ℕ) (run : RunRecord) → run_of kept index ≡ Some run
    → IsOutside low high run.started × IfSome run.ended (IsOutside low high)

-- the run of an index was started by the end of a past, and hasn't ended by then
abbrev pub is_open : MemberRecord → Past → ℕ → Bool
is_open kept p index =
    option_map_or (λ (run : RunRecord). nat_le run.started (now p) && not (has_ended run p))
    (run_of kept index) false

-- it is the one that is open, where one is
abbrev pub is_index : Option ℕ → ℕ → Bool
is_index one index = option_map_or (nat_eq index) one false

-- the reply of the run of an index, where that has ended by the end of a past or passes a test
abbrev pub reply_if : MemberRecord → Past → (ℕ → Bool) → ℕ → Option Reply
reply_if kept p done index =
    option_and_then
    (λ (run : RunRecord). if has_ended run p || done index then Some (reply_of_run run) else None)
    (run_of kept index)

-- ---- the calls that wait

abbrev pub calls_of : List (ℕ × HeldCall) → List HeldCall
calls_of = map (λ (e : ℕ × HeldCall). e.1)

-- the ask that comes in a step
abbrev pub ask_in : ℕ → Occurrence → List (ℕ × HeldCall)
ask_in step (comes.Asked header body sender) =
    let call : HeldCall = record { header = header; body = body; sender = sender } in
    (step, call) ∷ []
ask_in step _ = []

-- the state request
abbrev pub request_in : ℕ → Occurrence → List (ℕ × Caller)
request_in step (comes.Fetched incarnation sender) = (step, sender) ∷ []
request_in step _ = []

-- of a member of a troupe, in this phase at boot, with this record in the end
module _ (troupe : ℕ) (begins : Joiner) (kept : MemberRecord) where
  -- the asks that wait for their return, in order of arrival
  abbrev pub unreturned : Past → List (ℕ × HeldCall)
  unreturned p =
      filter (λ (e : ℕ × HeldCall). is_none (return_owed troupe begins kept e.0 e.1 p)) (asks p)

  -- what is kept of the calls in at the end of a past
  pub record IsKeptOf (p : Past) (g : Gathered) : Type 0 where
    pub own : g.module ≡ troupe
    pub from : g.from ≡ first_of (phase begins p)
    pub required : g.required ≡ required_incarnation p
    pub held : g.held ≡ calls_of (unreturned p)
    -- of each index the reply, where its run has ended, and whether its run is open
    pub replies : (index : ℕ) → reply_of g index ≡ reply_if kept p (λ i. false) index
    pub opens : (index : ℕ) → is_index g.open_run index ≡ is_open kept p index

  -- ---- in a step behind a past, in which this comes

  module _ (p : Past) (step : ℕ) (o : Occurrence) where
    -- the asks that may get a return in the step
    abbrev pub asks_waiting : List (ℕ × HeldCall)
    asks_waiting = unreturned p ++ ask_in step o

    -- what such an ask gets, once the runs of the indexes that pass a test have ended in the step
    abbrev pub return_if : (ℕ → Bool) → ℕ × HeldCall → Option (List ℕ)
    return_if done e =
        let q = followed p step o in
        if is_stale troupe begins kept e.0 e.1 q then Some (stale_message (required_incarnation q))
        else if is_before troupe begins kept e.1 q
        then Some (before_message (first_of (phase begins q)))
        else option_map reply_message (reply_if kept p done (index_of troupe e.1.header))

    -- what is kept of the calls in then
    pub record IsKeptAmid (done : ℕ → Bool) (g : Gathered) : Type 0 where
      pub own : g.module ≡ troupe
      pub from : g.from ≡ first_of (phase begins (followed p step o))
      pub required : g.required ≡ required_incarnation (followed p step o)
      pub held : g.held ≡ calls_of (filter (λ e. is_none (return_if done e)) asks_waiting)
      pub replies : (index : ℕ) → reply_of g index ≡ reply_if kept p done index

-- ---- what comes

-- what is kept once this has come behind a past
abbrev pub gathered_by : Joiner → Past → Occurrence → Gathered → Gathered
gathered_by begins p (comes.Asked header body sender) g =
    with_call g (record { header = header; body = body; sender = sender })
gathered_by begins p (comes.Fetched incarnation sender) g = with_required g incarnation
gathered_by begins p (comes.Restored state count) g =
    if is_fetching (phase begins p) then with_first g count else g
gathered_by begins p _ g = g

-- the returns that are made at once
abbrev pub returns_by : Joiner → Past → Occurrence → Gathered → List Effect
returns_by begins p (comes.Asked header body sender) g = answer_at_once (answer_to g header) sender
returns_by begins p (comes.Fetched incarnation sender) g = stale_answers g incarnation
returns_by begins p (comes.Restored state count) g =
    if is_fetching (phase begins p) then before_answers g count else []
returns_by begins p _ g = []

-- ---- state requests

-- of a member in this phase and with this state at boot: those that wait for their snapshot
abbrev pub ungiven : Joiner → List ValueTree → MemberRecord → Past → List (ℕ × Caller)
ungiven begins first kept p =
    filter (λ (e : ℕ × Caller). is_none (snapshot_owed begins first kept e.0 p)) (requests p)

-- in the last step of a past there is a moment at which the member is active and performs no run
abbrev pub has_moment : Joiner → MemberRecord → Past → Bool
has_moment begins kept p =
    is_active (phase begins p) && list_all (λ run. has_ended run p) (runs_before kept p)

-- its snapshot then
abbrev pub snapshot_now : Joiner → List ValueTree → MemberRecord → Past → List ℕ
snapshot_now begins first kept p =
    snapshot_bytes
    (count_after (first_of (phase begins p)) (length (runs_before kept p)))
    (state_after (began begins first p) (runs_before kept p))

-- the run of an index is among the first so many, and ends in a step
abbrev pub ends_among : MemberRecord → ℕ → ℕ → ℕ → Bool
ends_among kept step count index =
    nat_lt index (kept.from + count)
    && option_map_or (λ (run : RunRecord). option_map_or (nat_eq step) run.ended false)
    (run_of kept index) false
