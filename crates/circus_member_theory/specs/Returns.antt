-- The return that a call gets: one, by the first case that applies, in the first step in which one
-- does.
use Rattle.std.specs.Prelude.{ℕ, ◌-◌, Bool, false, not, ◌&&◌, ◌||◌, nat_eq, nat_lt, nat_le, if◌then◌else◌, List, Option, None, Some, slice_get, option_and_then}
use Rattle.std.specs.Option.{option_map_or}
use Rattle.circus_transfer.specs.declared.joiner.Joiner.{Joiner}
use Rattle.circus_transfer.specs.declared.joiner.Joiner.TheVariants.{Outside, Asking, Fetching, Active}
use Rattle.circus_record.specs.declared.record.RunRecord.{RunRecord}
use Rattle.circus_record.specs.declared.record.MemberRecord.{MemberRecord}
use Rattle.circus_gather.specs.Gathering.{index_of}
use Rattle.circus_gather.specs.declared.held.HeldCall.{HeldCall}
use Rattle.circus_member_rules.specs.Messages.{reply_message, stale_message, before_message}
use Rattle.circus_member_rules.specs.Step.{reply_of_run}
use Rattle.circus_member_theory.specs.Past.{Past, now, required_incarnation, phase}
use Rattle.circus_member_theory.specs.First.{first_given}

-- the index from which a member is active, and 0 as long as it isn't
abbrev pub first_of : Joiner → ℕ
first_of Outside = 0
first_of Asking = 0
first_of (Fetching incarnation) = 0
first_of (Active first) = first

-- the run of an index in a record
abbrev pub run_of : MemberRecord → ℕ → Option RunRecord
run_of kept index = if nat_lt index kept.from then None else slice_get kept.runs (index - kept.from)

-- it was started before a step
abbrev pub was_started : MemberRecord → ℕ → ℕ → Bool
was_started kept index step =
    option_map_or (λ (run : RunRecord). nat_lt run.started step) (run_of kept index) false

-- a run has ended by the end of a past
abbrev pub has_ended : RunRecord → Past → Bool
has_ended run p = option_map_or (λ step. nat_le step (now p)) run.ended false

-- of a member of a troupe, in this phase at boot, with this record in the end
module _ (troupe : ℕ) (begins : Joiner) (kept : MemberRecord) where
  -- a call that came in a step is of an older view than required, and no run of its index was
  -- started before, unless it comes now
  abbrev pub is_stale : ℕ → HeldCall → Past → Bool
  is_stale step call p =
      nat_lt call.header.server_incarnation (required_incarnation p)
      && (nat_eq step (now p) || not (was_started kept (index_of troupe call.header) (now p)))

  -- it is before the first call that the member performs itself
  abbrev pub is_before : HeldCall → Past → Bool
  is_before call p = nat_lt (index_of troupe call.header) (first_of (phase begins p))

  -- the reply of the run of its index, where that has ended
  abbrev pub reply_by : HeldCall → Past → Option (List ℕ)
  reply_by call p =
      option_and_then
      (λ (run : RunRecord).
      if has_ended run p then Some (reply_message (reply_of_run run)) else None)
      (run_of kept (index_of troupe call.header))

  -- what applies at the end of a past, from the call's arrival on: the first of the three
  abbrev pub return_at : ℕ → HeldCall → Past → Option (List ℕ)
  return_at step call p =
      if nat_lt (now p) step then None
      else if is_stale step call p then Some (stale_message (required_incarnation p))
      else if is_before call p then Some (before_message (first_of (phase begins p)))
      else reply_by call p

  -- the return of a call that came in a step, with the step in which it is made
  abbrev pub return_owed : ℕ → HeldCall → Past → Option (ℕ × List ℕ)
  return_owed step call p = first_given (return_at step call) p
