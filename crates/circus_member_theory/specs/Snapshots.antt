-- The snapshot that a state request gets: one, at the first moment from its arrival at which the
-- member is active and performs no run.
use Rattle.std.specs.Prelude.{ℕ, ◌&&◌, nat_lt, if◌then◌else◌, List, length, filter, Option, None, Some}
use Rattle.std.specs.List.{list_all}
use Rattle.std.specs.Option.{option_map_or}
use Rattle.circus_value.specs.ValueTree.{ValueTree}
use Rattle.circus_transfer.specs.declared.joiner.Joiner.{Joiner}
use Rattle.circus_transfer.specs.Snapshot.{snapshot_bytes}
use Rattle.circus_record.specs.declared.record.RunRecord.{RunRecord}
use Rattle.circus_record.specs.declared.record.MemberRecord.{MemberRecord}
use Rattle.circus_performing.specs.Performing.{is_active, state_after}
use Rattle.circus_performing.specs.Record.{count_after}
use Rattle.circus_member_theory.specs.Past.{Past, now, phase, snapshot_fetched}
use Rattle.circus_member_theory.specs.First.{first_given}
use Rattle.circus_member_theory.specs.Returns.{first_of, has_ended}

-- the runs of a record that were started before the last step of a past
abbrev pub runs_before : MemberRecord → Past → List RunRecord
runs_before kept p = filter (λ (run : RunRecord). nat_lt run.started (now p)) kept.runs

-- of a member in this phase and with this state at boot
module _ (begins : Joiner) (first : List ValueTree) where
  -- the state with which it became active
  abbrev pub began : Past → List ValueTree
  began p = option_map_or (λ (s : List ValueTree × ℕ). s.0) (snapshot_fetched begins p) first

  -- by its record in the end: in a step the first moment is that at which the member is active and
  -- the runs before have ended
  abbrev pub snapshot_at : MemberRecord → ℕ → Past → Option (List ℕ)
  snapshot_at kept step p =
      if nat_lt (now p) step then None
      else if is_active (phase begins p) && list_all (λ run. has_ended run p) (runs_before kept p)
      then Some (snapshot_bytes
      (count_after (first_of (phase begins p)) (length (runs_before kept p)))
      (state_after (began p) (runs_before kept p)))
      else None

  -- the snapshot for a request that came in a step, with the step in which it is made
  abbrev pub snapshot_owed : MemberRecord → ℕ → Past → Option (ℕ × List ℕ)
  snapshot_owed kept step p = first_given (snapshot_at kept step) p
