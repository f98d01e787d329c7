-- The first run of a record that isn't a run of the history.
use Rattle.std.specs.Prelude.{ℕ, ◌≡◌, ◌≢◌, ◌⊎◌, ◌+◌, ◌<◌, List, length, Some, IsSomeAnd, slice_get}
use Rattle.circus_value.specs.ValueTree.{ValueTree}
use Rattle.circus_model.specs.declared.history.Run.{Run}
use Rattle.circus_model.specs.History.{runs_of, state_after}
use Rattle.circus_record.specs.declared.record.AskRecord.{AskRecord}
use Rattle.circus_record.specs.declared.record.RunRecord.{RunRecord}
use Rattle.circus_record.specs.declared.record.MemberRecord.{MemberRecord}
use Rattle.circus_member_theory.specs.Stands.{IsPerformed, IsUnderWay}

-- a run is one of the history as far as it goes: to its end, or to an ask that waits
abbrev pub IsSoFar : Run → RunRecord → Type 0
IsSoFar run kept = IsPerformed run kept ⊎ ((waiting : AskRecord) × IsUnderWay run kept waiting)

-- the run with this number in a record is the one that the module performs in its place
abbrev pub IsRight : List Run → MemberRecord → ℕ → Type 0
IsRight runs kept number =
    (run : RunRecord) → slice_get kept.runs number ≡ Some run
    → IsSomeAnd (slice_get runs (kept.from + number)) (λ (there : Run). IsSoFar there run)

-- this is the first number of a run of the record that is not
pub record IsFirstWrongRun (runs : List Run) (kept : MemberRecord) (number : ℕ) : Type 0 where
  pub within : number < length kept.runs
  pub wrong : IsRight runs kept number → ⊥
  pub right_before : (n : ℕ) → n < number → IsRight runs kept n

-- and this is its place
pub record HasWrongRun (runs : List Run) (kept : MemberRecord) (wrong : ℕ) : Type 0 where
  pub number : ℕ
  pub is : wrong ≡ kept.from + number
  pub first_wrong : IsFirstWrongRun runs kept number

-- the history of a program, the number of a module in it, and its first state
module _ (history : List (List Run)) (place : ℕ) (first : List ValueTree) where
  -- the history has fewer runs than those behind which the member became active, or the state with which it did isn't the one after them
  abbrev pub BeginsWrong : List ValueTree → MemberRecord → Type 0
  BeginsWrong state kept = (length (runs_of history place) < kept.from) ⊎ (state ≢ state_after history place first kept.from)

  -- what is told of a record that doesn't stand: its first place where it began wrong, else that of its first wrong run
  abbrev pub IsFirstWrong : List ValueTree → MemberRecord → ℕ → Type 0
  IsFirstWrong state kept wrong =
      (BeginsWrong state kept × (wrong ≡ kept.from))
      ⊎ ((BeginsWrong state kept → ⊥) × HasWrongRun (runs_of history place) kept wrong)
