-- What is found of a record beside the runs of its module.
use Rattle.std.specs.Prelude.{ℕ, ◌≡◌, ◌≢◌, ◌⊎◌, ◌<◌, ◌≤◌, zero, suc, List, [], length, slice_get}
use Rattle.std.specs.Option.{option_map_or}
use Rattle.circus_value.specs.ValueTree.{ValueTree}
use Rattle.circus_model.specs.declared.history.Run.{Run}
use Rattle.circus_record.specs.declared.record.MemberRecord.{MemberRecord}
use Rattle.circus_verdict.specs.declared.verdict.Verdict.{Verdict}
use Rattle.circus_verdict.specs.declared.verdict.Verdict.TheVariants as says
use Rattle.circus_verdict.specs.Beside.{IsRight, IsFirstWrongRun, HasWrongRun}

-- the state behind so many runs, from the first state on
abbrev pub state_in : List Run → List ValueTree → ℕ → List ValueTree
state_in runs first zero = first
state_in runs first (suc index) = option_map_or (λ (run : Run). run.state) (slice_get runs index) first

-- of a member that became active with the state begun
module _ (runs : List Run) (first begun : List ValueTree) (kept : MemberRecord) where
  pub record IsRightAll : Type 0 where
    pub within : kept.from ≤ length runs
    pub right : (number : ℕ) → IsRight runs kept number
    pub state : kept.runs ≡ [] → begun ≡ state_in runs first kept.from

  -- there are too few runs before its first one
  pub record IsBeyond (wrong : ℕ) : Type 0 where
    pub few : length runs < kept.from
    pub is : wrong ≡ kept.from

  -- it became active with another state than that behind them, and performed nothing, or a wrong run
  pub record IsInAnother (wrong : ℕ) : Type 0 where
    pub other : begun ≢ state_in runs first kept.from
    pub shown : (kept.runs ≡ []) ⊎ ((number : ℕ) × IsFirstWrongRun runs kept number)
    pub is : wrong ≡ kept.from

  -- it became active with that state, and performed a wrong run
  pub record IsWrongLater (wrong : ℕ) : Type 0 where
    pub within : kept.from ≤ length runs
    pub state : begun ≡ state_in runs first kept.from
    pub run : HasWrongRun runs kept wrong

  abbrev pub IsJudged : Verdict → Type 0
  IsJudged says.Yes = IsRightAll
  IsJudged says.NotARun = ⊥
  IsJudged (says.Run wrong) = IsBeyond wrong ⊎ (IsInAnother wrong ⊎ IsWrongLater wrong)
