-- What is paused, and a run that goes on.
use Rattle.std.specs.Prelude.{ℕ, ◌≡◌, ◌≤◌, true, false, List, [], length, Option, None, Some}
use Rattle.circus_value.specs.ValueTree.{ValueTree}
use Rattle.circus_value.specs.declared.outcome.Outcome.{Outcome}
use Rattle.circus_limits.specs.Limits.{most_asks}
use Rattle.circus_model.specs.Behaviour.{Behaviour}
use Rattle.circus_record.specs.declared.record.RunRecord.{RunRecord}
use Rattle.circus_record.specs.declared.record.MemberRecord.{MemberRecord}
use Rattle.circus_performing.specs.Performing.{state_after, step_after, replies_of, is_active}
use Rattle.circus_performing.specs.Record.{start_of, HasMade, HaveEnded, count_after, IsIdle, IsPerforming}

-- what is paused is the record's last run
pub record StandsFor (stands : List ValueTree → ℕ → List ValueTree → List Outcome → Type 0) (b : Behaviour) (began : List ValueTree) (kept : MemberRecord) : Type 0 where
  pub performing : IsPerforming b began kept
  pub stand : stands (state_after began performing.before) performing.run.procedure performing.run.arguments (replies_of performing.waiting.before)

-- nothing is paused exactly where the member performs no run
abbrev pub StandsAs : {P : Type 0} → (P → List ValueTree → ℕ → List ValueTree → List Outcome → Type 0) → Behaviour → List ValueTree → MemberRecord → Option P → Type 0
StandsAs stands b began kept None = IsIdle b began kept
StandsAs stands b began kept (Some paused) = StandsFor (stands paused) b began kept

-- a member's parts
pub record IsMember {P : Type 0} (stands : P → List ValueTree → ℕ → List ValueTree → List Outcome → Type 0) (b : Behaviour) (began : List ValueTree) (kept : MemberRecord) (paused : Option P) : Type 0 where
  pub now : StandsAs stands b began kept paused
  pub inactive : is_active kept.phase ≡ false → kept.runs ≡ []

-- a run goes on in a step: all its asks were answered, the last of them in that step
pub record IsUnderWay (b : Behaviour) (state : List ValueTree) (step : ℕ) (run : RunRecord) : Type 0 where
  pub made : HasMade b state (start_of run) run.started run.asks
  pub few : length (replies_of run.asks) ≤ most_asks
  pub now : step_after run.started run.asks ≡ step
  pub no_outcome : run.outcome ≡ None
  pub no_state : run.state ≡ None
  pub no_end : run.end ≡ None
  pub not_ended : run.ended ≡ None

-- a run that is under way stands behind those of the record
pub record IsNext (b : Behaviour) (began : List ValueTree) (kept : MemberRecord) (step : ℕ) (run : RunRecord) : Type 0 where
  pub active : is_active kept.phase ≡ true
  pub runs : HaveEnded b began kept.runs
  pub count : kept.count ≡ count_after kept.from (length kept.runs)
  pub under_way : IsUnderWay b (state_after began kept.runs) step run
