-- A walk along the turns of a run.
use Rattle.std.specs.Prelude.{ℕ, ◌≡◌, ◌≤◌, true, List, [], slice_index, IsTrue, Some}
use Rattle.circus_value.specs.ValueTree.{ValueTree}
use Rattle.circus_value.specs.ExternalSize.{size_of_values}
use Rattle.circus_value.specs.declared.outcome.Outcome.{Outcome}
use Rattle.circus_limits.specs.Limits.{most_bytes}
use Rattle.circus_model.specs.declared.signature.Signature.{Signature}
use Rattle.circus_model.specs.declared.turn.Turn.{Turn}
use Rattle.circus_model.specs.declared.turn.Turn.TheVariants as T
use Rattle.circus_model.specs.Behaviour.{Behaviour}
use Rattle.circus_model.specs.Execution.{is_spent}
use Rattle.circus_model.specs.Lawful.{CanStart, arguments_fit, import_answers}
use Rattle.circus_model.specs.NextTurn.{NextTurn, asks, ends}
use Rattle.circus_record.specs.declared.record.AskRecord.{AskRecord}
use Rattle.circus_record.specs.declared.record.RunRecord.{RunRecord}
use Rattle.circus_performing.specs.Performing.{refusal}
use Rattle.circus_dues.specs.WalkRecord.{GoesOn}

-- a procedure takes these arguments
pub record IsTaken (signature : Signature) (procedure : ℕ) (arguments : List ValueTree) : Type 0 where
  pub fit : IsTrue (arguments_fit signature.procedures procedure arguments)
  pub within : size_of_values arguments ≤ most_bytes

-- the turn that this one is
abbrev pub next_of : {P : Type 0} → Turn P → NextTurn
next_of (T.Asks callee procedure arguments state paused) = asks callee procedure arguments state
next_of (T.Ends outcome state) = ends outcome state

-- the execution that waits behind it
abbrev pub WaitsBehind : {P : Type 0} → Turn P → P → Type 0
WaitsBehind (T.Asks callee procedure arguments state paused) waits = paused ≡ waits
WaitsBehind (T.Ends outcome state) waits = ⊥

-- the turn is this ask, made at this clock and in this step
pub record IsAsk (next : NextTurn) (clock : List ℕ) (step : ℕ) (ask : AskRecord) : Type 0 where
  pub turn : next ≡ asks ask.callee ask.procedure ask.arguments ask.state
  pub index : ask.index ≡ slice_index clock ask.callee
  pub asked : ask.asked ≡ step

-- an ask shows this reply, this clock after it and this step
pub record IsShown (ask : AskRecord) (reply : Outcome) (after : List ℕ) (answered : ℕ) : Type 0 where
  pub reply_is : ask.reply ≡ Some reply
  pub after_is : ask.after ≡ Some after
  pub answered_is : ask.answered ≡ Some answered

-- and was answered so as its callee may answer; a thread that is spent was refused
pub record IsAnswer (signature : Signature) (clock : List ℕ) (ask : AskRecord) (reply : Outcome) (after : List ℕ) (answered : ℕ) : Type 0 where
  pub shown : IsShown ask reply after answered
  pub fits : import_answers signature.imports ask.callee ask.procedure reply ≡ true
  pub refused : is_spent clock ≡ true → (reply ≡ refusal) × (after ≡ clock) × (answered ≡ ask.asked)

-- the run ends with this turn
pub record IsEnd (run : RunRecord) (next : NextTurn) (clock : List ℕ) (step : ℕ) : Type 0 where
  pub outcome : Outcome
  pub state : List ValueTree
  pub turn : next ≡ ends outcome state
  pub outcome_is : run.outcome ≡ Some outcome
  pub state_is : run.state ≡ Some state
  pub end_is : run.end ≡ Some clock
  pub ended_is : run.ended ≡ Some step

-- a run that begins in this state is one of the module, as far as it goes
pub record IsRunOf (b : Behaviour) (state : List ValueTree) (run : RunRecord) : Type 0 where
  pub may_start : CanStart b.declared state run.procedure run.arguments
  pub goes : GoesOn b state run [] run.entry run.started run.asks
