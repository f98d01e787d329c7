-- What holds of every record, said of its runs and asks alone.
use Rattle.std.specs.Prelude.{ℕ, ◌≡◌, ◌+◌, ◌⊎◌, true, false, min, List, [], ◌∷◌, ◌++◌, length, take, slice_get, slice_index, None, Some}
use Rattle.circus_value.specs.ValueTree.{ValueTree}
use Rattle.circus_value.specs.declared.outcome.Outcome.{Outcome}
use Rattle.circus_model.specs.declared.signature.Signature.{Signature}
use Rattle.circus_model.specs.NextTurn.{NextTurn, asks, ends}
use Rattle.circus_model.specs.Lawful.{IsState, CanStart, RepliesFit, import_answers}
use Rattle.circus_model.specs.Behaviour.{Behaviour}
use Rattle.circus_model.specs.Execution.{is_spent}
use Rattle.circus_record.specs.declared.record.AskRecord.{AskRecord}
use Rattle.circus_record.specs.declared.record.RunRecord.{RunRecord}
use Rattle.circus_record.specs.declared.record.MemberRecord.{MemberRecord}
use Rattle.circus_performing.specs.declared.start.RunStart.{RunStart}
use Rattle.circus_performing.specs.Performing.{clock_after, step_after, state_after, replies_of, is_active, refusal, last_count}

-- what a module does, by what it declares, its turns and its first state
abbrev pub behaviour : {M : Type 0} → (M → Signature) → (M → List ValueTree → ℕ → List ValueTree → List Outcome → NextTurn) → (M → List ValueTree) → M → Behaviour
behaviour declared turn first hosted = record { declared = declared hosted; turn = turn hosted; first = first hosted }

-- how a run was entered
abbrev pub start_of : RunRecord → RunStart
start_of run = record { root = run.root; path = run.path; procedure = run.procedure; arguments = run.arguments; clock = run.entry }

-- the turns of what is entered so in this state
abbrev pub turns : Behaviour → List ValueTree → RunStart → List Outcome → NextTurn
turns b state start = b.turn state start.procedure start.arguments

-- ---- asks

-- the ask is the turn behind the asks before it: it has its callee's count of the clock as index, and was made in the
-- step in which the one before it was answered, or the run was entered
pub record IsMade (b : Behaviour) (state : List ValueTree) (start : RunStart) (started : ℕ) (before : List AskRecord) (ask : AskRecord) : Type 0 where
  pub turn : turns b state start (replies_of before) ≡ asks ask.callee ask.procedure ask.arguments ask.state
  pub index : ask.index ≡ slice_index (clock_after start.clock before) ask.callee
  pub asked : ask.asked ≡ step_after started before

-- it was answered as its callee may answer; where the thread had made all its calls, at once, by the error for that and
-- with the clock as it was
pub record IsAnswered (b : Behaviour) (start : RunStart) (before : List AskRecord) (ask : AskRecord) : Type 0 where
  pub reply : Outcome
  pub after : List ℕ
  pub answered : ℕ
  pub reply_is : ask.reply ≡ Some reply
  pub after_is : ask.after ≡ Some after
  pub answered_is : ask.answered ≡ Some answered
  pub fits : import_answers b.declared.imports ask.callee ask.procedure reply ≡ true
  pub refused : is_spent (clock_after start.clock before) ≡ true → (reply ≡ refusal) × (after ≡ clock_after start.clock before) × (answered ≡ ask.asked)

-- it waits for its reply, and its thread has calls left
pub record IsWaiting (start : RunStart) (before : List AskRecord) (ask : AskRecord) : Type 0 where
  pub no_reply : ask.reply ≡ None
  pub no_clock : ask.after ≡ None
  pub not_answered : ask.answered ≡ None
  pub calls_left : is_spent (clock_after start.clock before) ≡ false

-- ---- runs

-- what was entered so in a step made these asks, each of which was answered
pub record HasMade (b : Behaviour) (state : List ValueTree) (start : RunStart) (started : ℕ) (made : List AskRecord) : Type 0 where
  pub may_start : CanStart b.declared state start.procedure start.arguments
  pub replies_fit : RepliesFit b.declared.imports (turns b state start) [] (replies_of made)
  pub asks_so : (number : ℕ) (ask : AskRecord) → slice_get made number ≡ Some ask → IsMade b state start started (take number made) ask × IsAnswered b start (take number made) ask

-- the run has ended, in the step of its last answer, or in that of its start where it has none
pub record HasEnded (b : Behaviour) (state : List ValueTree) (run : RunRecord) : Type 0 where
  pub outcome : Outcome
  pub after : List ValueTree
  pub made : HasMade b state (start_of run) run.started run.asks
  pub turn : turns b state (start_of run) (replies_of run.asks) ≡ ends outcome after
  pub outcome_is : run.outcome ≡ Some outcome
  pub state_is : run.state ≡ Some after
  pub end_is : run.end ≡ Some (clock_after run.entry run.asks)
  pub ended_is : run.ended ≡ Some (step_after run.started run.asks)

-- it waits for the reply to its last ask
pub record IsOpen (b : Behaviour) (state : List ValueTree) (run : RunRecord) : Type 0 where
  pub before : List AskRecord
  pub ask : AskRecord
  pub asks_are : run.asks ≡ before ++ ask ∷ []
  pub made : HasMade b state (start_of run) run.started before
  pub asking : IsMade b state (start_of run) run.started before ask
  pub waits : IsWaiting (start_of run) before ask
  pub no_outcome : run.outcome ≡ None
  pub no_state : run.state ≡ None
  pub no_end : run.end ≡ None
  pub not_ended : run.ended ≡ None

-- ---- records

-- each run has ended, and began in the state after the runs before it
abbrev pub HaveEnded : Behaviour → List ValueTree → List RunRecord → Type 0
HaveEnded b began runs = (number : ℕ) (run : RunRecord) → slice_get runs number ≡ Some run → HasEnded b (state_after began (take number runs)) run

-- the index of the next call, once so many runs have ended
abbrev pub count_after : ℕ → ℕ → ℕ
count_after from ended = min (from + ended) last_count

-- the member performs no run; its state is that after its runs
pub record IsIdle (b : Behaviour) (began : List ValueTree) (kept : MemberRecord) : Type 0 where
  pub runs : HaveEnded b began kept.runs
  pub count : kept.count ≡ count_after kept.from (length kept.runs)
  pub state : kept.state ≡ state_after began kept.runs
  pub is_state : IsState b.declared kept.state

-- it performs its last run; its state is that of the open ask
pub record IsPerforming (b : Behaviour) (began : List ValueTree) (kept : MemberRecord) : Type 0 where
  pub before : List RunRecord
  pub run : RunRecord
  pub runs_are : kept.runs ≡ before ++ run ∷ []
  pub runs : HaveEnded b began before
  pub waiting : IsOpen b (state_after began before) run
  pub count : kept.count ≡ count_after kept.from (length before)
  pub state : kept.state ≡ waiting.ask.state

-- a record of a member that became active with a state: only the last run may lack its end, and only its last ask a reply
pub record IsRecord (b : Behaviour) (began : List ValueTree) (kept : MemberRecord) : Type 0 where
  pub now : IsIdle b began kept ⊎ IsPerforming b began kept
  -- a member that isn't active has performed nothing
  pub inactive : is_active kept.phase ≡ false → kept.runs ≡ []
