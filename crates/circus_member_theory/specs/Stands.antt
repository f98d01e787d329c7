-- A member's record beside the history of the program: it performed exactly the next runs of its module.
use Rattle.std.specs.Prelude.{ℕ, ◌≡◌, ◌+◌, ◌≤◌, ◌⊎◌, List, [], ◌∷◌, ◌++◌, length, take, None, Some, IsSomeAnd, slice_get}
use Rattle.circus_value.specs.ValueTree.{ValueTree}
use Rattle.circus_model.specs.declared.history.Ask.{Ask}
use Rattle.circus_model.specs.declared.history.Run.{Run}
use Rattle.circus_model.specs.History.{runs_of, run_at, state_after}
use Rattle.circus_record.specs.declared.record.AskRecord.{AskRecord}
use Rattle.circus_record.specs.declared.record.RunRecord.{RunRecord}
use Rattle.circus_record.specs.declared.record.MemberRecord.{MemberRecord}

-- ---- asks

-- it asks what an ask of the history does, in the same state
pub record AsksThat (ask : Ask) (kept : AskRecord) : Type 0 where
  pub callee : kept.callee ≡ ask.callee
  pub index : kept.index ≡ ask.index
  pub procedure : kept.procedure ≡ ask.procedure
  pub arguments : kept.arguments ≡ ask.arguments
  pub state : kept.state ≡ ask.state

-- and had that ask's reply
pub record IsAnsweredSo (ask : Ask) (kept : AskRecord) : Type 0 where
  pub asks : AsksThat ask kept
  pub reply : kept.reply ≡ Some ask.reply
  pub after : kept.after ≡ Some ask.after

-- or waits for it
pub record WaitsFor (ask : Ask) (kept : AskRecord) : Type 0 where
  pub asks : AsksThat ask kept
  pub reply : kept.reply ≡ None
  pub after : kept.after ≡ None

-- asks of the history were made and answered, one by one
abbrev pub AreAnsweredSo : List Ask → List AskRecord → Type 0
AreAnsweredSo [] [] = Unit {0}
AreAnsweredSo [] (_ ∷ _) = ⊥
AreAnsweredSo (_ ∷ _) [] = ⊥
AreAnsweredSo (ask ∷ asks) (kept ∷ made) = IsAnsweredSo ask kept × AreAnsweredSo asks made

-- ---- runs

-- it was entered as a run of the history is
pub record IsEnteredSo (run : Run) (kept : RunRecord) : Type 0 where
  pub root : kept.root ≡ run.root
  pub path : kept.path ≡ run.path
  pub procedure : kept.procedure ≡ run.procedure
  pub arguments : kept.arguments ≡ run.arguments
  pub entry : kept.entry ≡ run.entry

-- it is that run, from its entry to its end
pub record IsPerformed (run : Run) (kept : RunRecord) : Type 0 where
  pub entered : IsEnteredSo run kept
  pub asks : AreAnsweredSo run.asks kept.asks
  pub outcome : kept.outcome ≡ Some run.outcome
  pub state : kept.state ≡ Some run.state
  pub end : kept.end ≡ Some run.end

-- it is that run as far as an ask that waits
pub record IsUnderWay (run : Run) (kept : RunRecord) (waiting : AskRecord) : Type 0 where
  pub made : List AskRecord
  pub asks : kept.asks ≡ made ++ waiting ∷ []
  pub entered : IsEnteredSo run kept
  pub answered : AreAnsweredSo (take (length made) run.asks) made
  pub next : IsSomeAnd (slice_get run.asks (length made)) (λ ask. WaitsFor ask waiting)
  pub no_outcome : kept.outcome ≡ None
  pub no_state : kept.state ≡ None
  pub no_end : kept.end ≡ None

-- ---- records

-- these are the runs of a module from an index on
abbrev pub ArePerformed : List (List Run) → ℕ → ℕ → List RunRecord → Type 0
ArePerformed history place from runs =
    (number : ℕ) (kept : RunRecord) → slice_get runs number ≡ Some kept
    → IsSomeAnd (run_at history place (from + number)) (λ run. IsPerformed run kept)

-- the member of this module performs nothing, in the state after its runs; `first` is the state before any
pub record IsIdle (history : List (List Run)) (place : ℕ) (first : List ValueTree) (kept : MemberRecord) : Type 0 where
  pub runs : ArePerformed history place kept.from kept.runs
  pub count : kept.count ≡ kept.from + length kept.runs
  pub state : kept.state ≡ state_after history place first kept.count

-- it performs the next run, in the state of the ask that waits
pub record IsBusy (history : List (List Run)) (place : ℕ) (kept : MemberRecord) : Type 0 where
  pub before : List RunRecord
  pub last : RunRecord
  pub waiting : AskRecord
  pub runs_are : kept.runs ≡ before ++ last ∷ []
  pub runs : ArePerformed history place kept.from before
  pub count : kept.count ≡ kept.from + length before
  pub under_way : IsSomeAnd (run_at history place kept.count) (λ run. IsUnderWay run last waiting)
  pub state : kept.state ≡ waiting.state

-- what an active member of this module performed are the next runs of the history, each once, from its first one on
pub record Stands (history : List (List Run)) (place : ℕ) (first : List ValueTree) (kept : MemberRecord) : Type 0 where
  pub within : kept.count ≤ length (runs_of history place)
  pub now : IsIdle history place first kept ⊎ IsBusy history place kept
