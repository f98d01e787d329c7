-- What holds of a history, said of its runs and asks alone.
use Rattle.std.specs.Prelude.{ℕ, zero, suc, ◌≡◌, ◌+◌, ◌≤◌, true, false, List, [], ◌∷◌, length, take, Option, Some, IsSomeAnd, slice_get, slice_index, slice_index_or, slice_set}
use Rattle.std.specs.Option.{option_map_or}
use Rattle.circus_value.specs.ValueTree.{ValueTree}
use Rattle.circus_model.specs.LanguageError.{number_of}
use Rattle.circus_model.specs.declared.language_error.LanguageError.TheVariants.{ThreadSpent}
use Rattle.circus_value.specs.declared.outcome.Outcome.TheVariants.{Raised}
use Rattle.circus_model.specs.declared.history.Ask.{Ask}
use Rattle.circus_model.specs.declared.history.Run.{Run}
use Rattle.circus_model.specs.NextTurn.{asks, ends}
use Rattle.circus_model.specs.Lawful.{CanStart, RepliesFit}
use Rattle.circus_model.specs.Behaviour.{Behaviour}
use Rattle.circus_model.specs.Execution.{is_spent, replies_of}

-- the runs of the module at a place, and the one with an index
abbrev pub runs_of : List (List Run) → ℕ → List Run
runs_of history place = slice_index_or history place []

abbrev pub run_at : List (List Run) → ℕ → ℕ → Option Run
run_at history place index = slice_get (runs_of history place) index

-- the state after so many runs, from the first state on
abbrev pub state_after : List (List Run) → ℕ → List ValueTree → ℕ → List ValueTree
state_after history place first zero = first
state_after history place first (suc index) = option_map_or (λ run. run.state) (run_at history place index) first

-- a run's clock, which began so, after these asks
abbrev pub current_clock : List ℕ → List Ask → List ℕ
current_clock entry [] = entry
current_clock entry (ask ∷ made) = current_clock ask.after made

-- a run's clock before its ask with this number
abbrev pub clock_before : Run → ℕ → List ℕ
clock_before run number = current_clock run.entry (take number run.asks)

-- no count is less in the second clock
abbrev pub IsEarlier : List ℕ → List ℕ → Type 0
IsEarlier before after = (place : ℕ) → slice_index before place ≤ slice_index after place

-- ---- a run by itself

-- its asks and its end are the turns of its module on the replies so far, from this state
pub record FollowsTurns (b : Behaviour) (state : List ValueTree) (run : Run) : Type 0 where
  pub start : CanStart b.declared state run.procedure run.arguments
  pub replies_fit : RepliesFit b.declared.imports (b.turn state run.procedure run.arguments) [] (replies_of run.asks)
  pub asks_so : (number : ℕ) (ask : Ask) → slice_get run.asks number ≡ Some ask → b.turn state run.procedure run.arguments (replies_of (take number run.asks)) ≡ asks ask.callee ask.procedure ask.arguments ask.state
  pub ends_so : b.turn state run.procedure run.arguments (replies_of run.asks) ≡ ends run.outcome run.state

-- its clock has a count for each of so many modules, never falls, and is at its end that after its last ask
pub record ClockGrows (modules : ℕ) (run : Run) : Type 0 where
  pub entry_length : length run.entry ≡ modules
  pub after_length : (number : ℕ) (ask : Ask) → slice_get run.asks number ≡ Some ask → length ask.after ≡ modules
  pub with_asks : (number : ℕ) (ask : Ask) → slice_get run.asks number ≡ Some ask → IsEarlier (clock_before run number) ask.after
  pub end : run.end ≡ current_clock run.entry run.asks

-- it is the first call of a root's thread, in a program of so many modules
pub record IsMain (modules main : ℕ) (run : Run) : Type 0 where
  pub path : run.path ≡ []
  pub root : run.root ≡ main
  pub procedure : run.procedure ≡ 0
  pub arguments : run.arguments ≡ []
  pub clock_length : length run.entry ≡ modules
  pub clock_zero : (place : ℕ) → slice_index run.entry place ≡ 0

-- ---- asks, and the runs that they made

-- the run is what an ask made at this clock, in a root's thread and on a path
pub record IsMadeBy (main : ℕ) (way : List ℕ) (before : List ℕ) (ask : Ask) (run : Run) : Type 0 where
  pub root : run.root ≡ main
  pub path : run.path ≡ way
  pub procedure : run.procedure ≡ ask.procedure
  pub arguments : run.arguments ≡ ask.arguments
  pub entry : run.entry ≡ slice_set before ask.callee (ask.index + 1)
  pub outcome : run.outcome ≡ ask.reply
  pub end : run.end ≡ ask.after

-- the thread that made an ask was spent
pub record IsRefused (before : List ℕ) (ask : Ask) : Type 0 where
  pub reply : ask.reply ≡ Raised (number_of ThreadSpent) []
  pub after : ask.after ≡ before

-- an ask at this clock has its callee's count as index, and its reply is from the run that it made, unless the thread was spent
pub record IsAnswered (history : List (List Run)) (main : ℕ) (way : List ℕ) (before : List ℕ) (ask : Ask) : Type 0 where
  pub index : ask.index ≡ slice_index before ask.callee
  pub makes : is_spent before ≡ false → IsSomeAnd (run_at history ask.callee ask.index) (IsMadeBy main way before ask)
  pub refused : is_spent before ≡ true → IsRefused before ask

-- the run with this index was made by an ask of a run of another module
pub record HasMaker (history : List (List Run)) (place index : ℕ) : Type 0 where
  pub caller_place : ℕ
  pub caller_index : ℕ
  pub caller : Run
  pub number : ℕ
  pub ask : Ask
  pub caller_is : run_at history caller_place caller_index ≡ Some caller
  pub ask_is : slice_get caller.asks number ≡ Some ask
  pub callee : ask.callee ≡ place
  pub index_is : ask.index ≡ index
  pub not_spent : is_spent (clock_before caller number) ≡ false

-- two runs of a history are one
pub record IsSamePlace (place index other_place other_index : ℕ) : Type 0 where
  pub place_is : place ≡ other_place
  pub index_is : index ≡ other_index

-- two askers are one, with one ask
pub record IsSameMaker {history : List (List Run)} {place index : ℕ} (one other : HasMaker history place index) : Type 0 where
  pub caller : IsSamePlace one.caller_place one.caller_index other.caller_place other.caller_index
  pub number : one.number ≡ other.number
