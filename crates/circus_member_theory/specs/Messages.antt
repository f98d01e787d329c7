-- When a message that cites the history of the program is true.
use Rattle.std.specs.Prelude.{ℕ, ◌≡◌, ◌≤◌, false, List, [], ◌∷◌, ◌++◌, length, Some, IsSomeAnd, slice_get, slice_index}
use Rattle.circus_value.specs.ValueTree.{ValueTree}
use Rattle.circus_external.specs.Spelling.{spelling_of_all}
use Rattle.circus_header.specs.declared.call.CallHeader.{CallHeader}
use Rattle.circus_header.specs.declared.answer.Reply.{Reply}
use Rattle.circus_model.specs.declared.history.Ask.{Ask}
use Rattle.circus_model.specs.declared.history.Run.{Run}
use Rattle.circus_model.specs.Execution.{is_spent}
use Rattle.circus_model.specs.History.{runs_of, run_at, state_after, clock_before}

-- the ask of this number of a run of a module, whose thread has calls left
pub record IsAskAt (history : List (List Run)) (place index number : ℕ) (run : Run) (ask : Ask) : Type 0 where
  pub run_is : run_at history place index ≡ Some run
  pub ask_is : slice_get run.asks number ≡ Some ask
  pub calls_left : is_spent (clock_before run number) ≡ false

-- a call's header and body are those of that ask, but for the views that it names
pub record AsksSo (number : ℕ) (run : Run) (ask : Ask) (header : CallHeader) (body : List ℕ) : Type 0 where
  pub root : header.root ≡ run.root
  pub path : header.path ≡ run.path ++ number ∷ []
  pub server : header.server ≡ ask.callee
  pub procedure : header.procedure ≡ ask.procedure
  pub clock : header.clock ≡ clock_before run number
  pub body_is : body ≡ spelling_of_all ask.arguments

-- a call is true: it is an ask of the run that its header names by module and index
pub record IsTrueCall (history : List (List Run)) (header : CallHeader) (body : List ℕ) : Type 0 where
  pub number : ℕ
  pub run : Run
  pub ask : Ask
  pub there : IsAskAt history header.client header.client_index number run ask
  pub so : AsksSo number run ask header body

-- a reply is that of a run
pub record IsReplyOf (run : Run) (reply : Reply) : Type 0 where
  pub clock : reply.clock ≡ run.end
  pub outcome : reply.outcome ≡ run.outcome

-- a reply to a call is true: it is that of the run that the call asks for
abbrev pub IsTrueReply : List (List Run) → CallHeader → Reply → Type 0
IsTrueReply history header reply =
    IsSomeAnd (run_at history header.server (slice_index header.clock header.server)) (λ run. IsReplyOf run reply)

-- a snapshot is true: it has the state of a module after so many runs
pub record IsTrueState (history : List (List Run)) (place : ℕ) (first : List ValueTree) (count : ℕ) (state : List ValueTree) : Type 0 where
  pub within : count ≤ length (runs_of history place)
  pub state_is : state ≡ state_after history place first count
