-- What a body does, started and resumed.
use Rattle.std.specs.Prelude.{ℕ, List, ◌++◌, length}
use Rattle.circus_value.specs.ValueTree.{ValueTree}
use Rattle.circus_value.specs.declared.outcome.Outcome.{Outcome}
use Rattle.circus_model.specs.NextTurn.{NextTurn}
use Rattle.circus_model.specs.declared.turn.Turn.{Turn}
use Rattle.circus_model.specs.declared.turn.Turn.TheVariants as T
use Rattle.circus_checked.specs.StatementTree.{StatementTree, statement_trees}
use Rattle.circus_machine.specs.Meaning.{Going, Flow, does_all, beginning, turn_of}
use Rattle.circus_machine.specs.Seen.Code.{codes_of}
use Rattle.circus_machine.specs.Seen.Running.{Awaits}
use Rattle.circus_machine.specs.declared.run.Paused.{Paused}

-- a limit for values, the statements, and what the local variables are at first
module _ (limit : ℕ) (statements : List StatementTree) (locals : List ValueTree) where
  -- what an execution does next, by the state at its beginning, the arguments and the replies so far
  abbrev pub next_turn : List ValueTree → List ValueTree → List Outcome → NextTurn
  next_turn state arguments replies = turn_of limit (length state) (statement_trees statements) state (arguments ++ locals) replies

  -- what it comes to
  abbrev pub flow_of : List ValueTree → List ValueTree → List Outcome → Flow Going
  flow_of state arguments replies = does_all limit (length state) (statement_trees statements) (beginning limit (length state) state (arguments ++ locals) replies)

  -- a paused execution stands for that beginning and these replies: with each reply more it comes to what it comes to with that reply
  abbrev pub Stands : Paused → List ValueTree → List ValueTree → List Outcome → Type 0
  Stands paused state arguments replies =
      Awaits limit (length state) (codes_of (statement_trees statements)) (λ more. flow_of state arguments (replies ++ more)) paused

  -- it stands for some
  pub record IsOf (paused : Paused) : Type 0 where
    pub state : List ValueTree
    pub arguments : List ValueTree
    pub replies : List Outcome
    pub stands : Stands paused state arguments replies

  -- what is paused, if anything is, goes on with this body
  abbrev pub Pauses : Turn Paused → Type 0
  Pauses (T.Asks callee procedure arguments state paused) = IsOf paused
  Pauses (T.Ends outcome state) = Unit {0}
