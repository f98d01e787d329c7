-- A turn in the program and the turn that it stands for.
use Rattle.std.specs.Prelude.{ℕ, ◌≡◌, List, []}
use Rattle.circus_value.specs.ValueTree.{ValueTree}
use Rattle.circus_value.specs.declared.outcome.Outcome.{Outcome}
use Rattle.circus_model.specs.declared.signature.Signature.{Signature}
use Rattle.circus_model.specs.declared.turn.Turn.{Turn}
use Rattle.circus_model.specs.declared.turn.Turn.TheVariants as T
use Rattle.circus_model.specs.NextTurn.{NextTurn, asks, ends}
use Rattle.circus_model.specs.Lawful.{CanStart, ReplyFits, RepliesFit}

-- the turn is the stated one, and what is paused stands for the execution so far
abbrev pub Gives : {P : Type 0} → (P → Type 0) → NextTurn → Turn P → Type 0
Gives Stands next (T.Asks callee procedure arguments state paused) =
    (next ≡ asks callee procedure arguments state) × Stands paused
Gives Stands next (T.Ends outcome state) = next ≡ ends outcome state

-- a paused execution may go on with this reply
pub record CanResume (Stands : List ValueTree → ℕ → List ValueTree → List Outcome → Type 0) (signature : Signature) (turn : List ValueTree → ℕ → List ValueTree → List Outcome → NextTurn) (reply : Outcome) : Type 0 where
  pub state : List ValueTree
  pub procedure : ℕ
  pub arguments : List ValueTree
  pub replies : List Outcome
  pub stands : Stands state procedure arguments replies
  pub start : CanStart signature state procedure arguments
  pub replies_fit : RepliesFit signature.imports (turn state procedure arguments) [] replies
  pub reply_fits : ReplyFits signature.imports (turn state procedure arguments replies) reply
