-- What an execution does next, as a plain value.
use Rattle.std.specs.Prelude.{ℕ, List}
use Rattle.circus_value.specs.ValueTree.{ValueTree}
use Rattle.circus_value.specs.declared.outcome.Outcome.{Outcome}

pub data NextTurn : Type 0 where
  -- callee, procedure, arguments, and the state as it asks
  asks : ℕ → ℕ → List ValueTree → List ValueTree → NextTurn
  -- outcome, and the state after
  ends : Outcome → List ValueTree → NextTurn
