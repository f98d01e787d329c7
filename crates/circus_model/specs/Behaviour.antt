-- What a module does, seen from outside.
use Rattle.std.specs.Prelude.{ℕ, List, [], length, map}
use Rattle.circus_value.specs.ValueTree.{ValueTree}
use Rattle.circus_value.specs.declared.outcome.Outcome.{Outcome}
use Rattle.circus_model.specs.declared.signature.Signature.{Signature}
use Rattle.circus_model.specs.NextTurn.{NextTurn}
use Rattle.circus_model.specs.Lawful.{IsState, CanStart, RepliesFit, IsLawful}

-- what it declares, what an execution does next from the state at its beginning, the procedure, the arguments and the replies so far, and its first state
pub record Behaviour : Type 0 where
  pub declared : Signature
  pub turn : List ValueTree → ℕ → List ValueTree → List Outcome → NextTurn
  pub first : List ValueTree

-- what each of these modules does, by what it declares, its turns and its first state
abbrev pub behaviours : {M : Type 0} → (M → Signature) → (M → List ValueTree → ℕ → List ValueTree → List Outcome → NextTurn) → (M → List ValueTree) → List M → List Behaviour
behaviours declared turn first modules =
    map (λ m. record { declared = declared m; turn = turn m; first = first m }) modules

-- the laws that every module keeps to
pub record IsModule (b : Behaviour) : Type 0 where
  pub first_is_state : IsState b.declared b.first
  pub turns_are_lawful : (state : List ValueTree) (procedure : ℕ) (arguments : List ValueTree) (replies : List Outcome) → CanStart b.declared state procedure arguments → RepliesFit b.declared.imports (b.turn state procedure arguments) [] replies → IsLawful b.declared procedure (length replies) (b.turn state procedure arguments replies)
