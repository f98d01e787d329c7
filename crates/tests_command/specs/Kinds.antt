-- What modules of two kinds do, as one kind.
use Rattle.std.specs.Prelude.{ℕ, List}
use Rattle.circus_value.specs.ValueTree.{ValueTree}
use Rattle.circus_value.specs.declared.outcome.Outcome.{Outcome}
use Rattle.circus_model.specs.declared.turn.Turn.{Turn}
use Rattle.circus_model.specs.declared.turn.Turn.TheVariants as T
use Rattle.tests_command.specs.declared.either.Either.{Either}
use Rattle.tests_command.specs.declared.either.Either.TheVariants.{First, Second}

-- what one of its kind has
abbrev pub of_kind : {A B C : Type 0} → (A → C) → (B → C) → Either A B → C
of_kind first second (First a) = first a
of_kind first second (Second b) = second b

-- what is paused stands for an execution of a module of the same kind
abbrev pub IsOfKind : {A B P Q : Type 0} → (A → P → List ValueTree → ℕ → List ValueTree → List Outcome → Type 0) → (B → Q → List ValueTree → ℕ → List ValueTree → List Outcome → Type 0) → Either A B → Either P Q → List ValueTree → ℕ → List ValueTree → List Outcome → Type 0
IsOfKind first second (First a) (First p) state procedure arguments replies = first a p state procedure arguments replies
IsOfKind first second (First a) (Second q) state procedure arguments replies = ⊥
IsOfKind first second (Second b) (First p) state procedure arguments replies = ⊥
IsOfKind first second (Second b) (Second q) state procedure arguments replies = second b q state procedure arguments replies

-- the turn, in which what is paused is seen so
abbrev pub pausing : {P Q : Type 0} → (P → Q) → Turn P → Turn Q
pausing seen (T.Asks callee procedure arguments state paused) = T.Asks callee procedure arguments state (seen paused)
pausing seen (T.Ends outcome state) = T.Ends outcome state
