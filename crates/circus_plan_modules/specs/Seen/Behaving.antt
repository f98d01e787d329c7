-- What a module of a plan declares, how it goes on, and its first state.
use Rattle.std.specs.Prelude.{ℕ, List}
use Rattle.circus_value.specs.ValueTree.{ValueTree}
use Rattle.circus_value.specs.declared.outcome.Outcome.{Outcome}
use Rattle.circus_model.specs.NextTurn.{NextTurn}
use Rattle.circus_model.specs.declared.signature.Signature.{Signature}
use Rattle.circus_machine.specs.declared.text.TextModule.{TextModule}
use Rattle.circus_machine.specs.Modules.{turn_with}

abbrev pub declared_signature : TextModule → Signature
declared_signature m = m.parts.value.signature

abbrev pub turn : TextModule → List ValueTree → ℕ → List ValueTree → List Outcome → NextTurn
turn m = turn_with m.parts.value.signature m.parts.value.bodies

abbrev pub first : TextModule → List ValueTree
first m = m.parts.value.first
