-- What the modules of a checked program do.
use Rattle.std.specs.Prelude.{ℕ, List, [], Option, Some, None, map, slice_get}
use Rattle.circus_value.specs.ValueTree.{ValueTree}
use Rattle.circus_value.specs.declared.outcome.Outcome.{Outcome}
use Rattle.circus_value.specs.declared.outcome.Outcome.TheVariants.{Raised}
use Rattle.circus_model.specs.LanguageError.{number_of}
use Rattle.circus_model.specs.declared.language_error.LanguageError.TheVariants.{Unhandled}
use Rattle.circus_model.specs.Behaviour.{Behaviour}
use Rattle.circus_model.specs.NextTurn.{NextTurn, ends}
use Rattle.circus_machine.specs.Bodies.{next_turn}
use Rattle.circus_machine.specs.Modules.{place_of}
use Rattle.circus_idl.specs.declared.interface.Interface.{Interface}
use Rattle.circus_check.specs.Meaning.{BodyMeant, ModuleMeant}
use Rattle.circus_modules.specs.Zeros.{zeros}
use Rattle.circus_modules.specs.Signatures.{signature_of, interface_numbers}

-- an execution of a body, whose local variables are zero at first
abbrev pub turn_of : ℕ → Option BodyMeant → List ValueTree → List ValueTree → List Outcome → NextTurn
turn_of limit None state arguments replies = ends (Raised (number_of Unhandled) []) state
turn_of limit (Some b) state arguments replies = next_turn limit b.statements (zeros b.locals) state arguments replies

-- the body in a place
abbrev pub body_in : List BodyMeant → Option ℕ → Option BodyMeant
body_in bodies None = None
body_in bodies (Some place) = slice_get bodies place

-- a module: its bodies stand in the places of its procedures, and its variables are zero at first
abbrev pub behaviour_of : ℕ → List Interface → List (Option ℕ) → ModuleMeant → Behaviour
behaviour_of limit interfaces numbers m = record {
  declared = signature_of limit interfaces numbers m;
  turn = λ state procedure arguments replies. turn_of limit (body_in m.bodies (place_of procedure (signature_of limit interfaces numbers m).procedures)) state arguments replies;
  first = zeros m.variables;
}

-- all modules
abbrev pub program_of : ℕ → List Interface → List ModuleMeant → List Behaviour
program_of limit interfaces modules = map (behaviour_of limit interfaces (interface_numbers modules)) modules
