-- What modules are made of.
use Rattle.std.specs.Prelude.{◌≡◌, ◌<◌, ℕ, List, [], ◌∷◌, Option}
use Rattle.std.specs.List.{AllByRecursion}
use Rattle.circus_value.specs.ExternalSize.{size_of_values}
use Rattle.circus_model.specs.Lawful.{IsState}
use Rattle.circus_machine.specs.Modules.{AreBodiesOf}
use Rattle.circus_machine.specs.declared.body.Body.{Body}
use Rattle.circus_idl.specs.declared.interface.Interface.{Interface}
use Rattle.circus_check.specs.Meaning.{BodyMeant, ModuleMeant}
use Rattle.circus_modules.specs.Zeros.{zeros}
use Rattle.circus_modules.specs.Signatures.{procedures_offered, signature_of}

-- a body with the statements, and the zero values of the local variables
pub record IsMade (b : BodyMeant) (made : Body) : Type 0 where
  pub statements : made.statements ≡ b.statements
  pub locals : made.locals ≡ zeros b.locals

-- one for each, in order
abbrev pub AreMade : List BodyMeant → List Body → Type 0
AreMade [] [] = Unit {0}
AreMade [] (_ ∷ _) = ⊥
AreMade (_ ∷ _) [] = ⊥
AreMade (b ∷ bodies) (made ∷ all) = IsMade b made × AreMade bodies all

-- the local variables of a body are few enough to begin with
abbrev pub IsSmall : BodyMeant → Type 0
IsSmall b = size_of_values (zeros b.locals) < 4294967296

-- a module can be made, however its bodies are compiled
pub record CanBeMade (limit : ℕ) (interfaces : List Interface) (numbers : List (Option ℕ)) (m : ModuleMeant) : Type 0 where
  pub first : IsState (signature_of limit interfaces numbers m) (zeros m.variables)
  pub small : AllByRecursion IsSmall m.bodies
  pub bodies : (made : List Body) → AreMade m.bodies made → AreBodiesOf (signature_of limit interfaces numbers m) (procedures_offered interfaces m.interface) made
