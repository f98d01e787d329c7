-- A module made of checked bodies does what these mean.
use Rattle.std.proofs.Common.{◌≡◌, ℕ, zero, suc, List, [], ◌∷◌, Option, Some, None, refl, ◌∙◌, Result, Ok, Err}
use Rattle.std.specs.Prelude.{IfOk}
use Rattle.circus_value.specs.ValueTree.{ValueTree}
use Rattle.circus_value.specs.declared.outcome.Outcome.{Outcome}
use Rattle.circus_model.specs.NextTurn.{NextTurn}
use Rattle.circus_model.specs.Behaviour.{Behaviour}
use Rattle.circus_model.specs.declared.signature.Signature.{Signature}
use Rattle.circus_machine.specs.declared.body.Body.{Body}
use Rattle.circus_machine.specs.Bodies.{next_turn}
use Rattle.circus_machine.specs.Modules.{place_of, body_at, turn_by, turn_with, behaves}
use Rattle.circus_idl.specs.declared.interface.Interface.{Interface}
use Rattle.circus_check.specs.Meaning.{BodyMeant, ModuleMeant}
use Rattle.circus_modules.specs.Zeros.{zeros}
use Rattle.circus_modules.specs.Signatures.{procedures_offered, signature_of}
use Rattle.circus_modules.specs.Behaviours.{turn_of, body_in, behaviour_of}
use Rattle.circus_modules.specs.Seen.Made.{AreMade}

-- the bodies in a place
turns_in : (limit : ℕ) (bodies : List BodyMeant) (made : List Body) → AreMade bodies made → (place : Option ℕ) → turn_by limit (body_at place made) ≡ turn_of limit (body_in bodies place)
turns_in limit bodies made are None = refl
turns_in limit [] [] are (Some n) = refl
turns_in limit [] (_ ∷ _) are (Some n) = absurd are
turns_in limit (_ ∷ _) [] are (Some n) = absurd are
turns_in limit (b ∷ bodies) (one ∷ made) are (Some zero) = λ i. next_turn limit (are.0.statements i) (are.0.locals i)
turns_in limit (b ∷ bodies) (one ∷ made) are (Some (suc n)) = turns_in limit bodies made are.1 (Some n)

behaves_as_meant : (limit : ℕ) (interfaces : List Interface) (numbers : List (Option ℕ)) (m : ModuleMeant) (made : List Body) → AreMade m.bodies made
    → behaves (signature_of limit interfaces numbers m) (zeros m.variables) made ≡ behaviour_of limit interfaces numbers m
behaves_as_meant limit interfaces numbers m made are = λ i. record {
  declared = signature_of limit interfaces numbers m;
  turn = λ state procedure. turns_in limit m.bodies made are (place_of procedure (procedures_offered interfaces m.interface)) i state;
  first = zeros m.variables;
}

-- so do bodies, a signature and a first state that are as they are meant
pub meant_so : (limit : ℕ) (interfaces : List Interface) (numbers : List (Option ℕ)) (m : ModuleMeant) (signature : Signature) (first : List ValueTree) (made : List Body)
    → signature ≡ signature_of limit interfaces numbers m → first ≡ zeros m.variables → AreMade m.bodies made → behaves signature first made ≡ behaviour_of limit interfaces numbers m
meant_so limit interfaces numbers m signature first made declared zeroed are =
    (λ i. behaves (declared i) (zeroed i) made) ∙ behaves_as_meant limit interfaces numbers m made are

-- what is said of the parts of a module is said of the whole
pub of_parts : {T E : Type 0} (declared : T → Signature) (turn : T → List ValueTree → ℕ → List ValueTree → List Outcome → NextTurn) (first : T → List ValueTree) (signature : Signature) (zeroed : List ValueTree) (bodies : List Body) (b : Behaviour)
    → behaves signature zeroed bodies ≡ b → (r : Result T E) → IfOk r (λ x. declared x ≡ signature) → IfOk r (λ x. turn x ≡ turn_with signature bodies) → IfOk r (λ x. first x ≡ zeroed)
    → IfOk r (λ x. let seen : Behaviour = record { declared = declared x; turn = turn x; first = first x } in seen ≡ b)
of_parts declared turn first signature zeroed bodies b is (Ok x) d t f = (λ i. record { declared = d i; turn = t i; first = f i }) ∙ is
of_parts declared turn first signature zeroed bodies b is (Err e) d t f = tt
