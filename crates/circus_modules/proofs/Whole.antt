-- The modules of a well formed program can be made.
use Rattle.std.proofs.Common.{◌≡◌, ℕ, zero, suc, ◌≤◌, Bool, true, false, List, [], ◌∷◌, ◌++◌, Option, Some, None, refl, subst, arith}
use Rattle.std.specs.Prelude.{slice_get}
use Rattle.std.specs.List.{AllByRecursion, flat_map}
use Rattle.std.proofs.lemmas.Option.{same_Some}
use Rattle.circus_value.specs.ShapeTree.{FieldTree}
use Rattle.circus_limits.specs.Limits.{first_limit}
use Rattle.circus_type.specs.Limits.{most_parts}
use Rattle.circus_type.specs.Obeys.{ObeysWhole}
use Rattle.circus_type.specs.Together.{shapes_of, parts_of}
use Rattle.circus_idl.specs.Obeys.{Obeys}
use Rattle.circus_idl.specs.declared.interface.Procedure.{Procedure}
use Rattle.circus_idl.specs.declared.interface.Interface.{Interface}
use Rattle.circus_check.specs.Meaning.{BodyMeant, ModuleMeant}
use Rattle.circus_check.specs.WellFormed.{AreBodies, IsMain, HasBodies, IsModule, AreWellFormed}
use Rattle.circus_modules.specs.Signatures.{interface_numbers}
use Rattle.circus_modules.specs.Seen.Made.{IsSmall, CanBeMade}
use Rattle.circus_modules.proofs.States.{zeros_fit_shapes, zeros_within, locals_small, parts_joined, parts_among}
use Rattle.circus_modules.proofs.WholeBodies.{made_are_bodies}

module _ {X : Type 0} (P : X → Type 0) where
  -- what holds at each place holds of each
  of_places : (xs : List X) → ((n : ℕ) (x : X) → slice_get xs n ≡ Some x → P x) → AllByRecursion P xs
  of_places [] each = tt
  of_places (x ∷ xs) each = (each 0 x refl, of_places xs (λ n y at. each (suc n) y at))

  at_place : (xs : List X) → AllByRecursion P xs → (n : ℕ) (x : X) → slice_get xs n ≡ Some x → P x
  at_place [] all n x at = absurd (cc)
  at_place (y ∷ ys) all zero x at = subst P (same_Some y x at) all.0
  at_place (y ∷ ys) all (suc n) x at = at_place ys all.1 n x at

-- the local variables of a body obey
abbrev LocalsObey : BodyMeant → Type 0
LocalsObey b = AllByRecursion ObeysWhole (shapes_of b.locals)

all_small : (bodies : List BodyMeant) → AllByRecursion LocalsObey bodies → AllByRecursion (λ (b : BodyMeant). parts_of (shapes_of b.locals) ≤ most_parts) bodies → AllByRecursion IsSmall bodies
all_small [] obey few = tt
all_small (b ∷ bodies) obey few = (locals_small b.locals obey.0 few.0, all_small bodies obey.1 few.1)

module _ (interfaces : List Interface) (modules : List ModuleMeant) (m : ModuleMeant) where
  locals_of_bodies : (i : Interface) (ps : List Procedure) (bs : List BodyMeant) → AreBodies interfaces modules m i ps bs → AllByRecursion LocalsObey bs
  locals_of_bodies i [] [] are = tt
  locals_of_bodies i [] (_ ∷ _) are = absurd are
  locals_of_bodies i (_ ∷ _) [] are = absurd are
  locals_of_bodies i (p ∷ ps) (b ∷ bs) are = (are.0.locals, locals_of_bodies i ps bs are.1)

  locals_of_main : (bs : List BodyMeant) → IsMain interfaces modules m bs → AllByRecursion LocalsObey bs
  locals_of_main [] is = absurd is
  locals_of_main (b ∷ []) is = (is.locals, tt)
  locals_of_main (b ∷ _ ∷ _) is = absurd is

  locals_obey : (root : Bool) (number : Option ℕ) → HasBodies interfaces modules m root number → AllByRecursion LocalsObey m.bodies
  locals_obey true None has = locals_of_main m.bodies has
  locals_obey true (Some n) has = absurd has
  locals_obey false None has = absurd has
  locals_obey false (Some n) has = let (i, there, are) = has in locals_of_bodies i i.procedures m.bodies are

-- the parts of local variables are among all
fewer : (variables locals : List FieldTree) → parts_of (shapes_of (variables ++ locals)) ≤ most_parts → parts_of (shapes_of locals) ≤ most_parts
fewer variables locals few = omega (arith, parts_joined variables locals, few)

module _ (limit : ℕ) (interfaces : List Interface) (modules : List ModuleMeant) (large : first_limit ≤ limit) (obey : AllByRecursion Obeys interfaces) where
  can_be_made : (n : ℕ) (m : ModuleMeant) → IsModule interfaces modules n m → CanBeMade limit interfaces (interface_numbers modules) m
  can_be_made n m good = record {
    first = record { fits = zeros_fit_shapes m.variables good.types; within = zeros_within m.variables limit good.small large };
    small =
        all_small m.bodies (locals_obey interfaces modules m m.root m.interface good.bodies)
        (parts_among m.bodies most_parts (fewer m.variables (flat_map (λ (b : BodyMeant). b.locals) m.bodies) good.parts));
    bodies = λ made are. made_are_bodies limit interfaces modules (at_place Obeys interfaces obey) m made good.bodies are;
  }

  pub all_can_be_made : AreWellFormed interfaces modules → AllByRecursion (CanBeMade limit interfaces (interface_numbers modules)) modules
  all_can_be_made good = of_places (CanBeMade limit interfaces (interface_numbers modules)) modules (λ n m at. can_be_made n m (good.each n m at))
