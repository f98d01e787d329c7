-- What stands at places of lists, and of their images.
use Rattle.std.proofs.Common.{◌≡◌, ℕ, zero, suc, List, [], ◌∷◌, Some, map, refl, sym, subst}
use Rattle.std.specs.Prelude.{slice_get}
use Rattle.std.specs.List.{AllByRecursion}
use Rattle.std.proofs.lemmas.Option.{same_Some}

-- what holds of each holds of the one at a place
pub at_place : {X : Type 0} (P : X → Type 0) (xs : List X) → AllByRecursion P xs → (n : ℕ) (x : X) → slice_get xs n ≡ Some x → P x
at_place P [] all n x at = absurd (cc)
at_place P (y ∷ ys) all zero x at = subst P (same_Some y x at) all.0
at_place P (y ∷ ys) all (suc n) x at = at_place P ys all.1 n x at

-- what stands at a place of images is the image of what stands there
pub record OfMap {X Y : Type 0} (f : X → Y) (xs : List X) (place : ℕ) (y : Y) : Type 0 where
  pub item : X
  pub there : slice_get xs place ≡ Some item
  pub is : y ≡ f item

pub of_map : {X Y : Type 0} (f : X → Y) (xs : List X) (place : ℕ) (y : Y) → slice_get (map f xs) place ≡ Some y → OfMap f xs place y
of_map f [] place y is = absurd (cc)
of_map f (x ∷ xs) zero y is = record { item = x; there = refl; is = sym (same_Some (f x) y is) }
of_map f (x ∷ xs) (suc n) y is = let o = of_map f xs n y is in record { item = o.item; there = o.there; is = o.is }
