-- What was read where an answer was found.
use Rattle.std.proofs.Common.{◌≡◌, ℕ, Bool, true, false, ◌⊎◌, inl, inr, List, Option, Some, None, option_map, refl}
use Rattle.circus_value_text.specs.Reading.{Read}
use Rattle.circus_audit.specs.Seen.Answers.{then_read, from_some, or_else, only_if}

pub found_is : {A B : Type 0} (r : Read A) (f : A → List ℕ → Option B) (b : B) → then_read r f ≡ Some b → (a : A × List ℕ) × (r ≡ Some a) × (f a.0 a.1 ≡ Some b)
found_is (Some a) f b is = (a, refl, is)
found_is None f b is = cc

pub from_is : {A B : Type 0} (r : Option A) (f : A → Option B) (b : B) → from_some r f ≡ Some b → (a : A) × (r ≡ Some a) × (f a ≡ Some b)
from_is (Some a) f b is = (a, refl, is)
from_is None f b is = cc

pub map_is : {A B : Type 0} (f : A → B) (r : Option A) (b : B) → option_map f r ≡ Some b → (a : A) × (r ≡ Some a) × (f a ≡ b)
map_is f (Some a) b is = (a, refl, cc)
map_is f None b is = cc

pub only_is : {B : Type 0} (t : Bool) (r : Option B) (b : B) → only_if t r ≡ Some b → (t ≡ true) × (r ≡ Some b)
only_is true r b is = (refl, is)
only_is false r b is = cc

pub or_is : {B : Type 0} (r : Option (List ℕ)) (f : List ℕ → Option B) (other : Option B) (b : B) → or_else r f other ≡ Some b → ((inner : List ℕ) × (r ≡ Some inner) × (f inner ≡ Some b)) ⊎ ((r ≡ None) × (other ≡ Some b))
or_is (Some inner) f other b is = inl (inner, refl, is)
or_is None f other b is = inr (refl, is)
