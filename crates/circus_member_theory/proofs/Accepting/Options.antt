-- What stands before what follows a value.
use Rattle.std.proofs.Common.{◌≡◌, Bool, true, false, Option, None, Some, refl}
use Rattle.std.specs.Prelude.{option_map, option_and_then}
use Rattle.std.specs.Option.{option_map_or}

-- a value, which what follows gives
pub record Before {A B : Type 0} (f : A → Option B) (o : Option A) (y : B) : Type 0 where
  pub value : A
  pub is : o ≡ Some value
  pub then : f value ≡ Some y

pub before_some : {A B : Type 0} (f : A → Option B) (o : Option A) (y : B) → option_and_then f o ≡ Some y → Before f o y
before_some f None y is = cc
before_some f (Some x) y is = record { value = x; is = refl; then = is }

-- a value, which is seen as another one
pub record Seen {A B : Type 0} (f : A → B) (o : Option A) (y : B) : Type 0 where
  pub value : A
  pub is : o ≡ Some value
  pub seen : y ≡ f value

pub seen_some : {A B : Type 0} (f : A → B) (o : Option A) (y : B) → option_map f o ≡ Some y → Seen f o y
seen_some f None y is = cc
seen_some f (Some x) y is = record { value = x; is = refl; seen = cc }

-- a value that passes
pub record Passes {A : Type 0} (test : A → Bool) (o : Option A) : Type 0 where
  pub value : A
  pub is : o ≡ Some value
  pub passes : test value ≡ true

pub passes_some : {A : Type 0} (test : A → Bool) (o : Option A) → option_map_or test o false ≡ true → Passes test o
passes_some test None is = cc
passes_some test (Some x) is = record { value = x; is = refl; passes = is }
