-- What rows of truth values say of which modules reach which.
use Rattle.std.specs.Prelude.{◌≡◌, ℕ, suc, Bool, false, List, Option, Some, None, length, take, option_map, slice_get}
use Rattle.circus_lang.specs.ModuleTree.{ModuleTree}
use Rattle.circus_check.specs.declared.reach.Shared.{Shared as Found}
use Rattle.circus_check.specs.declared.reach.Reach.{Reach}
use Rattle.circus_limits.specs.Limits.{most_modules}
use Rattle.circus_check.specs.Reach.{Shared, reaches_below, shared_at}

abbrev pub shared_as : Found → Shared
shared_as s = record { «module» = s.«module»; first = s.first }

abbrev pub truth_or : Option Bool → Bool
truth_or None = false
truth_or (Some b) = b

abbrev pub row_says : Option (List Bool) → ℕ → Bool
row_says None j = false
row_says (Some row) j = truth_or (slice_get row j)

-- a row for each of the modules so far
abbrev pub says : Reach → ℕ → ℕ → Bool
says reach i j = row_says (slice_get reach.rows i) j

pub record Tells (reach : Reach) (modules : List ModuleTree) : Type 0 where
  pub reached : (i j : ℕ) → says reach i j ≡ reaches_below modules (length reach.rows) i j

-- for each module up to the first that is one too many, what it shares as a second root
pub record AreShares (shares : List (Option Found)) (modules : List ModuleTree) : Type 0 where
  pub as_many : length shares ≡ length (take (suc most_modules) modules)
  pub each : (n : ℕ) (s : Option Found) → slice_get shares n ≡ Some s → option_map shared_as s ≡ shared_at modules n
