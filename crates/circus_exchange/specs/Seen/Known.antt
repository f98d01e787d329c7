-- What is kept belongs to what is known.
use Rattle.std.specs.Prelude.{◌≡◌, ℕ, None}
use Rattle.std.specs.Ordering.{nat_cmp}
use Rattle.std.specs.FinMap.{FinMap, get}

-- nothing is kept under a number of which nothing is known
abbrev pub AreKnown : {X Y : Type 0} → FinMap nat_cmp X → FinMap nat_cmp Y → Type 0
AreKnown known kept = (number : ℕ) → get known number ≡ None → get kept number ≡ None
