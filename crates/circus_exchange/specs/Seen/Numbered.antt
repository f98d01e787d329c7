-- How a row of values is seen: each under its number.
use Rattle.std.specs.Prelude.{ℕ, ◌+◌, ◌<◌, ◌≤◌, ◌⊎◌, List, [], ◌∷◌, ◌++◌}
use Rattle.std.specs.Ordering.{nat_cmp}
use Rattle.std.specs.FinMap.{FinMap, from_entries}

-- values under the numbers from a first one on
abbrev pub number_from : {X : Type 0} → ℕ → List X → List (ℕ × X)
number_from first [] = []
number_from first (x ∷ xs) = (first, x) ∷ number_from (first + 1) xs

-- a row and the entries behind it as a map
abbrev pub map_of_row : {X : Type 0} → ℕ → List X → List (ℕ × X) → FinMap nat_cmp X
map_of_row first row others = from_entries (number_from first row ++ others)

-- a number is none of those in a row of some length that begins at a first number
abbrev pub IsOff : ℕ → ℕ → ℕ → Type 0
IsOff first len q = (q < first) ⊎ (first + len ≤ q)
