-- Which numbers names have, and which numbers stand, before a place of a text.
use Rattle.std.specs.Prelude.{ℕ, ◌+◌, Bool, false, ◌||◌, ◌==◌, cond, bytes_eq, List, [], ◌∷◌, Option, Some, None}

-- which number a name has, where it stands before a place
abbrev pub Known : Type 0
Known = List ℕ → Option ℕ

abbrev pub nobody : Known
nobody name = None

-- a name with a number besides those that stand before it
abbrev pub add_name : List ℕ → ℕ → Known → Known
add_name name number known other = cond (bytes_eq name other) (Some number) (known other)

-- no number yet
abbrev pub no_number : ℕ → Bool
no_number _ = false

-- this number besides those that stand before it
abbrev pub also_number : ℕ → (ℕ → Bool) → ℕ → Bool
also_number number earlier other = (number == other) || earlier other

-- the numbers of items by their names, where the first of them has this one
abbrev pub numbers_behind : {X : Type 0} → (X → List ℕ) → Known → ℕ → List X → Known
numbers_behind name_of known number [] = known
numbers_behind name_of known number (x ∷ xs) = numbers_behind name_of (add_name (name_of x) number known) (number + 1) xs

abbrev pub numbers_of : {X : Type 0} → (X → List ℕ) → List X → Known
numbers_of name_of xs = numbers_behind name_of nobody 0 xs
