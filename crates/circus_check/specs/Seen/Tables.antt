-- Names of two tables, and what is there of a list of places.
use Rattle.std.specs.Prelude.{ℕ, Bool, ◌||◌, cond, bytes_eq, List, [], ◌∷◌, Option, Some, None}

abbrev pub either : (List ℕ → Bool) → (List ℕ → Bool) → List ℕ → Bool
either outer own name = outer name || own name

abbrev pub those_there : {X : Type 0} → List (Option X) → List X
those_there [] = []
those_there (None ∷ xs) = those_there xs
those_there (Some x ∷ xs) = x ∷ those_there xs

-- the place that was found, or else another
abbrev pub or_place : Option ℕ → Option ℕ → Option ℕ
or_place (Some k) other = Some k
or_place None other = other

-- a name has a place where it has none yet
abbrev pub also_first : List ℕ → ℕ → (List ℕ → Option ℕ) → List ℕ → Option ℕ
also_first name place known other = or_place (known other) (cond (bytes_eq name other) (Some place) None)

-- faults where none is kept
abbrev pub unless_kept : {F X : Type 0} → Option F → List X → List X
unless_kept None own = own
unless_kept (Some f) own = []
