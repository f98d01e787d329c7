-- Where each of several parts ends among the joined bytes.
use Rattle.std.specs.Prelude.{ℕ, ◌+◌, List, [], ◌∷◌, length}

-- the ends of parts that begin at a place and follow one another
abbrev pub ends_from : ℕ → List (List ℕ) → List ℕ
ends_from start [] = []
ends_from start (part ∷ others) = (start + length part) ∷ ends_from (start + length part) others
