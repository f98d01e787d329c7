-- The words that name nothing in a placing.
use Rattle.std.specs.Prelude.{ℕ, Bool, List, [], ◌∷◌, codes, bytes_eq}
use Rattle.std.specs.List.{list_any}

unfoldable pub placing_words : List (List ℕ)
placing_words =
    codes "PLACE" ∷ codes "MACHINE" ∷ codes "MEMBERS" ∷ codes "WHERE" ∷ codes "PRESENT" ∷ codes "OR" ∷ codes "AND" ∷ codes "NOT" ∷
    codes "ALL" ∷ codes "DIFFER" ∷ codes "TRUE" ∷ codes "FALSE" ∷ []

unfoldable pub is_placing_word : List ℕ → Bool
is_placing_word w = list_any (λ r. bytes_eq r w) placing_words
