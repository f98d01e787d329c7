-- Numbers of two and of four bytes, the high byte first.
use Rattle.std.specs.Prelude.{ℕ, List, [], ◌∷◌, Option, Some, None}
use Rattle.std.specs.Int.{w16, w32, from_be_bytes, to_be_bytes}

-- the two bytes of a word
abbrev pub word : ℕ → List ℕ
word n = to_be_bytes w16 n

-- the four bytes of a number of two words
abbrev pub long : ℕ → List ℕ
long n = to_be_bytes w32 n

-- the word that stands at the front
abbrev pub first_word : List ℕ → Option ℕ
first_word [] = None
first_word (_ ∷ []) = None
first_word (a ∷ b ∷ _) = Some (from_be_bytes w16 (a ∷ b ∷ []))

-- the number of two words that stands at the front
abbrev pub first_long : List ℕ → Option ℕ
first_long [] = None
first_long (_ ∷ []) = None
first_long (_ ∷ _ ∷ []) = None
first_long (_ ∷ _ ∷ _ ∷ []) = None
first_long (a ∷ b ∷ c ∷ d ∷ _) = Some (from_be_bytes w32 (a ∷ b ∷ c ∷ d ∷ []))
