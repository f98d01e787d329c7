-- The lines of a text.
use Rattle.std.proofs.Common.{◌≡◌, ◌≢◌, ◌++◌, ℕ, List, [], ◌∷◌, ap, refl}
use Rattle.std.specs.List.{onto_first}
use Rattle.circus_schedule.specs.TextLines.{newline, lines_of}
use Rattle.circus_schedule.specs.Seen.Cut.{Lacks}

-- what stands before a newline is the first line
pub lines_of-cut : (text rest : List ℕ) → Lacks newline text → lines_of (text ++ newline ∷ rest) ≡ text ∷ lines_of rest
lines_of-cut [] rest lacks = refl
lines_of-cut (b ∷ text) rest lacks = rw lacks.0 (ap (onto_first b) (lines_of-cut text rest lacks.1))

-- a text without newlines is one line
pub lines_of-last : (text : List ℕ) → text ≢ [] → Lacks newline text → lines_of text ≡ text ∷ []
lines_of-last [] some lacks = absurd (some refl)
lines_of-last (b ∷ []) some lacks = rw lacks.0 refl
lines_of-last (b ∷ c ∷ text) some lacks =
    rw lacks.0 (ap (onto_first b) (lines_of-last (c ∷ text) (λ none. cc) lacks.1))
