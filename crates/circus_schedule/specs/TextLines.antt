-- The lines of a text.
use Rattle.std.specs.Prelude.{ℕ, ◌==◌, List, [], ◌∷◌, if◌then◌else◌}
use Rattle.std.specs.List.{onto_first}

-- what ends a line
abbrev pub newline : ℕ
newline = 10

-- each line ends at a newline, which is no part of it; the last one may end with the text, where it has a byte
abbrev pub lines_of : List ℕ → List (List ℕ)
lines_of [] = []
lines_of (byte ∷ text) = if byte == newline then [] ∷ lines_of text else onto_first byte (lines_of text)
