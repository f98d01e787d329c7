-- A text line by line.
use Rattle.std.specs.Prelude.{ℕ, ◌==◌, if◌then◌else◌, List, [], ◌∷◌}

-- a line that ends with a newline, which is no part of it, or what stands behind the last newline
pub data Piece : Type 0 where
  whole : List ℕ → Piece
  rest : List ℕ → Piece

-- a byte before the others of a piece
abbrev pub onto : ℕ → Piece → Piece
onto byte (whole text) = whole (byte ∷ text)
onto byte (rest text) = rest (byte ∷ text)

abbrev pub onto_first : ℕ → List Piece → List Piece
onto_first byte [] = []
onto_first byte (piece ∷ others) = onto byte piece ∷ others

-- the whole lines, and at the end what is left, which may be nothing
abbrev pub pieces : List ℕ → List Piece
pieces [] = rest [] ∷ []
pieces (byte ∷ text) = if byte == 10 then whole [] ∷ pieces text else onto_first byte (pieces text)
