-- The bytes of a value: a list of pieces, each of which is whole or isn't there.
use Rattle.std.specs.Prelude.{◌≡◌, ℕ, ◌%◌, Bool, true, List, [], ◌∷◌, ◌++◌, length, replicate, if◌then◌else◌}
use Rattle.std.specs.List.{flat_map}
use Rattle.std.specs.Int.{w16, w32, cast_unsigned}
use Rattle.circus_value.specs.ValueTree.{ValueTree, ValueTrees, boolean, cardinal, long_cardinal, integer, long_integer, text, enumeration, array, sequence, «record», choice, none, more, value_trees}
use Rattle.circus_value.specs.ShapeTree.{ShapeTree, FieldTrees}
use Rattle.circus_value.specs.Fits.{fits, fields_fit, count_of}
use Rattle.circus_external.specs.Octets.{word, long}

-- a number of one or two words, or the bytes of a string, behind which a zero byte stands if they are odd in number
pub data Piece : Type 0 where
  number : List ℕ → Piece
  content : List ℕ → Piece

-- what makes so many bytes even
abbrev pub pad : ℕ → List ℕ
pad n = replicate (n % 2) 0

-- the bytes of a piece
abbrev pub piece_bytes : Piece → List ℕ
piece_bytes (number bytes) = bytes
piece_bytes (content bytes) = bytes ++ pad (length bytes)

-- an empty string has no content
abbrev pub contents : List ℕ → List Piece
contents [] = []
contents (b ∷ bytes) = content (b ∷ bytes) ∷ []

-- the word of a truth value
abbrev pub truth_number : Bool → ℕ
truth_number b = if b then 1 else 0

abbrev mutual
  -- what a value is spelled with, in order
  pub pieces : ValueTree → List Piece
  pieces (boolean b) = number (word (truth_number b)) ∷ []
  pieces (cardinal n) = number (word n) ∷ []
  pieces (long_cardinal n) = number (long n) ∷ []
  pieces (integer z) = number (word (cast_unsigned w16 z)) ∷ []
  pieces (long_integer z) = number (long (cast_unsigned w32 z)) ∷ []
  pieces (text bytes) = number (word (length bytes)) ∷ contents bytes
  pieces (enumeration n) = number (word n) ∷ []
  pieces (array items) = pieces_of_items items
  pieces (sequence items) = number (word (count_of items)) ∷ pieces_of_items items
  pieces («record» items) = pieces_of_items items
  pieces (choice n t) = number (word n) ∷ pieces t

  -- of items one after another
  pub pieces_of_items : ValueTrees → List Piece
  pieces_of_items none = []
  pieces_of_items (more t ts) = pieces t ++ pieces_of_items ts

-- of values one after another
abbrev pub pieces_of_all : List ValueTree → List Piece
pieces_of_all ts = pieces_of_items (value_trees ts)

-- the bytes of pieces one after another
abbrev pub bytes_of_pieces : List Piece → List ℕ
bytes_of_pieces ps = flat_map piece_bytes ps

-- the bytes of a value
abbrev pub spelling : ValueTree → List ℕ
spelling t = bytes_of_pieces (pieces t)

-- the bytes of values one after another
abbrev pub spelling_of_all : List ValueTree → List ℕ
spelling_of_all ts = bytes_of_pieces (pieces_of_all ts)

-- the bytes are those of a value of the shape
pub record IsSpelling (shape : ShapeTree) (value : ValueTree) (bytes : List ℕ) : Type 0 where
  pub admitted : fits shape value ≡ true
  pub spelled : bytes ≡ spelling value

-- one value for each field, in order
abbrev pub fields_admit : FieldTrees → List ValueTree → Bool
fields_admit fields ts = fields_fit fields (value_trees ts)
