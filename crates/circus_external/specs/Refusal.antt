-- Which answer bytes have, for values of any kind of which some are admitted, each with its pieces.
use Rattle.std.specs.Prelude.{◌≡◌, ◌≢◌, ℕ, ◌+◌, ◌%◌, ◌<◌, Bool, true, false, ◌&&◌, ◌||◌, nat_lt, List, ◌∷◌, ◌++◌, length}
use Rattle.std.specs.List.{list_any}
use Rattle.circus_value.specs.ShapeTree.{ShapeTree, FieldTrees, ArmTrees, boolean, cardinal, long_cardinal, integer, long_integer, text, enumeration, array, sequence, «record», choice, no_fields, more_fields, no_arms, more_arms}
use Rattle.circus_value.specs.declared.shape.Label.{Label}
use Rattle.circus_external.specs.Spelling.{Piece, number, content, piece_bytes, bytes_of_pieces}
use Rattle.circus_external.specs.Answer.{Answer, found, short, not_a_value, bad_pad}

-- behind these pieces, this piece stands in some value that is admitted
pub record GoesOn {X : Type 0} (admits : X → Bool) (pieces_of : X → List Piece) (done : List Piece) (next : Piece) : Type 0 where
  pub value : X
  pub admitted : admits value ≡ true
  pub others : List Piece
  pub pieces : pieces_of value ≡ done ++ (next ∷ others)

-- the bytes are whole pieces of some value up to its next piece, of which some bytes are missing
pub record IsShort {X : Type 0} (admits : X → Bool) (pieces_of : X → List Piece) (bytes : List ℕ) (offset : ℕ) : Type 0 where
  pub done : List Piece
  pub next : Piece
  pub rest : List ℕ
  pub goes_on : GoesOn admits pieces_of done next
  pub whole : bytes ≡ bytes_of_pieces done ++ rest
  pub missing : length rest < length (piece_bytes next)
  pub offset_is : offset ≡ length (bytes_of_pieces done)

-- they are whole pieces of some value, whose next is a number, and then a number that no value goes on with
pub record IsNotAValue {X : Type 0} (admits : X → Bool) (pieces_of : X → List Piece) (bytes : List ℕ) (offset : ℕ) : Type 0 where
  pub done : List Piece
  pub next : List ℕ
  pub digits : List ℕ
  pub rest : List ℕ
  pub goes_on : GoesOn admits pieces_of done (number next)
  pub whole : bytes ≡ bytes_of_pieces done ++ (digits ++ rest)
  pub size : length digits ≡ length next
  pub refused : GoesOn admits pieces_of done (number digits) → ⊥
  pub offset_is : offset ≡ length (bytes_of_pieces done)

-- they are whole pieces of some value, whose next is an odd number of bytes, and then as many bytes and one that isn't zero
pub record IsBadPad {X : Type 0} (admits : X → Bool) (pieces_of : X → List Piece) (bytes : List ℕ) (offset : ℕ) : Type 0 where
  pub done : List Piece
  pub next : List ℕ
  pub string : List ℕ
  pub last : ℕ
  pub rest : List ℕ
  pub goes_on : GoesOn admits pieces_of done (content next)
  pub odd : length next % 2 ≡ 1
  pub whole : bytes ≡ bytes_of_pieces done ++ (string ++ (last ∷ rest))
  pub size : length string ≡ length next
  pub not_zero : last ≢ 0
  pub offset_is : offset ≡ length (bytes_of_pieces done) + length string

-- the bytes begin with those of the value, and this stands behind
pub record IsFound {X : Type 0} (admits : X → Bool) (pieces_of : X → List Piece) (bytes : List ℕ) (value : X) (offset : ℕ) (rest : List ℕ) : Type 0 where
  pub admitted : admits value ≡ true
  pub whole : bytes ≡ bytes_of_pieces (pieces_of value) ++ rest
  pub offset_is : offset ≡ length (bytes_of_pieces (pieces_of value))

-- a place is an offset from here on
abbrev pub From : (ℕ → Type 0) → ℕ → ℕ → Type 0
From is at place = (offset : ℕ) × (place ≡ at + offset) × is offset

-- the answer of bytes that stand from a place on
abbrev pub IsAnswer : {X : Type 0} → (X → Bool) → (X → List Piece) → ℕ → List ℕ → Answer X → Type 0
IsAnswer admits pieces_of at bytes (found value next rest) = From (λ offset. IsFound admits pieces_of bytes value offset rest) at next
IsAnswer admits pieces_of at bytes (short place) = From (IsShort admits pieces_of bytes) at place
IsAnswer admits pieces_of at bytes (not_a_value place) = From (IsNotAValue admits pieces_of bytes) at place
IsAnswer admits pieces_of at bytes (bad_pad place) = From (IsBadPad admits pieces_of bytes) at place

abbrev mutual
  -- each enumeration has a label, each choice an arm, and each sequence a bound that a word can have
  pub is_proper : ShapeTree → Bool
  is_proper boolean = true
  is_proper cardinal = true
  is_proper long_cardinal = true
  is_proper integer = true
  is_proper long_integer = true
  is_proper text = true
  is_proper (enumeration labels) = list_any (λ (l : Label). nat_lt l.number 65536) labels
  is_proper (array _ element) = is_proper element
  is_proper (sequence bound element) = nat_lt bound 65536 && is_proper element
  is_proper («record» fields) = are_proper fields
  is_proper (choice arms) = has_arm arms && arms_are_proper arms

  pub are_proper : FieldTrees → Bool
  are_proper no_fields = true
  are_proper (more_fields _ shape fields) = is_proper shape && are_proper fields

  pub arms_are_proper : ArmTrees → Bool
  arms_are_proper no_arms = true
  arms_are_proper (more_arms _ _ shape arms) = is_proper shape && arms_are_proper arms

  pub has_arm : ArmTrees → Bool
  has_arm no_arms = false
  has_arm (more_arms _ n _ arms) = nat_lt n 65536 || has_arm arms
