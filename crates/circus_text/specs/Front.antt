-- What stands at the front of a text: the longest piece there, or a fault.
use Rattle.std.specs.Prelude.{◌≡◌, ℕ, ◌<◌, ◌≤◌, ◌⊎◌, true, false, List, [], ◌∷◌, ◌++◌, length, take, Option, Some, None}
use Rattle.circus_text.specs.declared.front.Form.{Form}
use Rattle.circus_text.specs.declared.front.Front.{Front}
use Rattle.circus_text.specs.declared.front.Front.TheVariants as found
use Rattle.circus_text.specs.declared.byte_class.ByteClass.{ByteClass}
use Rattle.circus_text.specs.declared.byte_class.ByteClass.TheVariants.{Quote}
use Rattle.circus_text.specs.ByteClass.{class_of}
use Rattle.circus_text.specs.Form.{HasForm, bad_place, is_long_number}

-- a token, spacing or a comment: its form and its bytes
pub record Piece : Type 0 where
  pub form : Form
  pub bytes : List ℕ

-- the text begins with these bytes, which have this form
pub record BeginsWith (text : List ℕ) (p : Piece) : Type 0 where
  pub front : (after : List ℕ) × (text ≡ p.bytes ++ after)
  pub formed : HasForm p.form p.bytes

-- no piece at the front is longer
pub record IsLongest (text : List ℕ) (p : Piece) : Type 0 where
  pub begins : BeginsWith text p
  pub longest : (q : Piece) → BeginsWith text q → length q.bytes ≤ length p.bytes

-- nothing begins at the front
abbrev pub BeginsNothing : List ℕ → Type 0
BeginsNothing text = (p : Piece) → BeginsWith text p → ⊥

-- the first byte is of this class
abbrev pub IsFirst : ByteClass → List ℕ → Type 0
IsFirst class [] = ⊥
IsFirst class (b ∷ bs) = class_of b ≡ class

-- the longest piece at the front is as it may be
pub record IsNext (text : List ℕ) (p : Piece) : Type 0 where
  pub longest : IsLongest text p
  pub no_bad_byte : bad_place p.form p.bytes ≡ None
  pub no_long_number : is_long_number p.form p.bytes ≡ false

-- the byte at the place can't stand there: in the longest piece at the front, or at the front where nothing begins
abbrev pub IsBadCharacter : List ℕ → ℕ → Type 0
IsBadCharacter text place =
    ((p : Piece) × IsLongest text p × (bad_place p.form p.bytes ≡ Some place))
    ⊎ (BeginsNothing text × (0 < length text) × (IsFirst Quote text → ⊥) × (place ≡ 0))

-- a quote at the front opens a string that its line doesn't close
abbrev pub IsOpenString : List ℕ → ℕ → Type 0
IsOpenString text place = BeginsNothing text × IsFirst Quote text × (place ≡ 0)

-- the longest piece at the front is too great a number
abbrev pub IsLongNumber : List ℕ → ℕ → Type 0
IsLongNumber text place = (p : Piece) × IsLongest text p × (is_long_number p.form p.bytes ≡ true) × (place ≡ 0)

-- the piece of this form that the first len bytes are
abbrev pub piece : List ℕ → Form → ℕ → Piece
piece text form len = record { form = form; bytes = take len text }

-- what is found at the front
abbrev pub IsFront : List ℕ → Front → Type 0
IsFront text (found.Piece form len) = (len ≤ length text) × IsNext text (piece text form len)
IsFront text (found.BadCharacter place) = IsBadCharacter text place
IsFront text found.OpenString = IsOpenString text 0
IsFront text found.LongNumber = IsLongNumber text 0

-- the longest form at the front with its length, if any begins there
abbrev pub IsLongestFront : List ℕ → Option (Form × ℕ) → Type 0
IsLongestFront text (Some x) = (x.1 ≤ length text) × IsLongest text (piece text x.0 x.1)
IsLongestFront text None = BeginsNothing text
