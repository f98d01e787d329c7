-- What an expression gives: a number, which has no kind until it is stored, or another value.
use Rattle.std.specs.Prelude.{ℕ, ℤ, pos, Bool, false, if◌then◌else◌, nat_lt, nat_le, List, length, Result, Ok, Err}
use Rattle.std.specs.Ordering.{int_eq}
use Rattle.circus_value.specs.ValueTree.{ValueTree, boolean, cardinal, long_cardinal, integer, long_integer, text, enumeration, array, sequence, «record», choice}
use Rattle.circus_value.specs.ExternalSize.{external_size}
use Rattle.circus_value.specs.ValueEquality.{value_eq}
use Rattle.circus_value.specs.Fits.{is_signed_below}
use Rattle.circus_model.specs.declared.language_error.LanguageError.{LanguageError}
use Rattle.circus_model.specs.declared.language_error.LanguageError.TheVariants.{Range, TooLong}
use Rattle.circus_checked.specs.declared.kinds.NumberKind.{NumberKind}
use Rattle.circus_checked.specs.declared.kinds.NumberKind.TheVariants as kind

pub data Got : Type 0 where
  number : ℤ → Got
  whole : ValueTree → Got

-- a value, or the error that is raised
abbrev pub Raising : Type 0 → Type 0
Raising A = Result A LanguageError

-- the second with what the first gives, unless the first raises
abbrev pub and_then : {A B : Type 0} → Raising A → (A → Raising B) → Raising B
and_then (Ok a) f = f a
and_then (Err e) f = Err e

-- ---- numbers

-- a number of the language's arithmetic
abbrev pub number_or_overflow : ℤ → Raising Got
number_or_overflow z = if is_signed_below 9223372036854775808 z then Ok (number z) else Err Range

-- a number as one of a kind
abbrev pub as_kind : NumberKind → ℤ → Raising ValueTree
as_kind kind.Cardinal (pos n) = if nat_lt n 65536 then Ok (cardinal n) else Err Range
as_kind kind.LongCardinal (pos n) = if nat_lt n 4294967296 then Ok (long_cardinal n) else Err Range
as_kind kind.Cardinal z = Err Range
as_kind kind.LongCardinal z = Err Range
as_kind kind.Integer z = if is_signed_below 32768 z then Ok (integer z) else Err Range
as_kind kind.LongInteger z = if is_signed_below 2147483648 z then Ok (long_integer z) else Err Range

-- what reading a stored value gives
abbrev pub got_of : ValueTree → Got
got_of (boolean b) = whole (boolean b)
got_of (cardinal n) = number (pos n)
got_of (long_cardinal n) = number (pos n)
got_of (integer z) = number z
got_of (long_integer z) = number z
got_of (text bytes) = whole (text bytes)
got_of (enumeration n) = whole (enumeration n)
got_of (array ts) = whole (array ts)
got_of (sequence ts) = whole (sequence ts)
got_of («record» ts) = whole («record» ts)
got_of (choice n t) = whole (choice n t)

-- ---- other values

-- a truth value; what is none counts as false
abbrev pub truth_of : Got → Bool
truth_of (whole (boolean b)) = b
truth_of _ = false

-- a number; what is none raises
abbrev pub number_of : Got → Raising ℤ
number_of (number z) = Ok z
number_of (whole t) = Err Range

-- a value that isn't a number; a number raises
abbrev pub value_of : Got → Raising ValueTree
value_of (number z) = Err Range
value_of (whole t) = Ok t

-- the bytes of a text; what is none raises
abbrev pub bytes_of : Got → Raising (List ℕ)
bytes_of (whole (text bytes)) = Ok bytes
bytes_of _ = Err Range

-- a value that is made, if it isn't above the limit
abbrev pub unless_large : ℕ → ValueTree → Raising Got
unless_large limit t = if nat_le (external_size t) limit then Ok (whole t) else Err TooLong

-- a text that is made
abbrev pub made_text : ℕ → List ℕ → Raising Got
made_text limit bytes = if nat_lt (length bytes) 65536 then unless_large limit (text bytes) else Err TooLong

-- both are the same number or the same value
abbrev pub is_equal : Got → Got → Bool
is_equal (number y) (number z) = int_eq y z
is_equal (whole s) (whole t) = value_eq s t
is_equal _ _ = false
