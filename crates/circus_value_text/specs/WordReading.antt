-- Reading clocks, the asks of a path, and bytes in hexadecimal digits, from the front on.
use Rattle.std.specs.Prelude.{ℕ, zero, suc, ◌+◌, ◌*◌, List, [], ◌∷◌, codes, Option, Some, None}
use Rattle.circus_value_text.specs.Reading.{Read, and_then, seen_as, behind_prefix, behind, number_read, nibble}

-- a number in front of others
abbrev pub number_more : ℕ → Read (List ℕ) → Read (List ℕ)
number_more n r = seen_as (λ ns. n ∷ ns) r

-- so many numbers of four bytes, the first of them behind this, and the others behind a comma
abbrev pub counts_read : ℕ → List ℕ → List ℕ → Read (List ℕ)
counts_read zero mark text = Some ([], text)
counts_read (suc count) mark text =
    behind (behind_prefix mark text) (λ inner. and_then (number_read 4294967295 inner) (λ n rest. number_more n (counts_read count (codes ",") rest)))

-- no numbers where no mark stands, else others
abbrev pub asks_if : List ℕ → Option (List ℕ) → (List ℕ → Read (List ℕ)) → Read (List ℕ)
asks_if text (Some inner) others = others inner
asks_if text None others = Some ([], text)

-- numbers of two bytes, each behind a point, at most so many
abbrev pub asks_read : ℕ → List ℕ → Read (List ℕ)
asks_read zero text = Some ([], text)
asks_read (suc most) text =
    asks_if text (behind_prefix (codes ".") text) (λ inner. and_then (number_read 65535 inner) (λ n rest. number_more n (asks_read most rest)))

-- the byte of two digits
abbrev pub pair_of : Option ℕ → Option ℕ → Option ℕ
pair_of (Some high) (Some low) = Some (16 * high + low)
pair_of (Some high) None = None
pair_of None low = None

abbrev pub byte_of : ℕ → ℕ → Option ℕ
byte_of high low = pair_of (nibble high) (nibble low)

abbrev pub byte_more : Option ℕ → Option (List ℕ) → Option (List ℕ)
byte_more (Some byte) (Some bytes) = Some (byte ∷ bytes)
byte_more (Some byte) None = None
byte_more None bytes = None

-- the bytes of a whole text
abbrev pub bytes_of : List ℕ → Option (List ℕ)
bytes_of [] = Some []
bytes_of (high ∷ []) = None
bytes_of (high ∷ low ∷ text) = byte_more (byte_of high low) (bytes_of text)
