-- The fields that a header is made of.
use Rattle.std.specs.Prelude.{ℕ, ◌<◌, ◌^◌, List}
use Rattle.std.specs.List.{flat_map}
use Rattle.std.specs.Int.{w16, w32, to_be_bytes}

-- a number in two bytes, or in four
pub data Field : Type 0 where
  word : ℕ → Field
  long : ℕ → Field

-- how many bytes a field has
abbrev pub field_len : Field → ℕ
field_len (word _) = 2
field_len (long _) = 4

-- a number that has room in the field
abbrev pub HasRoom : Field → Type 0
HasRoom (word n) = n < 65536
HasRoom (long n) = n < 2 ^ 32

-- the greatest byte first
abbrev pub field_bytes : Field → List ℕ
field_bytes (word n) = to_be_bytes w16 n
field_bytes (long n) = to_be_bytes w32 n

-- fields one after another
abbrev pub bytes_of : List Field → List ℕ
bytes_of fields = flat_map field_bytes fields
