-- Parts of bytes.
use Rattle.std.specs.Prelude.{ℕ, ◌<◌, List, slice_index}

-- how many bytes parts have together at most
abbrev pub most_bytes : ℕ
most_bytes = 16777216

-- each is the value of a byte
abbrev pub AreOctets : List ℕ → Type 0
AreOctets bytes = (k : ℕ) → slice_index bytes k < 256
