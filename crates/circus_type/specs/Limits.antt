-- The limits of types; the most levels of a type stand with the grammar.
use Rattle.std.specs.Prelude.{ℕ}

-- the greatest number of one word: of labels, lengths and bounds
abbrev pub greatest_word : ℕ
greatest_word = 65535

-- how many parts types have together at most
abbrev pub most_parts : ℕ
most_parts = 16384

-- how many bytes a zero value has at most
abbrev pub most_zero_bytes : ℕ
most_zero_bytes = 65536
