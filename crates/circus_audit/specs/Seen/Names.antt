-- Names in front of a text.
use Rattle.std.specs.Prelude.{ℕ, ◌==◌, List, [], take, drop, position, bytes_eq, cond, slice_get, unwrap_or, Option, Some, None}
use Rattle.std.specs.Char.{is_ascii_alphanumeric}
use Rattle.std.specs.List.{prefix_len}
use Rattle.circus_value_text.specs.Reading.{Read, and_then, read_meaning}

-- how many letters and digits stand in front
abbrev pub name_length : List ℕ → ℕ
name_length text = prefix_len is_ascii_alphanumeric text

-- the first place at which this name stands
abbrev pub place_of : List (List ℕ) → List ℕ → Option ℕ
place_of names name = position (λ each. bytes_eq each name) names

-- the number of the name that all of them are
abbrev pub number_of_name : List (List ℕ) → List ℕ → Read ℕ
number_of_name names text = read_meaning (place_of names (take (name_length text) text)) (drop (name_length text) text)

-- a number other than this one
abbrev pub other : ℕ → Read ℕ → Read ℕ
other own r = and_then r (λ n rest. cond (n == own) None (Some (n, rest)))

-- the name of a number, or nothing
abbrev pub name_at : List (List ℕ) → ℕ → List ℕ
name_at names number = unwrap_or (slice_get names number) []
