-- Where a number ends.
use Rattle.std.specs.Prelude.{◌≡◌, ℕ, List}
use Rattle.std.specs.Char.{is_ascii_digit}
use Rattle.std.specs.List.{prefix_len}

-- no digit stands in front
abbrev pub Stops : List ℕ → Type 0
Stops text = prefix_len is_ascii_digit text ≡ 0
