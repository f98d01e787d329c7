-- The counts of faults.
use Rattle.std.specs.Prelude.{◌≡◌, ◌<◌, ◌+◌, ◌⊎◌, ℕ, min}

-- a count rose, or stands at its greatest value
abbrev pub Rose : ℕ → ℕ → Type 0
Rose old new = (old < new) ⊎ (new ≡ 18446744073709551615)

-- one more than a count, which stands still at its greatest value
abbrev pub one_more : ℕ → ℕ
one_more count = min (count + 1) 18446744073709551615
