-- The numbers that the rules of the paired messages name.
use Rattle.std.specs.Prelude.{ℕ}

-- calls that are sent and not acknowledged whole at most
abbrev pub window : ℕ
window = 64

-- ticks after which a silent node is suspected
abbrev pub patience : ℕ
patience = 8

-- the number that no call has
abbrev pub never_used : ℕ
never_used = 4294967295
