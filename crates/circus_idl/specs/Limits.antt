-- The limits of interfaces; those of types stand with these.
use Rattle.std.specs.Prelude.{ℕ}

-- the greatest number that an error may have
abbrev pub greatest_error : ℕ
greatest_error = 59999

-- the greatest number that a program may have
abbrev pub greatest_program : ℕ
greatest_program = 4294967295
