-- The standard output, as far as it is seen.
use Rattle.std.specs.Prelude.{ℕ, List}

-- the bytes that were taken and not written yet, and how many calls have failed
pub record StandardOutput : Type 0 where
  pub gathered : List ℕ
  pub faults : ℕ
