-- What reading bytes comes to.
use Rattle.std.specs.Prelude.{ℕ, List}

-- a value or a fault; places are counted from the front of all bytes
pub data Answer (X : Type 0) : Type 0 where
  -- a value, the place behind its bytes, and the bytes from there on
  found : X → ℕ → List ℕ → Answer X
  -- the piece at the place isn't whole
  short : ℕ → Answer X
  -- the number at the place is none that may stand there
  not_a_value : ℕ → Answer X
  -- the byte at the place ought to be a zero byte
  bad_pad : ℕ → Answer X
