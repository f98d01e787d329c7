-- A sink in memory.
use Rattle.std.specs.Prelude.{◌<◌, ℕ, List, Contains, length}

-- what a sink in memory has: the bytes written, the calls that are to fail, the number of the next call
-- with a piece that isn't empty, and how many calls have failed
pub record SinkInMemory : Type 0 where
  pub written : List ℕ
  pub failing : List ℕ
  pub number : ℕ
  pub faults : ℕ

-- the next put, of this piece, is to fail
abbrev pub PutFails : SinkInMemory → List ℕ → Type 0
PutFails sink bytes = (0 < length bytes) × Contains sink.failing sink.number
