-- Fields behind bytes.
use Rattle.std.specs.Prelude.{◌≡◌, ℕ, List, ◌++◌}
use Rattle.circus_header.specs.Field.{Field, bytes_of}

-- the new bytes are the old ones, and behind them those of the fields
pub record Written (old : List ℕ) (fields : List Field) (new : List ℕ) : Type 0 where
  pub whole : new ≡ old ++ bytes_of fields
