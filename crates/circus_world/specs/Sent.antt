-- What was sent.
use Rattle.std.specs.Prelude.{ℕ, List}

-- a datagram, with the step in which it was sent and its two nodes
pub record Sent : Type 0 where
  pub step : ℕ
  pub from : ℕ
  pub to : ℕ
  pub bytes : List ℕ
