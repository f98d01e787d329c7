-- All that was sent was delivered, and nothing else happened.
use Rattle.std.specs.Prelude.{ℕ, ◌<◌, List, length, All, Contains}
use Rattle.circus_schedule.specs.declared.line.Line.{Line}
use Rattle.circus_schedule.specs.declared.line.Line.TheVariants.{Deliver, Tick, Crash, Down, Join}
use Rattle.circus_world.specs.WorldState.{WorldState}

-- the line delivers a datagram
abbrev pub IsDelivery : Line → Type 0
IsDelivery (Deliver number) = Unit {0}
IsDelivery (Tick node) = ⊥
IsDelivery (Crash node) = ⊥
IsDelivery (Down node told) = ⊥
IsDelivery (Join node) = ⊥

-- one of the lines delivers the datagram of this number
abbrev pub IsDelivered : List Line → ℕ → Type 0
IsDelivered lines number = Contains lines (Deliver number)

-- the lines that led to the world are deliveries, of each datagram that was sent
pub record IsQuiet {M : Type 0} (w : WorldState M) (lines : List Line) : Type 0 where
  pub alone : All IsDelivery lines
  pub each : (number : ℕ) → number < length w.sent → IsDelivered lines number
