-- A link in memory.
use Rattle.std.specs.Prelude.{◌≡◌, ℕ, Option, Some, None, List, [], ◌∷◌, Contains, take, slice_get}
use Rattle.circus_outside.specs.Limits.{longest_datagram}
use Rattle.circus_outside.specs.Link.{Taken, datagram, nothing, failed}
use Rattle.circus_outside.specs.declared.arrival.Arrival.{Arrival}
use Rattle.circus_outside.specs.declared.arrival.Look.{Look}
use Rattle.circus_outside.specs.declared.arrival.Look.TheVariants.{At, Missed}
use Rattle.circus_outside.specs.declared.link.TakenFrom.{TakenFrom}
use Rattle.circus_outside.specs.declared.link.TakenFrom.TheVariants.{From, Nothing}

-- what a link in memory has: the datagrams that are still to arrive, the calls that are to fail, the
-- number of the next call, how many calls have failed, the ports that `bind` was asked for, what each
-- take answered, and the datagrams that it was given
pub record LinkInMemory : Type 0 where
  pub left : List Arrival
  pub failing : List ℕ
  pub number : ℕ
  pub faults : ℕ
  pub bound : List ℕ
  pub taken : List Taken
  pub given : List Arrival

-- the answer that is made of an arrival
abbrev pub answer_with : Option Arrival → Taken
answer_with (Some arrival) = datagram arrival.port (take longest_datagram arrival.bytes)
answer_with None = nothing

-- the answer of a take that looked at a place of the arrivals, or that failed
abbrev pub answer_to : Look → List Arrival → Taken
answer_to (At place) arrivals = answer_with (slice_get arrivals place)
answer_to Missed arrivals = failed

-- the port and the bytes of a datagram
abbrev pub port_and_bytes : Arrival → ℕ × List ℕ
port_and_bytes arrival = (arrival.port, arrival.bytes)

-- the next call of a link is to fail
abbrev pub CallFails : LinkInMemory → Type 0
CallFails link = Contains link.failing link.number

-- a take that doesn't fail answers the first datagram that is left, cut at 2,048 bytes, and leaves the
-- others; nothing where none is left
abbrev pub TakesFirst : List Arrival → TakenFrom → List Arrival → Type 0
TakesFirst [] answer left = (answer ≡ Nothing) × (left ≡ [])
TakesFirst (first ∷ others) answer left = (answer ≡ From first.port (take longest_datagram first.bytes)) × (left ≡ others)
