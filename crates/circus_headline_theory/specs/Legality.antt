-- Which line may stand behind others, by the datagrams that were sent.
use Rattle.std.specs.Prelude.{◌≡◌, ℕ, ◌<◌, ◌≤◌, true, false, List, ◌∷◌, ◌++◌, length, None, IsSome, IsSomeAnd, slice_get}
use Rattle.circus_collate.specs.declared.deployment.Deployment.{Deployment}
use Rattle.circus_schedule.specs.declared.line.Line.{Line}
use Rattle.circus_schedule.specs.declared.line.Line.TheVariants.{Deliver, Tick, Crash, Down, Join}
use Rattle.circus_world.specs.Legal.{is_spare}
use Rattle.circus_world.specs.Sent.{Sent}
use Rattle.circus_headline_theory.specs.Events.{crash_in, joins_in}

-- the node is one of the program, and didn't crash before
abbrev pub IsUp : Deployment → List Line → ℕ → Type 0
IsUp d before node = (node < length d.nodes) × (crash_in node before ≡ None)

module _ (d : Deployment) (sent : List Sent) where
  -- a datagram is delivered that was sent before; no node does anything once it has crashed; a node that has crashed is
  -- declared down; and a spare is told to join once
  abbrev pub MayStand : List Line → Line → Type 0
  MayStand before (Deliver number) = IsSomeAnd (slice_get sent number) (λ s. s.step ≤ length before)
  MayStand before (Tick node) = IsUp d before node
  MayStand before (Crash node) = IsUp d before node
  MayStand before (Down node told) = IsSome (crash_in node before) × IsUp d before told
  MayStand before (Join node) = (is_spare d node ≡ true) × IsUp d before node × (joins_in node before ≡ false)

  abbrev pub AreLegal : List Line → Type 0
  AreLegal lines = (before behind : List Line) (line : Line) → lines ≡ before ++ line ∷ behind → MayStand before line
