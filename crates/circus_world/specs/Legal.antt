-- Which lines may be stepped.
use Rattle.std.specs.Prelude.{ℕ, Bool, false, nat_lt, if◌then◌else◌, length, slice_get, Option, None, Some, option_and_then}
use Rattle.std.specs.Option.{option_map_or}
use Rattle.circus_value.specs.Among.{is_among}
use Rattle.circus_collate.specs.declared.deployment.Deployment.{Deployment}
use Rattle.circus_node.specs.Accepting.{troupe_at}
use Rattle.circus_schedule.specs.declared.line.Line.{Line}
use Rattle.circus_schedule.specs.declared.line.Line.TheVariants.{Deliver, Tick, Crash, Down, Join}
use Rattle.circus_world.specs.declared.cause.LineCause.{LineCause}
use Rattle.circus_world.specs.declared.cause.LineCause.TheVariants.{NoDatagram, NotLive, NotCrashed, NotSpare, AlreadyJoined}
use Rattle.circus_world.specs.WorldState.{WorldState, is_live, has_crashed, has_joined}

-- a node is a spare of its troupe
abbrev pub is_spare : Deployment → ℕ → Bool
is_spare d node =
    option_map_or (λ troupe. is_among troupe.spares node) (option_and_then (slice_get d.troupes) (troupe_at d node)) false

module _ {M : Type 0} where
  abbrev pub unless_sent : WorldState M → ℕ → Option LineCause
  unless_sent w number = if nat_lt number (length w.sent) then None else Some (NoDatagram number (length w.sent))

  abbrev pub unless_live : WorldState M → ℕ → Option LineCause
  unless_live w node = if is_live w node then None else Some (NotLive node)

  abbrev pub unless_told : WorldState M → ℕ → Option LineCause
  unless_told w node = if has_joined w node then Some (AlreadyJoined node) else None

  -- why a line may not be stepped; none where it may
  abbrev pub refusal : WorldState M → Line → Option LineCause
  refusal w (Deliver number) = unless_sent w number
  refusal w (Tick node) = unless_live w node
  refusal w (Crash node) = unless_live w node
  refusal w (Down node told) = if has_crashed w node then unless_live w told else Some (NotCrashed node)
  refusal w (Join node) =
      if is_spare w.deployment node then (if is_live w node then unless_told w node else Some (NotLive node)) else Some (NotSpare node)
