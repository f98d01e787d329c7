-- What lines give to a node, by the datagrams that were sent: line k is step k.
use Rattle.std.specs.Prelude.{ℕ, ◌+◌, ◌==◌, Bool, false, ◌||◌, if◌then◌else◌, List, [], ◌∷◌, ◌++◌, slice_get, Option, None, Some, option_and_then}
use Rattle.circus_node.specs.declared.event.Event.{Event}
use Rattle.circus_node.specs.declared.event.Event.TheVariants as comes
use Rattle.circus_schedule.specs.declared.line.Line.{Line}
use Rattle.circus_schedule.specs.declared.line.Line.TheVariants.{Deliver, Tick, Crash, Down, Join}
use Rattle.circus_world.specs.Sent.{Sent}
use Rattle.circus_world_theory.specs.NodeLives.{Events}

-- a datagram, where it is to the node
abbrev pub event_of_sent : ℕ → Sent → Option Event
event_of_sent node sent = if sent.to == node then Some (comes.Datagram sent.from sent.bytes) else None

-- what a line gives to a node that hasn't crashed
abbrev pub event_for : ℕ → List Sent → Line → Option Event
event_for node sent (Deliver number) = option_and_then (event_of_sent node) (slice_get sent number)
event_for node sent (Tick other) = if other == node then Some comes.Tick else None
event_for node sent (Crash other) = None
event_for node sent (Down other told) = if told == node then Some (comes.Down other) else None
event_for node sent (Join other) = if other == node then Some comes.Join else None

abbrev pub is_crash_of : ℕ → Line → Bool
is_crash_of node (Deliver number) = false
is_crash_of node (Tick other) = false
is_crash_of node (Crash other) = other == node
is_crash_of node (Down other told) = false
is_crash_of node (Join other) = false

abbrev pub is_join_of : ℕ → Line → Bool
is_join_of node (Deliver number) = false
is_join_of node (Tick other) = false
is_join_of node (Crash other) = false
is_join_of node (Down other told) = false
is_join_of node (Join other) = other == node

abbrev pub in_step : ℕ → Option Event → Events
in_step step None = []
in_step step (Some event) = (step, event) ∷ []

-- the first of the lines is behind so many steps; behind its crash nothing comes to the node
abbrev pub events_behind : ℕ → List Sent → ℕ → List Line → Events
events_behind node sent steps [] = []
events_behind node sent steps (line ∷ lines) =
    if is_crash_of node line then []
    else in_step (steps + 1) (event_for node sent line) ++ events_behind node sent (steps + 1) lines

-- the step in which it crashes
abbrev pub crash_behind : ℕ → ℕ → List Line → Option ℕ
crash_behind node steps [] = None
crash_behind node steps (line ∷ lines) = if is_crash_of node line then Some (steps + 1) else crash_behind node (steps + 1) lines

-- ---- from boot on

abbrev pub crash_in : ℕ → List Line → Option ℕ
crash_in node lines = crash_behind node 0 lines

-- it is told to join by one of them
abbrev pub joins_in : ℕ → List Line → Bool
joins_in node [] = false
joins_in node (line ∷ lines) = is_join_of node line || joins_in node lines

abbrev pub events_for : ℕ → List Sent → List Line → Events
events_for node sent lines = events_behind node sent 0 lines
