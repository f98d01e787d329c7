-- What may come to a node of a world.
use Rattle.std.specs.Prelude.{◌≢◌, ℕ, ◌<◌}
use Rattle.circus_node.specs.declared.event.Event.{Event}
use Rattle.circus_node.specs.declared.event.Event.TheVariants.{Datagram, Tick, Down, Join}

-- where it names a node, that is another one of so many
abbrev pub MayCome : ℕ → ℕ → Event → Type 0
MayCome nodes node (Datagram from bytes) = (from < nodes) × (from ≢ node)
MayCome nodes node Tick = Unit {0}
MayCome nodes node (Down other) = (other < nodes) × (other ≢ node)
MayCome nodes node Join = Unit {0}
