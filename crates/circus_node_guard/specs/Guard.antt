-- What is known of a node, and of what may come to it.
use Rattle.std.specs.Prelude.{◌≡◌, ◌≢◌, ℕ, ◌<◌, length}
use Rattle.circus_node.specs.Node.{IsNodeOf}
use Rattle.circus_node.specs.NodeState.{NodeState}
use Rattle.circus_node.specs.declared.event.Event.{Event}
use Rattle.circus_node.specs.declared.event.Event.TheVariants.{Datagram, Tick, Down, Join}

-- it is the node of this number of a program of so many
pub record IsNumbered {M : Type 0} (number nodes : ℕ) (core : NodeState M) : Type 0 where
  pub of : IsNodeOf core.deployment number core
  pub all : length core.deployment.nodes ≡ nodes

-- a number is that of another node of so many
pub record IsAnother (number nodes other : ℕ) : Type 0 where
  pub differs : other ≢ number
  pub within : other < nodes

-- what comes to a node of so many names another one, where it names one
abbrev pub NamesAnother : ℕ → ℕ → Event → Type 0
NamesAnother number nodes (Datagram from bytes) = IsAnother number nodes from
NamesAnother number nodes Tick = Unit {0}
NamesAnother number nodes (Down node) = IsAnother number nodes node
NamesAnother number nodes Join = Unit {0}
