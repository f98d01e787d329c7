-- What clauses see of the record of a node.
use Rattle.std.specs.Prelude.{List}
use Rattle.circus_node.specs.NodeState.{NodeState}
use Rattle.circus_serve.specs.declared.happening.Happening.{Happening}

-- what happened, oldest first, and the node afterwards
pub record Recorded (M : Type 0) : Type 0 where
  pub happened : List Happening
  pub node : NodeState M
