-- What code keeps true of a world.
use Rattle.std.specs.Prelude.{◌≡◌, ℕ, length, slice_get, Some, All}
use Rattle.circus_collate.specs.Deployment.{IsDeployment}
use Rattle.circus_node.specs.Node.{IsNodeOf}
use Rattle.circus_world.specs.WorldState.{WorldState, Standing}
use Rattle.circus_world.specs.Lines.{IsBetween}

-- each node is the one of its number, and each datagram goes from one to another
pub record IsSound {M : Type 0} (w : WorldState M) : Type 0 where
  pub deployment : IsDeployment w.deployment
  pub all : length w.nodes ≡ length w.deployment.nodes
  pub nodes : (node : ℕ) (s : Standing M) → slice_get w.nodes node ≡ Some s → IsNodeOf w.deployment node s.node
  pub sent : All (IsBetween (length w.deployment.nodes)) w.sent
