-- What stays true of a node from boot on.
use Rattle.std.specs.Prelude.{◌≡◌, ℕ, ◌-◌, List, length, None, IsSome, All}
use Rattle.circus_collate.specs.declared.deployment.Deployment.{Deployment}
use Rattle.circus_wire.specs.Wire.{IsOther}
use Rattle.circus_node.specs.declared.event.Give.{Give}
use Rattle.circus_node.specs.NodeState.{NodeState, member_record, ring_views}
use Rattle.circus_node.specs.Accepting.{troupe_at}

module _ {M : Type 0} where
  -- it is the node of this number of a program: it has a pair with each other one, and is a member where it hosts one, else
  -- the Ringmaster
  pub record IsNodeOf (d : Deployment) (number : ℕ) (n : NodeState M) : Type 0 where
    pub deployment : n.deployment ≡ d
    pub own : n.wire.own ≡ number
    pub pairs : length n.wire.peers ≡ length d.nodes - 1
    pub member : IsSome (troupe_at d number) → IsSome (member_record n.acting)
    pub ringmaster : troupe_at d number ≡ None → IsSome (ring_views n.acting)

  -- what it gives goes to other nodes
  abbrev pub GoToOthers : NodeState M → List Give → Type 0
  GoToOthers n gives = All (λ give. IsOther n.wire give.to) gives
