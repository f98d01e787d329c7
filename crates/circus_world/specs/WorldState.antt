-- A simulated program, as a state.
use Rattle.std.specs.Prelude.{ℕ, Bool, false, List, slice_get, Option, is_none, is_some}
use Rattle.std.specs.Option.{option_map_or}
use Rattle.circus_collate.specs.declared.deployment.Deployment.{Deployment}
use Rattle.circus_node.specs.NodeState.{NodeState}
use Rattle.circus_world.specs.Sent.{Sent}

-- a node in the world
pub record Standing (M : Type 0) : Type 0 where
  -- as it is, or was when it crashed
  pub node : NodeState M
  -- the step in which it crashed
  pub crashed : Option ℕ
  -- it was told to join its troupe
  pub joins : Bool

pub record WorldState (M : Type 0) : Type 0 where
  pub deployment : Deployment
  -- the module of each troupe
  pub modules : List M
  -- the nodes by their numbers
  pub nodes : List (Standing M)
  -- everything that was sent, in order: the place of a datagram is its number
  pub sent : List Sent
  -- how many lines were stepped
  pub steps : ℕ

module _ {M : Type 0} where
  -- it has not crashed
  abbrev pub is_live : WorldState M → ℕ → Bool
  is_live w node = option_map_or (λ s. is_none s.crashed) (slice_get w.nodes node) false

  abbrev pub has_crashed : WorldState M → ℕ → Bool
  has_crashed w node = option_map_or (λ s. is_some s.crashed) (slice_get w.nodes node) false

  -- it was told to join
  abbrev pub has_joined : WorldState M → ℕ → Bool
  has_joined w node = option_map_or (λ s. s.joins) (slice_get w.nodes node) false
