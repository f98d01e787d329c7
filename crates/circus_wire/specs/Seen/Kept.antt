-- What code keeps true of a pair with its purposes, and of all pairs.
use Rattle.std.specs.Prelude.{◌≡◌, ℕ, ◌≤◌, ◌<◌, Bool, List, length, slice_get, None, Some}
use Rattle.std.specs.Ordering.{nat_cmp}
use Rattle.std.specs.FinMap.{FinMap, get}
use Rattle.circus_limits.specs.Limits.{most_nodes}
use Rattle.circus_exchange.specs.declared.exchange.Exchange.{Exchange}
use Rattle.circus_wire.specs.Wire.{PeerState}

module _ {P : Type 0} where
  -- no purpose is kept under a number that is still to come, and it is known whether the other node was declared down
  pub record IsKept (pair : Exchange) (purposes : FinMap nat_cmp P) (is_down : Bool) : Type 0 where
    pub fresh : (number : ℕ) → pair.next ≤ number → get purposes number ≡ None
    pub down : is_down ≡ pair.stopped

  -- the node is one of at most 64, and the pairs have its format
  pub record AreKept (own format : ℕ) (peers : List (PeerState P)) : Type 0 where
    pub own_is : own ≤ length peers
    pub few : length peers < most_nodes
    pub formats : (place : ℕ) (p : PeerState P) → slice_get peers place ≡ Some p → p.exchange.format ≡ format
