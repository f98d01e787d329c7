-- What code keeps true of a node.
use Rattle.std.specs.Prelude.{◌≡◌, ℕ, List, Option, Some}
use Rattle.circus_collate.specs.Deployment.{IsDeployment}
use Rattle.circus_collate.specs.declared.deployment.Deployment.{Deployment}
use Rattle.circus_header.specs.declared.call.Request.{Request}
use Rattle.circus_ring.specs.RingTable.{Kept, kept_after}
use Rattle.circus_model.specs.declared.signature.Signature.{Signature}
use Rattle.circus_member_rules.specs.GoneOn.{HasGoneOn}
use Rattle.circus_node.specs.Accepting.{IsMemberOf}
use Rattle.circus_node.specs.declared.home.Home.{Home}
use Rattle.circus_node.specs.declared.station.Station.{Station}
use Rattle.circus_node.specs.NodeState.{Acting, member, ringmaster}
use Rattle.circus_node.specs.Booting.{home_of, IsOfTroupe}
use Rattle.circus_node.specs.Seen.StationOf.{IsStation}

-- the views are those after some requests
pub record IsRingOf (d : Deployment) (kept : Kept) : Type 0 where
  pub deployment : IsDeployment d
  pub requests : List Request
  pub kept_is : kept ≡ kept_after d.troupes requests

-- behind each step
abbrev pub IsActing : {M : Type 0} → Deployment → Acting M → Type 0
IsActing d (member m) = IsMemberOf d m × HasGoneOn m
IsActing d (ringmaster kept) = IsRingOf d kept

-- so it acts at its station, in the program that the station knows
pub record IsActingAt {M : Type 0} (s : Station) (a : Acting M) : Type 0 where
  pub station : IsStation s
  pub acting : IsActing s.deployment a

-- where a member of a node stands, and its module is one of its troupe
pub record MayStand {M : Type 0} (declared : M → Signature) (d : Deployment) (home : Option Home) (hosted : Option M) : Type 0 where
  pub deployment : IsDeployment d
  pub node : ℕ
  pub home_is : home ≡ home_of d node
  pub fits : (h : Home) (m : M) → home ≡ Some h → hosted ≡ Some m → IsOfTroupe d h.place.troupe (declared m)
