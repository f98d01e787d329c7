-- A node by its station, and what becomes of a station.
use Rattle.std.specs.Prelude.{◌≡◌, ℕ, ◌-◌, List, [], length, Result, Ok, Err}
use Rattle.std.specs.List.{flat_map}
use Rattle.circus_collate.specs.Deployment.{IsDeployment}
use Rattle.circus_collate.specs.declared.deployment.Deployment.{Deployment}
use Rattle.circus_segment.specs.Segment.{Piece}
use Rattle.circus_segment.specs.declared.fault.SegmentFault.{SegmentFault}
use Rattle.circus_wire.specs.declared.delivery.Heard.{Heard}
use Rattle.circus_wire.specs.Wire.{Remains, after_datagram, sent_by_datagram, heard_from, all_ticked, sent_by_tick, suspected_by_tick}
use Rattle.circus_member_rules.specs.declared.occurrence.Purpose.{Purpose}
use Rattle.circus_node.specs.declared.station.Station.{Station}
use Rattle.circus_node.specs.declared.acting.Consequences.{Consequences}
use Rattle.circus_node.specs.declared.event.Give.{Give}
use Rattle.circus_node.specs.declared.event.Outputs.{Outputs}
use Rattle.circus_node.specs.declared.event.StepFault.{StepFault}
use Rattle.circus_node.specs.declared.event.StepFault.TheVariants as fault
use Rattle.circus_node.specs.NodeState.{Acting, NodeState}
use Rattle.circus_node.specs.Sending.{sent, spent, gives_of, all_handed}
use Rattle.circus_node.specs.Step.{count_dropped}
use Rattle.circus_node.specs.Booting.{fresh_wire}

abbrev pub node_of : {M : Type 0} → Station → Acting M → NodeState M
node_of s acting = record { deployment = s.deployment; wire = s.wire; acting = acting; dropped = s.dropped }

-- it has a pair with each other node of a deployment, in its format
pub record IsStation (s : Station) : Type 0 where
  pub deployment : IsDeployment s.deployment
  pub own : s.wire.own ≡ s.node
  pub pairs : length s.wire.peers ≡ length s.deployment.nodes - 1
  pub format : s.wire.format ≡ s.deployment.format

-- that of a node before anything has happened
pub record IsFresh (d : Deployment) (own : ℕ) (s : Station) : Type 0 where
  pub deployment : s.deployment ≡ d
  pub node : s.node ≡ own
  pub wire : s.wire ≡ fresh_wire d own
  pub dropped : s.dropped ≡ 0

-- a datagram came: what is sent at once, and what is heard
pub record HasReceived (from : ℕ) (segment : Result Piece SegmentFault) (s t : Station) (received : List Give × Heard Purpose) : Type 0 where
  pub station : t ≡ record s { wire = after_datagram s.wire from segment }
  pub remains : Remains s.wire t.wire
  pub gives : received.0 ≡ gives_of (sent_by_datagram s.wire from segment)
  pub heard : received.1 ≡ heard_from s.wire from segment

-- what came of a step was sent, behind what was given already
pub record HasSent (s : Station) (gives : List Give) (came : Consequences) (concluded : Station × Outputs) : Type 0 where
  pub handed : all_handed (sent s.wire gives) came.effects ≡ sent concluded.0.wire concluded.1.gives
  pub deployment : concluded.0.deployment ≡ s.deployment
  pub node : concluded.0.node ≡ s.node
  pub remains : Remains s.wire concluded.0.wire
  pub dropped : concluded.0.dropped ≡ count_dropped came.dropped s.dropped
  pub suspects : concluded.1.suspects ≡ []
  pub differences : concluded.1.differences ≡ came.differences

abbrev pub IsConcluded : Result Outputs StepFault → Station → Station → List Give → Consequences → Type 0
IsConcluded (Ok outputs) s t gives came = HasSent s gives came (t, outputs)
IsConcluded (Err (fault.Spent node)) s t gives came = all_handed (sent s.wire gives) came.effects ≡ spent node
IsConcluded (Err fault.NoMemory) s t gives came = Unit {0}

-- a tick came
pub record HasTicked (s : Station) (ticked : Station × Outputs) : Type 0 where
  pub wire : ticked.0.wire ≡ all_ticked s.wire
  pub remains : Remains s.wire ticked.0.wire
  pub deployment : ticked.0.deployment ≡ s.deployment
  pub node : ticked.0.node ≡ s.node
  pub dropped : ticked.0.dropped ≡ s.dropped
  pub gives : ticked.1.gives ≡ flat_map gives_of (sent_by_tick s.wire)
  pub suspects : ticked.1.suspects ≡ suspected_by_tick s.wire
  pub differences : ticked.1.differences ≡ []

abbrev pub IsTicked : Result Outputs StepFault → Station → Station → Type 0
IsTicked (Ok outputs) s t = HasTicked s (t, outputs)
IsTicked (Err (fault.Spent node)) s t = ⊥
IsTicked (Err fault.NoMemory) s t = Unit {0}
