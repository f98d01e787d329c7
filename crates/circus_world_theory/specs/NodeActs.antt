-- What happens at the pairs of a node in a step: what comes there, and then what the node hands over.
use Rattle.std.specs.Prelude.{ℕ, ◌&&◌, if◌then◌else◌, List, [], ◌∷◌, ◌++◌, Option, Result, Ok, Err}
use Rattle.std.specs.List.{flat_map}
use Rattle.circus_value.specs.ValueTree.{ValueTree}
use Rattle.circus_value.specs.declared.outcome.Outcome.{Outcome}
use Rattle.circus_segment.specs.Segment.{Piece, reading}
use Rattle.circus_segment.specs.declared.fault.SegmentFault.{SegmentFault}
use Rattle.circus_collate.specs.declared.deployment.Deployment.{Deployment}
use Rattle.circus_model.specs.NextTurn.{NextTurn}
use Rattle.circus_model.specs.declared.signature.Signature.{Signature}
use Rattle.circus_wire.specs.Wire.{WireState, is_up, after_datagram, all_ticked, stopped_at}
use Rattle.circus_wire.specs.WireActs.{WireAct, WireActs, followed_by, CallTo, AnswerTo, CameFrom, TickAll, StopOf}
use Rattle.circus_member_rules.specs.declared.occurrence.Purpose.{Purpose}
use Rattle.circus_member_rules.specs.declared.occurrence.Effect.{Effect}
use Rattle.circus_member_rules.specs.declared.occurrence.Effect.TheVariants as made
use Rattle.circus_node.specs.declared.event.Event.{Event}
use Rattle.circus_node.specs.declared.event.Event.TheVariants.{Datagram, Tick, Down, Join}
use Rattle.circus_node.specs.NodeState.{NodeState}
use Rattle.circus_node.specs.Trace.{effects_in, effects_at_boot}
use Rattle.circus_node.specs.Sending.{is_sendable}
use Rattle.circus_node.specs.Booting.{fresh_wire}

-- each act behind those before it
abbrev pub with_all : WireActs Purpose → List (WireAct Purpose) → WireActs Purpose
with_all acts [] = acts
with_all acts (next ∷ others) = with_all (followed_by acts next) others

-- a datagram that is a segment comes; one that is none is dropped
abbrev pub acts_of_datagram : ℕ → Result Piece SegmentFault → List (WireAct Purpose)
acts_of_datagram from (Ok s) = CameFrom from s ∷ []
acts_of_datagram from (Err fault) = []

-- what an event is at the pairs
abbrev pub came_by : Event → List (WireAct Purpose)
came_by (Datagram from bytes) = acts_of_datagram from (reading bytes)
came_by Tick = TickAll ∷ []
came_by (Down node) = StopOf node ∷ []
came_by Join = []

-- a call to a node that is up, or a return, is handed over, if it can be sent
abbrev pub handed_by : WireState Purpose → Effect → List (WireAct Purpose)
handed_by w (made.Call to message purpose) = if is_up w to && is_sendable w.format message then CallTo to message purpose ∷ [] else []
handed_by w (made.Answer caller message) = if is_sendable w.format message then AnswerTo caller message ∷ [] else []

module _ {M : Type 0} where
  -- the pairs once an event has come to them
  abbrev pub wire_behind : Event → NodeState M → WireState Purpose
  wire_behind (Datagram from bytes) n = after_datagram n.wire from (reading bytes)
  wire_behind Tick n = all_ticked n.wire
  wire_behind (Down node) n = stopped_at n.wire node
  wire_behind Join n = n.wire

module _ {M : Type 0} (declared : M → Signature) (turn : M → List ValueTree → ℕ → List ValueTree → List Outcome → NextTurn) where
  -- all that happens at the pairs in a step
  abbrev pub acts_in : ℕ → Event → NodeState M → List (WireAct Purpose)
  acts_in at event n = came_by event ++ flat_map (handed_by (wire_behind event n)) (effects_in declared turn at event n)

module _ {M : Type 0} (declared : M → Signature) (turn : M → List ValueTree → ℕ → List ValueTree → List Outcome → NextTurn) (first : M → List ValueTree) where
  -- and at boot
  abbrev pub acts_at_boot : Deployment → Option M → ℕ → List (WireAct Purpose)
  acts_at_boot d hosted node =
      flat_map (handed_by (fresh_wire d node)) (effects_at_boot declared turn first d hosted node)
