-- A step of a node, by what comes to it.
use Rattle.std.specs.Prelude.{◌≡◌, ℕ, ◌+◌, ◌-◌, ◌^◌, min, Bool, if◌then◌else◌, List, [], Result, Ok, Err}
use Rattle.std.specs.List.{flat_map}
use Rattle.circus_value.specs.ValueTree.{ValueTree}
use Rattle.circus_value.specs.declared.outcome.Outcome.{Outcome}
use Rattle.circus_segment.specs.Segment.{Piece, reading}
use Rattle.circus_segment.specs.declared.fault.SegmentFault.{SegmentFault}
use Rattle.circus_model.specs.NextTurn.{NextTurn}
use Rattle.circus_model.specs.declared.signature.Signature.{Signature}
use Rattle.circus_wire.specs.Wire.{IsOther, after_datagram, sent_by_datagram, heard_from, all_ticked, sent_by_tick, suspected_by_tick, stopped_at}
use Rattle.circus_node.specs.declared.event.Event.{Event}
use Rattle.circus_node.specs.declared.event.Event.TheVariants.{Datagram, Tick, Down, Join}
use Rattle.circus_node.specs.declared.event.Give.{Give}
use Rattle.circus_node.specs.declared.event.Outputs.{Outputs}
use Rattle.circus_node.specs.declared.event.StepFault.{StepFault}
use Rattle.circus_node.specs.declared.event.StepFault.TheVariants as fault
use Rattle.circus_node.specs.declared.acting.Consequences.{Consequences}
use Rattle.circus_node.specs.NodeState.{NodeState}
use Rattle.circus_node.specs.Making.{hears, learns_down, is_told_to_join}
use Rattle.circus_node.specs.Sending.{Sending, sent, spent, gives_of, all_handed}

-- a count stays at the greatest
abbrev pub count_dropped : Bool → ℕ → ℕ
count_dropped dropped count = if dropped then min (count + 1) (2 ^ 64 - 1) else count

-- the node after a step with what it gives, or the node to which no number was left
abbrev pub Ended : Type 0 → Type 0
Ended M = Result (NodeState M × Outputs) ℕ

module _ {M : Type 0} where
  abbrev pub end_step : NodeState M → Consequences → Sending → Ended M
  end_step n came (sent w gives) =
      Ok (record n { wire = w; dropped = count_dropped came.dropped n.dropped }, record { gives = gives; suspects = []; differences = came.differences })
  end_step n came (spent node) = Err node

  -- what came of a step is sent, behind what was given already
  abbrev pub conclude_step : NodeState M → List Give → Consequences → Ended M
  conclude_step n gives came = end_step n came (all_handed (sent n.wire gives) came.effects)

  -- a tick touches the pairs alone
  abbrev pub tick_node : NodeState M → Ended M
  tick_node n =
      Ok (record n { wire = all_ticked n.wire }, record { gives = flat_map gives_of (sent_by_tick n.wire); suspects = suspected_by_tick n.wire; differences = [] })

  -- this is what a step comes to, but for want of memory
  abbrev pub IsEnded : Result (NodeState M × Outputs) StepFault → Ended M → Type 0
  IsEnded (Ok step_node) end = end ≡ Ok step_node
  IsEnded (Err (fault.Spent node)) end = end ≡ Err node
  IsEnded (Err fault.NoMemory) end = Unit {0}

  -- what comes names another node, where it names one
  abbrev pub CanCome : NodeState M → Event → Type 0
  CanCome n (Datagram from bytes) = IsOther n.wire from
  CanCome n Tick = Unit {0}
  CanCome n (Down node) = IsOther n.wire node
  CanCome n Join = Unit {0}

module _ {M : Type 0} (declared : M → Signature) (turn : M → List ValueTree → ℕ → List ValueTree → List Outcome → NextTurn) where
  -- a datagram of a node comes: first its acknowledgement and the calls that the window lets go, then what is made of it
  abbrev pub take_datagram : ℕ → ℕ → Result Piece SegmentFault → NodeState M → Ended M
  take_datagram at from segment n =
      let made = hears declared turn n.deployment at from (heard_from n.wire from segment) n.acting in
      conclude_step (record n { wire = after_datagram n.wire from segment; acting = made.acting })
      (gives_of (sent_by_datagram n.wire from segment)) made.came

  -- a node is declared to be down: its pair stops first
  abbrev pub declare_down : ℕ → ℕ → NodeState M → Ended M
  declare_down at node n =
      let made = learns_down declared turn at node n.acting in
      conclude_step (record n { wire = stopped_at n.wire node; acting = made.acting }) [] made.came

  abbrev pub join_troupe : ℕ → NodeState M → Ended M
  join_troupe at n =
      let made = is_told_to_join declared turn at n.acting in
      conclude_step (record n { acting = made.acting }) [] made.came

  abbrev pub step_node : ℕ → Event → NodeState M → Ended M
  step_node at (Datagram from bytes) n = take_datagram at from (reading bytes) n
  step_node at Tick n = tick_node n
  step_node at (Down node) n = declare_down at node n
  step_node at Join n = join_troupe at n
