-- What the Ringmaster's node sends is justified: each return is the table that the ring's rule gives for the request that is its call.
use Rattle.std.specs.Prelude.{◌≡◌, ℕ, ◌<◌, Bool, List, [], ◌∷◌, ◌++◌, map, All, None, Some, Ok}
use Rattle.std.specs.Option.{option_map_or}
use Rattle.std.proofs.Common.{inl, inr}
use Rattle.circus_value.specs.ValueTree.{ValueTree}
use Rattle.circus_value.specs.declared.caller.Caller.{Caller}
use Rattle.circus_value.specs.declared.outcome.Outcome.{Outcome}
use Rattle.circus_segment.specs.Segment.{Piece, reading}
use Rattle.circus_header.specs.declared.call.Request.{Request}
use Rattle.circus_collate.specs.declared.deployment.Deployment.{Deployment}
use Rattle.circus_collate.specs.declared.deployment.Troupe.{Troupe}
use Rattle.circus_collate.specs.declared.table.Table.{Table}
use Rattle.circus_ring.specs.RingTable.{answer_after}
use Rattle.circus_model.specs.NextTurn.{NextTurn}
use Rattle.circus_model.specs.declared.signature.Signature.{Signature}
use Rattle.circus_wire.specs.Wire.{Beginning, heard_from}
use Rattle.circus_wire.specs.WireActs.{WireActs, begun, acts_at}
use Rattle.circus_wire.specs.WireStanding.{pair_of}
use Rattle.circus_wire.specs.declared.delivery.Heard.{Heard}
use Rattle.circus_wire.specs.declared.delivery.Heard.TheVariants.{Called}
use Rattle.circus_member_rules.specs.declared.occurrence.Purpose.{Purpose}
use Rattle.circus_node.specs.Accepting.{accepted_request}
use Rattle.circus_node.specs.Booting.{CanBoot}
use Rattle.circus_node.specs.Booting as booting
use Rattle.circus_node.specs.Making.{table_message}
use Rattle.circus_node.specs.NodeState.{Acting, ringmaster, NodeState}
use Rattle.circus_node.specs.Step.{step_node}
use Rattle.circus_node.specs.declared.event.Event.{Event}
use Rattle.circus_node.specs.declared.event.Event.TheVariants as comes
use Rattle.circus_node.specs.declared.event.Give.{Give}
use Rattle.circus_node.specs.declared.event.Outputs.{Outputs}
use Rattle.circus_world_theory.specs.Histories.{beginning_of}
use Rattle.circus_world_theory.specs.NodeActs.{with_all, acts_in, acts_at_boot}
use Rattle.circus_world_theory.specs.NodeLives.{Events, Rising, IsOfBytes, Comes}
use Rattle.circus_headline_theory.specs.Datagrams.Lives.{IsOfOther, is_tick, last_step, with_rest, with_events}
use Rattle.circus_headline_theory.specs.Datagrams.Sendings.{IsSaidFor, IsSentFor}

-- requests that were accepted, oldest first, each with its caller
abbrev pub Requests : Type 0
Requests = List (Caller × Request)

-- ---- what came

module _ {M : Type 0} where
  -- the request that is heard, if one is accepted
  abbrev pub request_of_heard : Acting M → Heard Purpose → Requests
  request_of_heard (ringmaster kept) (Called sender message) = option_map_or (λ request. (sender, request) ∷ []) (accepted_request kept message) []
  request_of_heard a heard = []

  abbrev pub requested_by : Event → NodeState M → Requests
  requested_by (comes.Datagram from bytes) n = request_of_heard n.acting (heard_from n.wire from (reading bytes))
  requested_by event n = []

module _ {M : Type 0} (declared : M → Signature) (turn : M → List ValueTree → ℕ → List ValueTree → List Outcome → NextTurn) where
  -- all that were accepted behind events, as far as they are stepped
  abbrev pub with_requests : Requests → Events → NodeState M → Requests
  with_requests requests [] n = requests
  with_requests requests (next ∷ events) n =
      with_rest (with_requests (requests ++ requested_by next.1 n) events) requests (step_node declared turn next.0 next.1 n)

-- ---- what is sent

-- a message is the table for a request of the caller, by the rule of the ring behind the requests before it
pub record IsTableFor (troupes : List Troupe) (requests : Requests) (caller : Caller) (message : List ℕ) : Type 0 where
  pub before : Requests
  pub request : Request
  pub behind : Requests
  pub requests_are : requests ≡ before ++ (caller, request) ∷ behind
  pub table : Table
  pub table_is : answer_after troupes (map (λ (r : Caller × Request). r.1) before) request ≡ Some table
  pub message_is : message ≡ table_message table

-- behind these requests, by what happened at the pairs; the step is a tick, or another one
module _ (troupes : List Troupe) (requests : Requests) (b : Beginning) (acts : WireActs Purpose) (ticks : Bool) where
  -- it calls nobody, and returns tables alone
  abbrev pub HasCause : (to : ℕ) (s : Piece) → IsSaidFor b.first b.format ticks (acts_at (pair_of b) to acts) s → Type 0
  HasCause to s (inl call) = ⊥
  HasCause to s (inr (inl return_)) = IsTableFor troupes requests (record { node = to; number = s.call }) return_.message
  HasCause to s (inr (inr other)) = Unit {0}

  pub record IsJustified (give : Give) : Type 0 where
    pub sent : IsSentFor b.first b.format ticks (acts_at (pair_of b) give.to acts) give.bytes
    pub cause : HasCause give.to sent.segment sent.cause

-- ---- the node

module _ {M : Type 0} (declared : M → Signature) (turn : M → List ValueTree → ℕ → List ValueTree → List Outcome → NextTurn) (first : M → List ValueTree)
    (d : Deployment) (node : ℕ) where
  abbrev pub boot_acts : WireActs Purpose
  boot_acts = with_all begun (acts_at_boot declared turn first d None node)

  -- the Ringmaster's node boots, events come to it from other nodes, and one more
  pub record IsNext (events : Events) (begun_ before : NodeState M) (step : ℕ) (event : Event) (ended : NodeState M × Outputs) : Type 0 where
    pub can : CanBoot d node None
    pub outputs : Outputs
    pub boots : booting.boot_node declared turn first d None node ≡ Ok (begun_, outputs)
    pub rising : Rising 0 events
    pub comes : Comes declared turn events begun_ before
    pub others : All (λ (e : ℕ × Event). IsOfOther d node e.1) events
    pub later : last_step 0 events < step
    pub octets : IsOfBytes event
    pub other : IsOfOther d node event
    pub ends : step_node declared turn step event before ≡ Ok ended

  -- what it gives in that step is justified
  abbrev pub StepIsJustified : Events → NodeState M → NodeState M → ℕ → Event → NodeState M × Outputs → Type 0
  StepIsJustified events n before step event ended =
      All
      (IsJustified d.troupes (with_requests declared turn [] events n ++ requested_by event before) (beginning_of d node)
      (with_all (with_events declared turn boot_acts events n) (acts_in declared turn step event before)) (is_tick event)) ended.1.gives
