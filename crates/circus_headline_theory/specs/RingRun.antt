-- When a trace is a run of the Ringmaster's node, and which views it keeps then: whatever came to it, it answered the
-- requests that it accepted, each behind those before it, and its pairs sent what they owe.
use Rattle.std.specs.Prelude.{ℕ, ◌≡◌, List, [], ◌∷◌, ◌++◌, map}
use Rattle.std.specs.List.{flat_map}
use Rattle.std.specs.Option.{option_map_or}
use Rattle.circus_value.specs.declared.caller.Caller.{Caller}
use Rattle.circus_segment.specs.Segment.{reading}
use Rattle.circus_header.specs.declared.call.Request.{Request}
use Rattle.circus_collate.specs.declared.deployment.Deployment.{Deployment}
use Rattle.circus_collate.specs.declared.table.Table.{Table}
use Rattle.circus_collate.specs.declared.view.View.{View}
use Rattle.circus_ring.specs.RingTable.{Kept, kept_after, table_by}
use Rattle.circus_wire.specs.Wire.{Beginning}
use Rattle.circus_wire.specs.WireActs.{WireActs}
use Rattle.circus_wire.specs.declared.delivery.Heard.{Heard}
use Rattle.circus_wire.specs.declared.delivery.Heard.TheVariants.{Dropped, Taken, Called, Returned}
use Rattle.circus_member_rules.specs.declared.occurrence.Effect.{Effect}
use Rattle.circus_member_rules.specs.declared.occurrence.Effect.TheVariants as makes
use Rattle.circus_member_rules.specs.declared.occurrence.Purpose.{Purpose}
use Rattle.circus_node.specs.Accepting.{accepted_request}
use Rattle.circus_node.specs.Making.{table_message}
use Rattle.circus_node.specs.declared.event.Event.{Event}
use Rattle.circus_node.specs.declared.event.Event.TheVariants as comes
use Rattle.circus_world_theory.specs.Histories.{beginning_of}
use Rattle.circus_headline_theory.specs.Datagrams.Ring.{Requests}
use Rattle.circus_node.specs.Trace as trace
use Rattle.circus_headline_theory.specs.Trace.{acts_of, heard_in, SendsWhatIsOwed}
use Rattle.circus_node.specs.Trace.{Trace}

-- ---- with the views that it keeps

-- the request that is heard, with its caller, if one is accepted
abbrev pub request_heard : Kept → Heard Purpose → Requests
request_heard kept Dropped = []
request_heard kept Taken = []
request_heard kept (Called sender message) = option_map_or (λ request. (sender, request) ∷ []) (accepted_request kept message) []
request_heard kept (Returned number purpose message) = []

-- its call is answered by the table that the ring's rule gives
abbrev pub answer_to : Kept → Caller × Request → List Effect
answer_to kept r = option_map_or (λ (table : Table). makes.Answer r.0 (table_message table) ∷ []) (table_by kept r.1) []

-- ---- the Ringmaster at a node of a program

module _ (d : Deployment) (node : ℕ) where
  abbrev pub b : Beginning
  b = beginning_of d node

  -- what it keeps behind requests
  abbrev pub kept_behind : Requests → Kept
  kept_behind requests = kept_after d.troupes (map (λ (r : Caller × Request). r.1) requests)

  -- the request that comes by an event behind others, and acts
  abbrev pub request_in : Requests → WireActs Purpose → Event → Requests
  request_in before acts (comes.Datagram from bytes) = request_heard (kept_behind before) (heard_in b acts from (reading bytes))
  request_in before acts comes.Tick = []
  request_in before acts (comes.Down other) = []
  request_in before acts comes.Join = []

  -- all requests that were accepted, oldest first
  abbrev pub requests_of : Trace → Requests
  requests_of (trace.booted made outputs) = []
  requests_of (trace.stepped t at event made outputs) = requests_of t ++ request_in (requests_of t) (acts_of b t) event

  -- in each step it makes the answer to the request that it accepts, and nothing else
  abbrev pub AnswersRequests : Trace → Type 0
  AnswersRequests (trace.booted made outputs) = made ≡ []
  AnswersRequests (trace.stepped t at event made outputs) =
      AnswersRequests t
      × (made ≡ flat_map (answer_to (kept_behind (requests_of t))) (request_in (requests_of t) (acts_of b t) event))

  pub record IsRingRun (t : Trace) (views : List View) : Type 0 where
    pub views_are : views ≡ (kept_behind (requests_of t)).views
    pub answers : AnswersRequests t
    pub sends : SendsWhatIsOwed b t
