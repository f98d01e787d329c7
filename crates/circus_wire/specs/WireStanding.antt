-- What a wire stands for, and what is owed then.
use Rattle.std.specs.Prelude.{◌≡◌, ℕ, zero, suc, ◌-◌, ◌<◌, not, ◌&&◌, List, [], ◌∷◌, ◌++◌, length, slice_get, Option, None, Some, ◌==◌, if◌then◌else◌}
use Rattle.std.specs.FinMap.{get}
use Rattle.circus_segment.specs.Segment.{Piece}
use Rattle.circus_exchange.specs.declared.exchange.Exchange.{Exchange}
use Rattle.circus_exchange.specs.Exchange.{start}
use Rattle.circus_pair.specs.Acts.{Act, Acts}
use Rattle.circus_pair.specs.Lawful.{is_stopped_after}
use Rattle.circus_pair.specs.Sending.{outputs, takes_after}
use Rattle.circus_pair.specs.Standing.{StandsFor, arrival_after}
use Rattle.circus_pair.specs.Ticking.{suspects_after}
use Rattle.circus_pair.specs.TwoEnds.{Arrival, arrivals_of}
use Rattle.circus_wire.specs.declared.delivery.Batch.{Batch}
use Rattle.circus_wire.specs.declared.delivery.Heard.{Heard}
use Rattle.circus_wire.specs.declared.delivery.Heard.TheVariants.{Dropped}
use Rattle.circus_wire.specs.Wire.{PeerState, WireState, Beginning, node_at, hear_arrival}
use Rattle.circus_wire.specs.WireActs.{WireAct, WireActs, begun, followed_by, CameFrom, TickAll, act_at, acts_at, purpose_of, purpose_kept}

-- a pair at its beginning
abbrev pub pair_of : Beginning → Exchange
pair_of b = start b.first b.format

module _ {P : Type 0} where
  -- a pair stands for what has happened at it, and what is kept are the purposes of calls whose return has not arrived
  pub record PeerStands (b : Beginning) (acts : WireActs P) (node : ℕ) (p : PeerState P) : Type 0 where
    pub pair : StandsFor p.exchange b.first b.format (acts_at (pair_of b) node acts)
    pub purposes : (number : ℕ) → get p.purposes number ≡ purpose_kept (pair_of b) node acts number

  -- so does each pair of a wire: the node is one of the nodes, and there is a pair with each other one, in their order
  pub record WireStands (w : WireState P) (b : Beginning) (acts : WireActs P) : Type 0 where
    pub one : b.own < b.nodes
    pub own : w.own ≡ b.own
    pub format : w.format ≡ b.format
    pub nodes : length w.peers ≡ b.nodes - 1
    pub peers : (place : ℕ) (p : PeerState P) → slice_get w.peers place ≡ Some p → PeerStands b acts (node_at b.own place) p

-- what a pair owes for an act, or for none
abbrev pub outputs_for : Exchange → Acts → Option Act → List (List ℕ)
outputs_for e acts None = []
outputs_for e acts (Some act) = outputs e acts act

module _ {P : Type 0} where
  -- what is owed to a node for an act
  abbrev pub owed_to : Beginning → WireActs P → WireAct P → ℕ → Batch
  owed_to b acts act node = record { to = node; datagrams = outputs_for (pair_of b) (acts_at (pair_of b) node acts) (act_at (pair_of b) node (acts_at (pair_of b) node acts) act) }

  -- what comes of a segment of a node: the purpose that is handed out is that of the call to which the return arrives
  abbrev pub heard_after : Beginning → WireActs P → ℕ → Piece → Heard P
  heard_after b acts from s =
      if takes_after (pair_of b) (acts_at (pair_of b) from acts) s
      then hear_arrival (purpose_of (pair_of b) from acts) from (arrival_after (pair_of b) (acts_at (pair_of b) from acts) s)
      else Dropped

  -- what is owed for a tick to the nodes at the places below one that were not declared down, in order
  unfoldable pub ticks_below : Beginning → WireActs P → ℕ → List Batch
  ticks_below b acts zero = []
  ticks_below b acts (suc place) =
      ticks_below b acts place
      ++ (if is_stopped_after (acts_at (pair_of b) (node_at b.own place) acts) then [] else owed_to b acts TickAll (node_at b.own place) ∷ [])

  abbrev pub ticks_owed : Beginning → WireActs P → List Batch
  ticks_owed b acts = ticks_below b acts (b.nodes - 1)

  -- which of these are suspected then, in order
  unfoldable pub suspects_below : Beginning → WireActs P → ℕ → List ℕ
  suspects_below b acts zero = []
  suspects_below b acts (suc place) =
      suspects_below b acts place
      ++ (if not (is_stopped_after (acts_at (pair_of b) (node_at b.own place) acts)) && suspects_after (pair_of b) (acts_at (pair_of b) (node_at b.own place) acts) then node_at b.own place ∷ [] else [])

  abbrev pub suspects_owed : Beginning → WireActs P → List ℕ
  suspects_owed b acts = suspects_below b acts (b.nodes - 1)

  -- ---- all acts

  -- what was sent to a node, oldest first
  unfoldable pub sent_in : Beginning → ℕ → WireActs P → List (List ℕ)
  sent_in b node begun = []
  sent_in b node (followed_by acts act) = sent_in b node acts ++ (owed_to b acts act node).datagrams

  -- the messages of a node that have arrived, oldest first
  unfoldable pub arrived_from : Beginning → ℕ → WireActs P → List Arrival
  arrived_from b node begun = []
  arrived_from b node (followed_by acts (CameFrom from s)) = arrived_from b node acts ++ (if from == node then arrivals_of (arrival_after (pair_of b) (acts_at (pair_of b) node acts) s) else [])
  arrived_from b node (followed_by acts act) = arrived_from b node acts
