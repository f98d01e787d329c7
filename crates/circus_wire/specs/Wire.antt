-- The pairs of a node with the other ones, as a state, and what each act does to it.
use Rattle.std.specs.Prelude.{◌≡◌, ◌≢◌, ℕ, zero, suc, ◌+◌, ◌-◌, ◌≤◌, Bool, false, not, ◌&&◌, List, [], ◌∷◌, ◌++◌, length, map, replicate, slice_get, Option, None, Some, Result, Ok, Err, nat_lt, ◌==◌, if◌then◌else◌}
use Rattle.std.specs.FinMap.{FinMap, empty, get, insert, remove}
use Rattle.std.specs.Ordering.{nat_cmp}
use Rattle.circus_segment.specs.Segment.{Piece}
use Rattle.circus_segment.specs.declared.fault.SegmentFault.{SegmentFault}
use Rattle.circus_exchange.specs.declared.exchange.Exchange.{Exchange}
use Rattle.circus_exchange.specs.declared.taken.Arrived.{Arrived}
use Rattle.circus_exchange.specs.declared.taken.Arrived.TheVariants.{Nothing, ArrivedCall, ArrivedReturn}
use Rattle.circus_exchange.specs.Exchange.{start, send_call, datagrams_of_call, send_return, datagrams_of_return, awaits_return, takes, after, datagrams_after, arrived_after, count_tick, is_suspect, datagrams_of_tick, stop_exchange}
use Rattle.circus_value.specs.declared.caller.Caller.{Caller}
use Rattle.circus_wire.specs.declared.delivery.Batch.{Batch}
use Rattle.circus_wire.specs.declared.delivery.Heard.{Heard}
use Rattle.circus_wire.specs.declared.delivery.Heard.TheVariants.{Dropped, Taken, Called, Returned}

-- ---- one pair

-- what a pair knows, and what its calls were made for that had no return, by their numbers
pub record PeerState (P : Type 0) : Type 0 where
  pub exchange : Exchange
  pub purposes : FinMap nat_cmp P

module _ {P : Type 0} where
  abbrev pub fresh_peer : ℕ → ℕ → PeerState P
  fresh_peer first format = record { exchange = start first format; purposes = empty }

  -- a call is handed over for a purpose
  abbrev pub peer_called : PeerState P → List ℕ → P → PeerState P
  peer_called p message purpose = record { exchange = send_call p.exchange message; purposes = insert p.purposes p.exchange.next purpose }

  -- the return to a call is handed over
  abbrev pub peer_answered : PeerState P → ℕ → List ℕ → PeerState P
  peer_answered p number message = record p { exchange = send_return p.exchange number message }

  -- the purpose of a call whose return arrives is kept no longer
  abbrev pub drop_purpose : Arrived → FinMap nat_cmp P → FinMap nat_cmp P
  drop_purpose Nothing purposes = purposes
  drop_purpose (ArrivedCall number message) purposes = purposes
  drop_purpose (ArrivedReturn number message) purposes = remove purposes number

  -- a segment comes
  abbrev pub peer_heard : PeerState P → Piece → PeerState P
  peer_heard p s = record { exchange = after p.exchange s; purposes = drop_purpose (arrived_after p.exchange s) p.purposes }

  -- a tick comes, unless the other node was declared down
  abbrev pub peer_ticked : PeerState P → PeerState P
  peer_ticked p = if p.exchange.stopped then p else record p { exchange = count_tick p.exchange }

  -- the other node is declared down
  abbrev pub peer_stopped : PeerState P → PeerState P
  peer_stopped p = record p { exchange = stop_exchange p.exchange }

  abbrev pub told_return : ℕ → List ℕ → Option P → Heard P
  told_return number message (Some purpose) = Returned number purpose message
  told_return number message None = Taken

  -- what came of a segment of a node that was taken, by what arrived and what the calls were made for
  abbrev pub hear_arrival : (ℕ → Option P) → ℕ → Arrived → Heard P
  hear_arrival purposes node Nothing = Taken
  hear_arrival purposes node (ArrivedCall number message) = Called (record { node = node; number = number }) message
  hear_arrival purposes node (ArrivedReturn number message) = told_return number message (purposes number)

  -- what came of a segment of a node
  abbrev pub heard_by : PeerState P → ℕ → Piece → Heard P
  heard_by p node s = if takes p.exchange s then hear_arrival (get p.purposes) node (arrived_after p.exchange s) else Dropped

-- ---- the other nodes

-- the place of another node among the others, in their order
abbrev pub place_of : ℕ → ℕ → ℕ
place_of own node = if nat_lt own node then node - 1 else node

-- the node at such a place
abbrev pub node_at : ℕ → ℕ → ℕ
node_at own place = if nat_lt place own then place else place + 1

-- a list with the item at a place changed, if there is one
unfoldable pub changed_at : {X : Type 0} → (X → X) → List X → ℕ → List X
changed_at f [] place = []
changed_at f (x ∷ xs) zero = f x ∷ xs
changed_at f (x ∷ xs) (suc place) = x ∷ changed_at f xs place

-- ---- all pairs

-- the node, the format of its datagrams, and its pairs with the other nodes, in their order
pub record WireState (P : Type 0) : Type 0 where
  pub own : ℕ
  pub format : ℕ
  pub peers : List (PeerState P)

-- of which node of how many a wire is, the number of its first call to each other one, and its format
pub record Beginning : Type 0 where
  pub own : ℕ
  pub nodes : ℕ
  pub first : ℕ
  pub format : ℕ

module _ {P : Type 0} where
  abbrev pub fresh_peers : ℕ → ℕ → ℕ → List (PeerState P)
  fresh_peers count first format = replicate count (fresh_peer first format)

  -- a wire before anything has happened
  abbrev pub before_any : Beginning → WireState P
  before_any b = record { own = b.own; format = b.format; peers = fresh_peers (b.nodes - 1) b.first b.format }

  -- a wire is still of the same node, in the same format and with as many pairs
  pub record Remains (old new : WireState P) : Type 0 where
    pub own : new.own ≡ old.own
    pub format : new.format ≡ old.format
    pub pairs : length new.peers ≡ length old.peers

  -- a node is another one
  abbrev pub IsOther : WireState P → ℕ → Type 0
  IsOther w node = (node ≢ w.own) × (node ≤ length w.peers)

  -- the pair with a node
  unfoldable pub peer_at : WireState P → ℕ → Option (PeerState P)
  peer_at w node = if node == w.own then None else slice_get w.peers (place_of w.own node)

  -- what a pair gives, if it is there, or this
  abbrev pub of_peer : {X : Type 0} → X → (PeerState P → X) → Option (PeerState P) → X
  of_peer none given None = none
  of_peer none given (Some p) = given p

  -- with the pair with another node changed
  abbrev pub change_peer : (PeerState P → PeerState P) → WireState P → ℕ → WireState P
  change_peer change w node = record w { peers = changed_at change w.peers (place_of w.own node) }

  -- datagrams for a node, if it is another one
  abbrev pub sent_to : (PeerState P → List (List ℕ)) → WireState P → ℕ → Batch
  sent_to given w node = record { to = node; datagrams = of_peer [] given (peer_at w node) }

  -- a node is another one that was not declared down
  abbrev pub is_up : WireState P → ℕ → Bool
  is_up w node = of_peer false (λ p. not p.exchange.stopped) (peer_at w node)

  -- the number of the next call to a node
  abbrev pub next_number : WireState P → ℕ → ℕ
  next_number w node = of_peer 0 (λ p. p.exchange.next) (peer_at w node)

  -- a call has arrived whole and has had no return
  abbrev pub is_awaited : WireState P → Caller → Bool
  is_awaited w caller = of_peer false (λ p. awaits_return p.exchange caller.number) (peer_at w caller.node)

  -- ---- a call is handed over

  abbrev pub called_to : WireState P → ℕ → List ℕ → P → WireState P
  called_to w to message purpose = change_peer (λ p. peer_called p message purpose) w to

  abbrev pub sent_by_call : WireState P → ℕ → List ℕ → Batch
  sent_by_call w to message = sent_to (λ p. datagrams_of_call p.exchange message) w to

  -- ---- a return is handed over, if its call awaits it

  abbrev pub answer_caller : WireState P → Caller → List ℕ → WireState P
  answer_caller w caller message = if is_awaited w caller then change_peer (λ p. peer_answered p caller.number message) w caller.node else w

  abbrev pub sent_by_answer : WireState P → Caller → List ℕ → Batch
  sent_by_answer w caller message =
      if is_awaited w caller
      then sent_to (λ p. datagrams_of_return p.exchange caller.number message) w caller.node
      else record { to = caller.node; datagrams = [] }

  -- ---- a datagram comes, which is read as a segment or is none

  abbrev pub after_datagram : WireState P → ℕ → Result Piece SegmentFault → WireState P
  after_datagram w from (Ok s) = change_peer (λ p. peer_heard p s) w from
  after_datagram w from (Err fault) = w

  abbrev pub sent_by_datagram : WireState P → ℕ → Result Piece SegmentFault → Batch
  sent_by_datagram w from (Ok s) = sent_to (λ p. datagrams_after p.exchange s) w from
  sent_by_datagram w from (Err fault) = record { to = from; datagrams = [] }

  abbrev pub heard_from : WireState P → ℕ → Result Piece SegmentFault → Heard P
  heard_from w from (Ok s) = of_peer Dropped (λ p. heard_by p from s) (peer_at w from)
  heard_from w from (Err fault) = Dropped

  -- ---- a tick comes

  -- to the pair at a place
  abbrev pub ticked_at : WireState P → ℕ → WireState P
  ticked_at w place = record w { peers = changed_at peer_ticked w.peers place }

  -- to all pairs
  abbrev pub all_ticked : WireState P → WireState P
  all_ticked w = record w { peers = map peer_ticked w.peers }

  abbrev pub batches : ℕ → PeerState P → List Batch
  batches node p = if p.exchange.stopped then [] else record { to = node; datagrams = datagrams_of_tick p.exchange } ∷ []

  abbrev pub suspicion : ℕ → PeerState P → List ℕ
  suspicion node p = if not p.exchange.stopped && is_suspect p.exchange then node ∷ [] else []

  -- what the pairs at places give, in order
  unfoldable pub given_below : {X : Type 0} → (ℕ → PeerState P → List X) → WireState P → ℕ → List X
  given_below given w zero = []
  given_below given w (suc place) = given_below given w place ++ of_peer [] (given (node_at w.own place)) (slice_get w.peers place)

  -- what is sent to each node that was not declared down, in their order
  abbrev pub sent_by_tick : WireState P → List Batch
  sent_by_tick w = given_below batches w (length w.peers)

  -- the nodes that are suspected, in their order
  abbrev pub suspected_by_tick : WireState P → List ℕ
  suspected_by_tick w = given_below suspicion w (length w.peers)

  -- ---- a node is declared down

  abbrev pub stopped_at : WireState P → ℕ → WireState P
  stopped_at w node = change_peer peer_stopped w node
