-- What a node gives goes to other nodes, and it stays the node that it is.
use Rattle.std.proofs.Common.{◌≡◌, ℕ, zero, suc, ◌<◌, ◌≤◌, Bool, true, false, cond, List, [], ◌∷◌, ◌++◌, length, map, All, Option, None, Some, Result, Ok, Err, refl, sym, ap, subst, ◌∙◌, inl, inr, arith, if◌then◌else◌}
use Rattle.std.specs.Prelude.{slice_get, ◌==◌, ◌&&◌}
use Rattle.std.specs.List.{flat_map}
use Rattle.std.proofs.lemmas.Bool.Decides.{eqb_tells}
use Rattle.std.proofs.lemmas.List.{length-map}
use Rattle.std.proofs.lemmas.List.Concat.{flat_map-append}
use Rattle.std.proofs.lemmas.List.Elements.{All-nil, All-append, All-map, All-weaker}
use Rattle.std.proofs.lemmas.Option.{slice_get_within}
use Rattle.circus_exchange.specs.Limits.{never_used}
use Rattle.circus_exchange.specs.Exchange.{datagrams_of_return, datagrams_of_tick}
use Rattle.circus_segment.specs.Segment.{Piece}
use Rattle.circus_segment.specs.declared.fault.SegmentFault.{SegmentFault}
use Rattle.circus_value.specs.declared.caller.Caller.{Caller}
use Rattle.circus_wire.specs.declared.delivery.Batch.{Batch}
use Rattle.circus_wire.specs.Wire.{PeerState, WireState, Remains, IsOther, place_of, node_at, peer_at, of_peer, sent_to, change_peer, is_up, next_number, is_awaited, called_to, sent_by_call, answer_caller, sent_by_answer, after_datagram, sent_by_datagram, all_ticked, batches, given_below, sent_by_tick, peer_answered}
use Rattle.circus_wire.proofs.Places.{length_changed, node_differs}
use Rattle.circus_member_rules.specs.declared.occurrence.Purpose.{Purpose}
use Rattle.circus_member_rules.specs.declared.occurrence.Effect.{Effect}
use Rattle.circus_member_rules.specs.declared.occurrence.Effect.TheVariants as made
use Rattle.circus_node.specs.declared.event.Give.{Give}
use Rattle.circus_node.specs.Sending.{Sending, sent, spent, give_to, gives_of, is_sendable, hand_over, all_handed}

-- it goes to another node
abbrev Goes : WireState Purpose → Give → Type 0
Goes w give = IsOther w give.to

abbrev pub AllGo : WireState Purpose → List Give → Type 0
AllGo w gives = All (Goes w) gives

-- ---- one batch

batch_goes : (w : WireState Purpose) (b : Batch) → IsOther w b.to → AllGo w (gives_of b)
batch_goes w b other = All-map (Goes w) (give_to b.to) b.datagrams (λ k datagram at. other)

other_pair : (w : WireState Purpose) (node : ℕ) (p : PeerState Purpose) → peer_at w node ≡ Some p → IsOther w node
unfolding peer_at
other_pair w node p h = elim (eqb_tells node w.own) [
  | inl same ↦ absurd (let clash : ◌≡◌ {A = Option (PeerState Purpose)} None (Some p) = sym (ap (λ b. cond b None (slice_get w.peers (place_of w.own node))) same.0) ∙ h in cc)
  | inr differ ↦
      let there : slice_get w.peers (place_of w.own node) ≡ Some p = sym (ap (λ b. cond b None (slice_get w.peers (place_of w.own node))) differ.0) ∙ h in
      let within : place_of w.own node < length w.peers = slice_get_within w.peers (place_of w.own node) p there in
      (differ.1, behind w.own node (length w.peers) within)
]
  where
    behind : (own node count : ℕ) → place_of own node < count → node ≤ count
    behind own node count less = grind arith

sent_to_goes : (given : PeerState Purpose → List (List ℕ)) (w : WireState Purpose) (node : ℕ) → AllGo w (gives_of (sent_to given w node))
sent_to_goes given w node = by_pair (peer_at w node) refl
  where
    by_pair : (o : Option (PeerState Purpose)) → peer_at w node ≡ o → AllGo w (map (give_to node) (of_peer [] given o))
    by_pair None is = All-nil (Goes w)
    by_pair (Some p) is = All-map (Goes w) (give_to node) (given p) (λ k datagram at. other_pair w node p is)

answer_goes : (w : WireState Purpose) (caller : Caller) (message : List ℕ) → AllGo w (gives_of (sent_by_answer w caller message))
answer_goes w caller message = by_test (is_awaited w caller)
  where
    by_test : (b : Bool) → AllGo w (gives_of (if b then sent_to (λ p. datagrams_of_return p.exchange caller.number message) w caller.node else record { to = caller.node; datagrams = [] }))
    by_test true = sent_to_goes _ w caller.node
    by_test false = All-nil (Goes w)

pub datagram_goes : (w : WireState Purpose) (from : ℕ) (segment : Result Piece SegmentFault) → AllGo w (gives_of (sent_by_datagram w from segment))
datagram_goes w from (Ok s) = sent_to_goes _ w from
datagram_goes w from (Err fault) = All-nil (Goes w)

-- ---- a tick

tick_below : (w : WireState Purpose) (count : ℕ) → count ≤ length w.peers → AllGo w (flat_map gives_of (given_below batches w count))
unfolding given_below
tick_below w zero le = All-nil (Goes w)
tick_below w (suc place) le =
    subst (AllGo w) (sym (flat_map-append gives_of (given_below batches w place) _))
    (All-append (Goes w) (flat_map gives_of (given_below batches w place)) _ (tick_below w place (omega (arith, le))) (at_place (slice_get w.peers place)))
  where
    other : IsOther w (node_at w.own place)
    other = (node_differs w.own place, behind w.own place (length w.peers) le)
      where
        behind : (own place count : ℕ) → suc place ≤ count → node_at own place ≤ count
        behind own place count le = grind arith

    of_one : (p : PeerState Purpose) (stopped : Bool) → AllGo w (flat_map gives_of (if stopped then [] else record { to = node_at w.own place; datagrams = datagrams_of_tick p.exchange } ∷ []))
    of_one p true = All-nil (Goes w)
    of_one p false = All-append (Goes w) _ [] (batch_goes w _ other) (All-nil (Goes w))

    at_place : (o : Option (PeerState Purpose)) → AllGo w (flat_map gives_of (of_peer [] (batches (node_at w.own place)) o))
    at_place None = All-nil (Goes w)
    at_place (Some p) = of_one p p.exchange.stopped

pub tick_goes : (w : WireState Purpose) → AllGo w (flat_map gives_of (sent_by_tick w))
tick_goes w = tick_below w (length w.peers) (omega arith)

-- ---- a wire that remains

pub still_go : (old new : WireState Purpose) (gives : List Give) → Remains old new → AllGo old gives → AllGo new gives
still_go old new gives remains go =
    All-weaker (Goes old) (Goes new) (λ give other. ((λ same. other.0 (same ∙ remains.own)), subst (λ n. give.to ≤ n) (sym remains.pairs) other.1)) gives go

went_before : (old new : WireState Purpose) (gives : List Give) → Remains old new → AllGo new gives → AllGo old gives
went_before old new gives remains go =
    All-weaker (Goes new) (Goes old) (λ give other. ((λ same. other.0 (same ∙ sym remains.own)), subst (λ n. give.to ≤ n) remains.pairs other.1)) gives go

pub changed_remains : (change : PeerState Purpose → PeerState Purpose) (w : WireState Purpose) (node : ℕ) → Remains w (change_peer change w node)
changed_remains change w node = record { own = refl; format = refl; pairs = length_changed change w.peers (place_of w.own node) }

pub same_remains : (w : WireState Purpose) → Remains w w
same_remains w = record { own = refl; format = refl; pairs = refl }

pub remains_on : (a b c : WireState Purpose) → Remains a b → Remains b c → Remains a c
remains_on a b c ab bc = record { own = bc.own ∙ ab.own; format = bc.format ∙ ab.format; pairs = bc.pairs ∙ ab.pairs }

pub datagram_remains : (w : WireState Purpose) (from : ℕ) (segment : Result Piece SegmentFault) → Remains w (after_datagram w from segment)
datagram_remains w from (Ok s) = changed_remains _ w from
datagram_remains w from (Err fault) = same_remains w

pub tick_remains : (w : WireState Purpose) → Remains w (all_ticked w)
tick_remains w = record { own = refl; format = refl; pairs = length-map w.peers _ }

answered_remains : (w : WireState Purpose) (caller : Caller) (message : List ℕ) → Remains w (answer_caller w caller message)
answered_remains w caller message = by_test (is_awaited w caller)
  where
    by_test : (b : Bool) → Remains w (if b then change_peer (λ p. peer_answered p caller.number message) w caller.node else w)
    by_test true = changed_remains (λ p. peer_answered p caller.number message) w caller.node
    by_test false = same_remains w

-- ---- handing over

-- the wire is that of the same node, and what was given goes to other ones
abbrev pub GoesOn : WireState Purpose → Sending → Type 0
GoesOn old (sent w gives) = Remains old w × AllGo old gives
GoesOn old (spent node) = Unit {0}

more_go : (old w next : WireState Purpose) (gives more : List Give) → Remains old w → AllGo old gives → Remains w next → AllGo w more → GoesOn old (sent next (gives ++ more))
more_go old w next gives more remains go on goes =
    (remains_on old w next remains on, All-append (Goes old) gives more go (went_before old w more remains goes))

handed_goes : (old w : WireState Purpose) (gives : List Give) (e : Effect) → Remains old w → AllGo old gives → GoesOn old (hand_over w gives e)
handed_goes old w gives (made.Call to message purpose) remains go = by_test (is_up w to && is_sendable w.format message)
  where
    by_number : (b : Bool) → GoesOn old (if b then spent to else sent (called_to w to message purpose) (gives ++ gives_of (sent_by_call w to message)))
    by_number true = tt
    by_number false = more_go old w _ gives _ remains go (changed_remains _ w to) (sent_to_goes _ w to)

    by_test : (b : Bool) → GoesOn old (if b then (if next_number w to == never_used then spent to else sent (called_to w to message purpose) (gives ++ gives_of (sent_by_call w to message))) else sent w gives)
    by_test true = by_number (next_number w to == never_used)
    by_test false = (remains, go)
handed_goes old w gives (made.Answer caller message) remains go = by_test (is_sendable w.format message)
  where
    by_test : (b : Bool) → GoesOn old (if b then sent (answer_caller w caller message) (gives ++ gives_of (sent_by_answer w caller message)) else sent w gives)
    by_test true = more_go old w _ gives _ remains go (answered_remains w caller message) (answer_goes w caller message)
    by_test false = (remains, go)

pub all_go_on : (old : WireState Purpose) (s : Sending) (effects : List Effect) → GoesOn old s → GoesOn old (all_handed s effects)
all_go_on old s [] on = on
all_go_on old (sent w gives) (e ∷ es) on = all_go_on old (hand_over w gives e) es (handed_goes old w gives e on.0 on.1)
all_go_on old (spent node) (e ∷ es) on = all_go_on old (spent node) es tt
