-- The pairs of a node gather bytes alone, whatever is handed over, and what is heard is bytes.
use Rattle.std.proofs.Common.{◌≡◌, ℕ, zero, suc, Bool, true, false, cond, ◌&&◌, List, [], ◌∷◌, ◌++◌, map, replicate, All, Option, None, Some, Result, Ok, Err, refl, subst}
use Rattle.std.specs.Prelude.{slice_get, ◌==◌, if◌then◌else◌}
use Rattle.std.specs.FinMap.{get}
use Rattle.std.proofs.lemmas.List.Elements.{All-nil, All-cons, All-head, All-tail}
use Rattle.circus_value.specs.Parts.{AreOctets}
use Rattle.circus_collate.specs.declared.deployment.Deployment.{Deployment}
use Rattle.circus_segment.specs.Segment.{Piece, reading}
use Rattle.circus_segment.specs.declared.fault.SegmentFault.{SegmentFault}
use Rattle.circus_exchange.specs.Limits.{never_used}
use Rattle.circus_exchange.specs.Exchange.{takes, arrived_after, count_tick}
use Rattle.circus_exchange.specs.declared.taken.Arrived.{Arrived}
use Rattle.circus_exchange.specs.declared.taken.Arrived.TheVariants.{Nothing, ArrivedCall, ArrivedReturn}
use Rattle.circus_wire.specs.declared.delivery.Heard.TheVariants.{Dropped}
use Rattle.circus_wire.specs.Wire.{WireState, PeerState, fresh_peer, peer_called, peer_answered, peer_heard, peer_ticked, peer_stopped, hear_arrival, told_return, heard_by, place_of, changed_at, of_peer, peer_at, change_peer, is_up, is_awaited, next_number, called_to, sent_by_call, sent_by_answer, after_datagram, heard_from, all_ticked, stopped_at}
use Rattle.circus_member_rules.specs.declared.occurrence.Purpose.{Purpose}
use Rattle.circus_member_rules.specs.declared.occurrence.Purpose.TheVariants as for
use Rattle.circus_member_rules.specs.declared.occurrence.Effect.{Effect}
use Rattle.circus_member_rules.specs.declared.occurrence.Effect.TheVariants as made
use Rattle.circus_node.specs.declared.event.Give.{Give}
use Rattle.circus_node.specs.Booting.{fresh_wire}
use Rattle.circus_node.specs.Sending.{Sending, sent, spent, gives_of, is_sendable, hand_over, next_handed, all_handed}
use Rattle.circus_member_theory.proofs.Accepting.Can.{AreHeardOctets}
use Rattle.circus_world_theory.proofs.Timely.Octets.{Gathers, gathers_none, gathers_called, gathers_returned, gathers_ticked, gathers_after, ArrivedOctets, arrived_octets, reading_octets}

-- ---- lists of pairs

module _ {X : Type 0} (P : X → Type 0) where
  all_same : (n : ℕ) (x : X) → P x → All P (replicate n x)
  all_same zero x is = All-nil P
  all_same (suc n) x is = All-cons P x (replicate n x) is (all_same n x is)

  all_mapped : (f : X → X) → ((x : X) → P x → P (f x)) → (xs : List X) → All P xs → All P (map f xs)
  all_mapped f keeps [] all = All-nil P
  all_mapped f keeps (x ∷ xs) all = All-cons P (f x) (map f xs) (keeps x (All-head P x xs all)) (all_mapped f keeps xs (All-tail P x xs all))

  all_changed : (f : X → X) → ((x : X) → P x → P (f x)) → (xs : List X) (place : ℕ) → All P xs → All P (changed_at f xs place)
  unfolding changed_at
  all_changed f keeps [] place all = All-nil P
  all_changed f keeps (x ∷ xs) zero all = All-cons P (f x) xs (keeps x (All-head P x xs all)) (All-tail P x xs all)
  all_changed f keeps (x ∷ xs) (suc place) all = All-cons P x (changed_at f xs place) (All-head P x xs all) (all_changed f keeps xs place (All-tail P x xs all))

  all_found : (xs : List X) (place : ℕ) (x : X) → slice_get xs place ≡ Some x → All P xs → P x
  all_found [] place x at all = absurd (let clash : ◌≡◌ {A = Option X} None (Some x) = at in cc)
  all_found (y ∷ ys) zero x at all = let same : y ≡ x = cc in subst P same (All-head P y ys all)
  all_found (y ∷ ys) (suc place) x at all = all_found ys place x at (All-tail P y ys all)

-- ---- pairs

abbrev pub PeerGathers : PeerState Purpose → Type 0
PeerGathers p = Gathers p.exchange

abbrev pub AllGather : WireState Purpose → Type 0
AllGather w = All PeerGathers w.peers

pub fresh_gathers : (d : Deployment) (node : ℕ) → AllGather (fresh_wire d node)
fresh_gathers d node = all_same PeerGathers _ (fresh_peer 0 d.format) (gathers_none 0 d.format)

changed_gathers : (f : PeerState Purpose → PeerState Purpose) → ((p : PeerState Purpose) → PeerGathers p → PeerGathers (f p)) → (w : WireState Purpose) (node : ℕ) → AllGather w
    → AllGather (change_peer f w node)
changed_gathers f keeps w node all = all_changed PeerGathers f keeps w.peers (place_of w.own node) all

ticked_peer : (p : PeerState Purpose) → PeerGathers p → PeerGathers (peer_ticked p)
ticked_peer p is = by_test p.exchange.stopped
  where
    by_test : (b : Bool) → PeerGathers (if b then p else record p { exchange = count_tick p.exchange })
    by_test true = is
    by_test false = gathers_ticked p.exchange is

pub ticked_gathers : (w : WireState Purpose) → AllGather w → AllGather (all_ticked w)
ticked_gathers w all = all_mapped PeerGathers peer_ticked ticked_peer w.peers all

pub stopped_gathers : (w : WireState Purpose) (node : ℕ) → AllGather w → AllGather (stopped_at w node)
stopped_gathers w node all = changed_gathers peer_stopped (λ p is. record { calls = is.calls; returns = is.returns }) w node all

pub datagram_gathers : (w : WireState Purpose) (from : ℕ) (bytes : List ℕ) → AreOctets bytes → AllGather w → AllGather (after_datagram w from (reading bytes))
datagram_gathers w from bytes octets all = by_segment (reading bytes) refl
  where
    by_segment : (r : Result Piece SegmentFault) → reading bytes ≡ r → AllGather (after_datagram w from r)
    by_segment (Ok s) is = changed_gathers (λ p. peer_heard p s) (λ p g. gathers_after p.exchange s (reading_octets bytes s octets is) g) w from all
    by_segment (Err fault) is = all

-- ---- what is handed over

abbrev pub SendingGathers : Sending → Type 0
SendingGathers (sent w gives) = AllGather w
SendingGathers (spent node) = Unit {0}

handed_gathers : (w : WireState Purpose) (gives : List Give) (e : Effect) → AllGather w → SendingGathers (hand_over w gives e)
handed_gathers w gives (made.Call to message purpose) all = by_tests (is_up w to && is_sendable w.format message) (next_number w to == never_used)
  where
    by_tests : (goes none : Bool) → SendingGathers (
        if goes
        then (if none then spent to else sent (called_to w to message purpose) (gives ++ gives_of (sent_by_call w to message)))
        else sent w gives)
    by_tests true true = tt
    by_tests true false = changed_gathers (λ p. peer_called p message purpose) (λ p g. gathers_called p.exchange message g) w to all
    by_tests false none = all
handed_gathers w gives (made.Answer caller message) all = by_test (is_sendable w.format message) (is_awaited w caller)
  where
    by_test : (goes awaited : Bool) → SendingGathers (
        if goes
        then sent (if awaited then change_peer (λ p. peer_answered p caller.number message) w caller.node else w) (gives ++ gives_of (sent_by_answer w caller message))
        else sent w gives)
    by_test true true = changed_gathers (λ p. peer_answered p caller.number message) (λ p g. gathers_returned p.exchange caller.number message g) w caller.node all
    by_test true false = all
    by_test false awaited = all

next_gathers : (s : Sending) (e : Effect) → SendingGathers s → SendingGathers (next_handed s e)
next_gathers (sent w gives) e all = handed_gathers w gives e all
next_gathers (spent node) e all = tt

pub all_handed_gathers : (s : Sending) (effects : List Effect) → SendingGathers s → SendingGathers (all_handed s effects)
all_handed_gathers s [] all = all
all_handed_gathers s (e ∷ effects) all = all_handed_gathers (next_handed s e) effects (next_gathers s e all)

-- ---- what is heard

return_heard : (number : ℕ) (message : List ℕ) (o : Option Purpose) → AreOctets message → AreHeardOctets (told_return number message o)
return_heard number message None octets = tt
return_heard number message (Some (for.Ask name server)) octets = octets
return_heard number message (Some (for.Ring request)) octets = tt
return_heard number message (Some for.Fetch) octets = octets

told_octets : (purposes : ℕ → Option Purpose) (from : ℕ) (a : Arrived) → ArrivedOctets a → AreHeardOctets (hear_arrival purposes from a)
told_octets purposes from Nothing is = tt
told_octets purposes from (ArrivedCall number message) is = is
told_octets purposes from (ArrivedReturn number message) is = return_heard number message (purposes number) is

peer_gathers : (w : WireState Purpose) (node : ℕ) (p : PeerState Purpose) → AllGather w → peer_at w node ≡ Some p → PeerGathers p
unfolding peer_at
peer_gathers w node p all at = by_own (node == w.own) at
  where
    by_own : (b : Bool) → cond b None (slice_get w.peers (place_of w.own node)) ≡ Some p → PeerGathers p
    by_own true e = absurd (let clash : ◌≡◌ {A = Option (PeerState Purpose)} None (Some p) = e in cc)
    by_own false e = all_found PeerGathers w.peers (place_of w.own node) p e all

pub heard_octets : (w : WireState Purpose) (from : ℕ) (bytes : List ℕ) → AreOctets bytes → AllGather w → AreHeardOctets (heard_from w from (reading bytes))
heard_octets w from bytes octets all = by_segment (reading bytes) refl
  where
    by_taken : (s : Piece) (p : PeerState Purpose) → AreOctets s.part → PeerGathers p → (b : Bool)
        → AreHeardOctets (if b then hear_arrival (get p.purposes) from (arrived_after p.exchange s) else Dropped)
    by_taken s p part is true = told_octets (get p.purposes) from (arrived_after p.exchange s) (arrived_octets p.exchange s part is)
    by_taken s p part is false = tt

    by_peer : (s : Piece) → AreOctets s.part → (o : Option (PeerState Purpose)) → peer_at w from ≡ o → AreHeardOctets (of_peer Dropped (λ p. heard_by p from s) o)
    by_peer s part None at = tt
    by_peer s part (Some p) at = by_taken s p part (peer_gathers w from p all at) (takes p.exchange s)

    by_segment : (r : Result Piece SegmentFault) → reading bytes ≡ r → AreHeardOctets (heard_from w from r)
    by_segment (Ok s) is = by_peer s (reading_octets bytes s octets is) (peer_at w from) refl
    by_segment (Err fault) is = tt
