-- What the calls of a wire keep standing, and what they owe.
use Rattle.std.proofs.Common.{◌≡◌, ◌≢◌, ℕ, zero, suc, ◌-◌, ◌<◌, Bool, true, false, cond, not, ◌&&◌, eqb, List, [], ◌∷◌, length, Option, None, Some, Result, Ok, refl, sym, ap, subst, ◌∙◌, arith}
use Rattle.std.specs.Prelude.{slice_get}
use Rattle.circus_segment.specs.Segment.{Piece, IsSegment}
use Rattle.circus_segment.specs.declared.fault.SegmentFault.{SegmentFault}
use Rattle.circus_exchange.specs.Limits.{never_used}
use Rattle.circus_exchange.specs.Exchange.{IsSendable, awaits_return, datagrams_of_return}
use Rattle.circus_pair.proofs.Dialogue.{not_true}
use Rattle.circus_pair.proofs.Following as following
use Rattle.circus_value.specs.declared.caller.Caller.{Caller}
use Rattle.circus_wire.specs.declared.delivery.Batch.{Batch}
use Rattle.circus_wire.specs.declared.delivery.Heard.TheVariants.{Dropped}
use Rattle.circus_wire.specs.Wire.{PeerState, WireState, Beginning, place_of, peer_at, of_peer, sent_to, change_peer, IsOther, is_up, next_number, is_awaited, called_to, sent_by_call, answer_caller, sent_by_answer, peer_answered, after_datagram, sent_by_datagram, heard_from, heard_by}
use Rattle.circus_pair.specs.Acts.{Return}
use Rattle.circus_wire.specs.WireActs.{WireActs, followed_by, CallTo, AnswerTo, CameFrom, acts_at, awaits_after}
use Rattle.circus_wire.specs.WireStanding.{pair_of, PeerStands, WireStands, outputs_for, owed_to, heard_after}
use Rattle.circus_wire.proofs.Changing.{Found, found_by, peer_is}
use Rattle.circus_wire.proofs.Owing.{found_stands, format_is, call_owed, answer_owed, came_owed, heard_owed}
use Rattle.circus_wire.proofs.Places.{place_back, node_differs, place_within}
use Rattle.circus_wire.proofs.Standing.{stands_called, stands_answered, stands_unanswered, stands_heard}

item_there : {X : Type 0} (xs : List X) (i : ℕ) → i < length xs → (x : X) × (slice_get xs i ≡ Some x)
item_there [] i less = absurd (omega arith)
item_there (x ∷ xs) zero less = (x, refl)
item_there (x ∷ xs) (suc i) less = item_there xs i (omega arith)

neither : (b : Bool) → (b && false) ≡ false
neither true = refl
neither false = refl

module _ {P : Type 0} where
  -- there is a pair with each other node
  pub other_peer : (b : Beginning) (acts : WireActs P) (w : WireState P) (node : ℕ) → WireStands w b acts → IsOther w node → (p : PeerState P) × (slice_get w.peers (place_of w.own node) ≡ Some p)
  other_peer b acts w node stands other =
      item_there w.peers (place_of w.own node)
      (place_within w.own node (length w.peers) other.0 other.1 (let one : b.own < b.nodes = stands.one in let own : w.own ≡ b.own = stands.own in let nodes : length w.peers ≡ b.nodes - 1 = stands.nodes in omega arith))

  some_is : (x y : PeerState P) → ◌≡◌ {A = Option (PeerState P)} (Some x) (Some y) → x ≡ y
  some_is x y e = cc

  -- a pair that a test of the pair with a node finds
  module _ (b : Beginning) (acts : WireActs P) (w : WireState P) (node : ℕ) (test : PeerState P → Bool) (passes : of_peer false test (peer_at w node) ≡ true) (stands : WireStands w b acts) where
    found : Found w.own w.peers node (λ p. test p ≡ true)
    found = found_by test w w.own w.format w.peers node refl passes

    there : peer_at w node ≡ Some found.peer
    there = peer_is w w.own w.format w.peers node (place_of w.own node) found.peer refl found.differs refl found.there

    same : (p : PeerState P) → slice_get w.peers (place_of w.own node) ≡ Some p → found.peer ≡ p
    same p at = some_is found.peer p (sym found.there ∙ at)

    stood : PeerStands b acts node found.peer
    stood = found_stands b acts w node found.peer found.differs found.there stands

    sendable : (message : List ℕ) → IsSendable w.format message → IsSendable found.peer.exchange.format message
    sendable message h = subst (λ f. IsSendable f message) (stands.format ∙ sym (format_is b acts node found.peer stood)) h

  module _ (b : Beginning) (acts : WireActs P) (w : WireState P) (to : ℕ) (message : List ℕ) (purpose : P) (up : is_up w to ≡ true) (may : IsSendable w.format message) (left : next_number w to < never_used) (stands : WireStands w b acts) where
    pub call_stands : (new : WireState P) → new ≡ called_to w to message purpose → WireStands new b (followed_by acts (CallTo to message purpose))
    call_stands new is =
        let f = found b acts w to (λ p. not p.exchange.stopped) up stands in
        subst (λ x. WireStands x b (followed_by acts (CallTo to message purpose))) (sym is)
        (stands_called b acts w to message purpose f.differs
        (λ p at. subst (λ (q : PeerState P). IsSendable q.exchange.format message × (q.exchange.stopped ≡ false) × (q.exchange.next < never_used)) (same b acts w to (λ p. not p.exchange.stopped) up stands p at)
        (sendable b acts w to (λ p. not p.exchange.stopped) up stands message may, not_true _ f.is, subst (λ n. n < never_used) (ap (of_peer 0 (λ (q : PeerState P). q.exchange.next)) (there b acts w to (λ p. not p.exchange.stopped) up stands)) left)) stands)

    pub call_owes : (datagrams : List (List ℕ)) → datagrams ≡ (sent_by_call w to message).datagrams → ◌≡◌ {A = Batch} (record { to = to; datagrams = datagrams }) (owed_to b acts (CallTo to message purpose) to)
    call_owes datagrams is =
        let f = found b acts w to (λ p. not p.exchange.stopped) up stands in
        ap (λ ds. let x : Batch = record { to = to; datagrams = ds } in x) is
        ∙ call_owed b acts w to message purpose f.peer (there b acts w to (λ p. not p.exchange.stopped) up stands) (sendable b acts w to (λ p. not p.exchange.stopped) up stands message may) (not_true _ f.is)
        (subst (λ n. n < never_used) (ap (of_peer 0 (λ (q : PeerState P). q.exchange.next)) (there b acts w to (λ p. not p.exchange.stopped) up stands)) left)
        (stood b acts w to (λ p. not p.exchange.stopped) up stands)

  module _ (b : Beginning) (acts : WireActs P) (w : WireState P) (caller : Caller) (message : List ℕ) (stands : WireStands w b acts) where
    pub answer_stands : (new : WireState P) → IsSendable w.format message → is_awaited w caller ≡ true → new ≡ answer_caller w caller message → WireStands new b (followed_by acts (AnswerTo caller message))
    answer_stands new may awaits is =
        let f = found b acts w caller.node (λ p. awaits_return p.exchange caller.number) awaits stands in
        let then_ : new ≡ change_peer (λ p. peer_answered p caller.number message) w caller.node = is ∙ ap (λ x. cond x (change_peer (λ p. peer_answered p caller.number message) w caller.node) w) awaits in
        subst (λ x. WireStands x b (followed_by acts (AnswerTo caller message))) (sym then_)
        (stands_answered b acts w caller message f.differs
        (λ p at. subst (λ (q : PeerState P). IsSendable q.exchange.format message × (awaits_return q.exchange caller.number ≡ true)) (same b acts w caller.node (λ p. awaits_return p.exchange caller.number) awaits stands p at)
        (sendable b acts w caller.node (λ p. awaits_return p.exchange caller.number) awaits stands message may, f.is)) stands)

    pub answer_owes : (datagrams : List (List ℕ)) → is_awaited w caller ≡ true → datagrams ≡ (sent_by_answer w caller message).datagrams → ◌≡◌ {A = Batch} (record { to = caller.node; datagrams = datagrams }) (owed_to b acts (AnswerTo caller message) caller.node)
    answer_owes datagrams awaits is =
        let f = found b acts w caller.node (λ p. awaits_return p.exchange caller.number) awaits stands in
        ap (λ ds. let x : Batch = record { to = caller.node; datagrams = ds } in x) (is ∙ ap (λ (x : Bool). let y : Batch = cond x (sent_to (λ (p : PeerState P). datagrams_of_return p.exchange caller.number message) w caller.node) (record { to = caller.node; datagrams = [] }) in y.datagrams) awaits)
        ∙ answer_owed b acts w caller message f.peer (there b acts w caller.node (λ p. awaits_return p.exchange caller.number) awaits stands) f.is (stood b acts w caller.node (λ p. awaits_return p.exchange caller.number) awaits stands)

    pub unawaited_stands : is_awaited w caller ≡ false → WireStands w b (followed_by acts (AnswerTo caller message))
    unawaited_stands none = stands_unanswered b acts w caller message (λ place p at here.
        let differs : caller.node ≢ w.own = λ own. node_differs w.own place (here ∙ own) in
        sym (ap (of_peer false (λ (q : PeerState P). awaits_return q.exchange caller.number)) (peer_is w w.own w.format w.peers caller.node place p refl differs (place_back w.own place caller.node here) at)) ∙ none) stands

    pub unawaited_owes : (datagrams : List (List ℕ)) → IsOther w caller.node → is_awaited w caller ≡ false → datagrams ≡ [] → ◌≡◌ {A = Batch} (record { to = caller.node; datagrams = datagrams }) (owed_to b acts (AnswerTo caller message) caller.node)
    unawaited_owes datagrams other none is =
        let peer = other_peer b acts w caller.node stands other in
        let here = acts_at (pair_of b) caller.node acts in
        let stood_ = found_stands b acts w caller.node peer.0 other.0 peer.1 stands in
        let at = peer_is w w.own w.format w.peers caller.node (place_of w.own caller.node) peer.0 refl other.0 refl peer.1 in
        let unawaited : awaits_after (pair_of b) here caller.number ≡ false =
        sym (following.awaits_as_owed peer.0.exchange b.first b.format here stood_.pair caller.number)
        ∙ sym (ap (of_peer false (λ (q : PeerState P). awaits_return q.exchange caller.number)) at) ∙ none in
        ap (λ ds. let x : Batch = record { to = caller.node; datagrams = ds } in x)
        (is ∙ sym (
        ap (λ x. outputs_for (pair_of b) here (cond (eqb caller.node caller.node && x) (Some (Return caller.number message)) None)) unawaited
        ∙ ap (λ x. outputs_for (pair_of b) here (cond x (Some (Return caller.number message)) None)) (neither (eqb caller.node caller.node))))

  -- ---- a datagram that is a segment

  module _ (b : Beginning) (acts : WireActs P) (w : WireState P) (from : ℕ) (s read : Piece) (other : IsOther w from) (stands : WireStands w b acts) (is : ◌≡◌ {A = Result Piece SegmentFault} (Ok read) (Ok s)) (segment : IsSegment read) where
    same_piece : read ≡ s
    same_piece = cc

    pub came_stands : (new : WireState P) → new ≡ after_datagram w from (Ok read) → WireStands new b (followed_by acts (CameFrom from s))
    came_stands new then_ =
        subst (λ q. WireStands new b (followed_by acts (CameFrom from q))) same_piece
        (subst (λ x. WireStands x b (followed_by acts (CameFrom from read))) (sym then_) (stands_heard b acts w from read other.0 segment stands))

    pub came_owes : sent_by_datagram w from (Ok read) ≡ owed_to b acts (CameFrom from s) from
    came_owes =
        let peer = other_peer b acts w from stands other in
        came_owed b acts w from read peer.0 (peer_is w w.own w.format w.peers from (place_of w.own from) peer.0 refl other.0 refl peer.1) segment (found_stands b acts w from peer.0 other.0 peer.1 stands)
        ∙ ap (λ q. owed_to b acts (CameFrom from q) from) same_piece

    pub came_tells : heard_from w from (Ok read) ≡ heard_after b acts from s
    came_tells =
        let peer = other_peer b acts w from stands other in
        ap (of_peer Dropped (λ (q : PeerState P). heard_by q from read)) (peer_is w w.own w.format w.peers from (place_of w.own from) peer.0 refl other.0 refl peer.1)
        ∙ heard_owed b acts from read peer.0 segment (found_stands b acts w from peer.0 other.0 peer.1 stands)
        ∙ ap (heard_after b acts from) same_piece
