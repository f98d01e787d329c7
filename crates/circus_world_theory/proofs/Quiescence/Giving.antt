-- What is owed to the other nodes for what happens at the pairs of a node is among what the node gives in that step.
use Rattle.std.proofs.Common.{◌≡◌, ◌≢◌, ◌⊎◌, inl, inr, ℕ, zero, suc, ◌+◌, ◌-◌, ◌*◌, ◌<◌, ◌≤◌, Bool, true, false, cond, not, ◌&&◌, eqb, List, [], ◌∷◌, ◌++◌, length, Option, None, Some, Result, Ok, Err, refl, sym, ap, subst, ◌∙◌, arith}
use Rattle.std.specs.Prelude.{slice_get, option_map, flat_map, nat_lt, nat_le, if◌then◌else◌, ◌==◌}
use Rattle.std.proofs.lemmas.Bool.{and_parts, ltb-true, leb-true, eqb-false, ne_eqb}
use Rattle.std.proofs.lemmas.Bool.Decides.{eqb_tells}
use Rattle.std.proofs.lemmas.Option.{slice_get-map, slice_get_within}
use Rattle.circus_segment.specs.Segment.{part_size, most_segments}
use Rattle.circus_exchange.specs.Limits.{never_used}
use Rattle.circus_exchange.specs.Exchange.{IsSendable, awaits_return, datagrams_of_return}
use Rattle.circus_pair.proofs.Following as following
use Rattle.circus_pair.proofs.Lasting.{lasts_called, lasts_returned}
use Rattle.circus_value.specs.declared.caller.Caller.{Caller}
use Rattle.circus_wire.specs.declared.delivery.Batch.{Batch}
use Rattle.circus_wire.specs.Wire.{PeerState, WireState, Beginning, place_of, changed_at, change_peer, peer_at, of_peer, sent_to, is_up, next_number, is_awaited, peer_called, peer_answered, called_to, sent_by_call, answer_caller, sent_by_answer}
use Rattle.circus_wire.specs.WireActs.{WireAct, WireActs, followed_by, CallTo, AnswerTo, acts_at}
use Rattle.circus_wire.specs.WireStanding.{WireStands, pair_of, owed_to, sent_in}
use Rattle.circus_wire.proofs.Changing.{found_by, peer_is}
use Rattle.circus_wire.proofs.Owing.{found_stands}
use Rattle.circus_wire.proofs.Performing.{call_stands, call_owes, answer_stands, answer_owes, unawaited_stands, unawaited_owes, came_stands, came_owes}
use Rattle.circus_wire.proofs.Histories.{call_elsewhere, answer_elsewhere, segment_elsewhere}
use Rattle.circus_wire.proofs.Standing.{stands_begun}
use Rattle.circus_wire.specs.Wire.{IsOther, after_datagram, heard_from, sent_by_datagram}
use Rattle.circus_wire.specs.WireActs.{CameFrom, begun}
use Rattle.circus_segment.specs.Segment.{Piece, IsSegment, reading}
use Rattle.circus_segment.specs.declared.fault.SegmentFault.{SegmentFault}
use Rattle.circus_value.specs.ValueTree.{ValueTree}
use Rattle.circus_value.specs.declared.outcome.Outcome.{Outcome}
use Rattle.circus_collate.specs.declared.deployment.Deployment.{Deployment}
use Rattle.circus_model.specs.NextTurn.{NextTurn}
use Rattle.circus_model.specs.declared.signature.Signature.{Signature}
use Rattle.circus_node.specs.Making.{hears}
use Rattle.circus_node.specs.Booting.{boot_node, fresh_wire, home_of, made_at_boot}
use Rattle.circus_node.specs.declared.event.Event.TheVariants.{Datagram}
use Rattle.circus_node.specs.Step.{step_node}
use Rattle.circus_world_theory.specs.Histories.{beginning_of}
use Rattle.circus_world_theory.specs.NodeActs.{acts_of_datagram, acts_in, acts_at_boot}
use Rattle.circus_member_rules.specs.declared.occurrence.Purpose.{Purpose}
use Rattle.circus_member_rules.specs.declared.occurrence.Effect.{Effect}
use Rattle.circus_member_rules.specs.declared.occurrence.Effect.TheVariants as made
use Rattle.circus_node.specs.declared.event.Give.{Give}
use Rattle.circus_node.specs.declared.event.Outputs.{Outputs}
use Rattle.circus_node.specs.NodeState.{NodeState}
use Rattle.circus_node.specs.Making.{Made}
use Rattle.circus_node.specs.Sending.{Sending, sent, spent, give_to, gives_of, is_sendable, hand_over, all_handed}
use Rattle.circus_node.specs.Step.{end_step, conclude_step}
use Rattle.circus_world_theory.specs.NodeActs.{with_all, handed_by}
use Rattle.circus_world_theory.proofs.Spelled.{few_made}
use Rattle.circus_world_theory.proofs.Given.{WasGiven, with_both, same_end}
use Rattle.circus_world_theory.specs.Enough.{total}
use Rattle.circus_world_theory.proofs.Quiescence.Amounts.{is_data, datas, datas-append}
use Rattle.circus_world_theory.proofs.Quiescence.Answering.{data_in, data_of_batch}
use Rattle.circus_world_theory.proofs.Quiescence.Sums.{one, weigh-append, total_le, total_raise}

-- ---- what was sent

-- a datagram to a node is among what is given
pub record IsGive (gives : List Give) (to : ℕ) (bytes : List ℕ) : Type 0 where
  pub place : ℕ
  pub there : slice_get gives place ≡ Some (give_to to bytes)

-- what these acts have sent to another node was sent before, or is given
abbrev pub AllGiven : Beginning → WireActs Purpose → WireActs Purpose → List Give → Type 0
AllGiven b before acts gives = (to : ℕ) (bytes : List ℕ) → to ≢ b.own → to ≤ b.nodes - 1 → WasGiven b acts to bytes → WasGiven b before to bytes ⊎ IsGive gives to bytes

get_either : {X : Type 0} (xs ys : List X) (i : ℕ) (x : X) → slice_get (xs ++ ys) i ≡ Some x → (slice_get xs i ≡ Some x) ⊎ ((j : ℕ) × (slice_get ys j ≡ Some x))
get_either [] ys i x at = inr (i, at)
get_either (y ∷ xs) ys zero x at = inl at
get_either (y ∷ xs) ys (suc i) x at = get_either xs ys i x at

give_front : (gives more : List Give) (to : ℕ) (bytes : List ℕ) → IsGive gives to bytes → IsGive (gives ++ more) to bytes
give_front gives more to bytes is = record { place = is.place; there = go gives is.place is.there }
  where
    go : (l : List Give) (i : ℕ) → slice_get l i ≡ Some (give_to to bytes) → slice_get (l ++ more) i ≡ Some (give_to to bytes)
    go [] i h = absurd (let clash : ◌≡◌ {A = Option Give} None (Some (give_to to bytes)) = h in cc)
    go (x ∷ l) zero h = h
    go (x ∷ l) (suc i) h = go l i h

give_back : (gives more : List Give) (to : ℕ) (bytes : List ℕ) → IsGive more to bytes → IsGive (gives ++ more) to bytes
give_back [] more to bytes is = is
give_back (x ∷ gives) more to bytes is = (let r = give_back gives more to bytes is in record { place = suc r.place; there = r.there })

no_bytes : (bytes : List ℕ) (i : ℕ) → ◌≡◌ {A = Option (List ℕ)} (slice_get [] i) (Some bytes) → ⊥
no_bytes bytes i is = cc

-- the datagrams of a batch are given
batch_given : (batch : Batch) (bytes : List ℕ) (i : ℕ) → slice_get batch.datagrams i ≡ Some bytes → IsGive (gives_of batch) batch.to bytes
batch_given batch bytes i at = record { place = i; there = slice_get-map (give_to batch.to) batch.datagrams i ∙ ap (option_map (give_to batch.to)) at }

-- an act that owes this batch alone
more_all : (b : Beginning) (before acts : WireActs Purpose) (act : WireAct Purpose) (gives : List Give) (batch : Batch) → AllGiven b before acts gives
    → batch.datagrams ≡ (owed_to b acts act batch.to).datagrams → ((other : ℕ) → other ≢ batch.to → (owed_to b acts act other).datagrams ≡ []) → AllGiven b before (followed_by acts act) (gives ++ gives_of batch)
unfolding sent_in
more_all b before acts act gives batch all owes none to bytes not_own within given = elim (get_either (sent_in b to acts) (owed_to b acts act to).datagrams given.0 bytes given.1) [
  | inl old ↦ elim (all to bytes not_own within (given.0, old)) [ inl earlier ↦ inl earlier | inr here ↦ inr (give_front gives (gives_of batch) to bytes here) ]
  | inr new ↦ elim (eqb_tells to batch.to) [
    | inl same ↦ inr (subst (λ n. IsGive (gives ++ gives_of batch) n bytes) (sym same.1)
        (give_back gives (gives_of batch) batch.to bytes
        (batch_given batch bytes new.0 (ap (λ (l : List (List ℕ)). slice_get l new.0) (owes ∙ ap (λ n. (owed_to b acts act n).datagrams) (sym same.1)) ∙ new.1))))
    | inr differ ↦ absurd (no_bytes bytes new.0 (ap (λ (l : List (List ℕ)). slice_get l new.0) (sym (none to differ.1)) ∙ new.1))
  ]
]

-- one that owes nothing
none_all : (b : Beginning) (before acts : WireActs Purpose) (act : WireAct Purpose) (gives : List Give) → AllGiven b before acts gives → ((other : ℕ) → other ≢ b.own → other ≤ b.nodes - 1 → (owed_to b acts act other).datagrams ≡ []) → AllGiven b before (followed_by acts act) (gives ++ [])
unfolding sent_in
none_all b before acts act gives all none to bytes not_own within given = elim (get_either (sent_in b to acts) (owed_to b acts act to).datagrams given.0 bytes given.1) [
  | inl old ↦ elim (all to bytes not_own within (given.0, old)) [ inl earlier ↦ inl earlier | inr here ↦ inr (give_front gives [] to bytes here) ]
  | inr new ↦ absurd (no_bytes bytes new.0 (ap (λ (l : List (List ℕ)). slice_get l new.0) (sym (none to not_own within)) ∙ new.1))
]

-- ---- how much is given

-- how many datagrams with data acts have sent to another node
abbrev pub data_to : Beginning → WireActs Purpose → ℕ → ℕ
data_to b acts other = if other == b.own then 0 else datas (sent_in b other acts)

-- and to all other ones
abbrev pub data_sent : Beginning → WireActs Purpose → ℕ
data_sent b acts = total b.nodes (data_to b acts)

-- what is given these acts have sent, behind what was sent before
abbrev pub AllCounted : Beginning → WireActs Purpose → WireActs Purpose → List Give → Type 0
AllCounted b before acts gives = data_in gives + data_sent b before ≤ data_sent b acts

data_later : (b : Beginning) (acts : WireActs Purpose) (act : WireAct Purpose) (other : ℕ) → data_to b acts other ≤ data_to b (followed_by acts act) other
unfolding sent_in
data_later b acts act other = by_test (other == b.own)
  where
    by_test : (own : Bool) → (if own then 0 else datas (sent_in b other acts)) ≤ (if own then 0 else datas (sent_in b other acts ++ (owed_to b acts act other).datagrams))
    by_test true = omega arith
    by_test false = (let both = datas-append (sent_in b other acts) (owed_to b acts act other).datagrams in omega (arith, both))

more_counted : (b : Beginning) (before acts : WireActs Purpose) (act : WireAct Purpose) (gives : List Give) (batch : Batch) → AllCounted b before acts gives
    → batch.datagrams ≡ (owed_to b acts act batch.to).datagrams → batch.to ≢ b.own → batch.to < b.nodes → AllCounted b before (followed_by acts act) (gives ++ gives_of batch)
unfolding sent_in
more_counted b before acts act gives batch counted owes differs below =
    let both = weigh-append (λ (g : Give). one (is_data g.bytes)) gives (gives_of batch) in
    let here = data_of_batch batch.to batch.datagrams in
    let now = datas-append (sent_in b batch.to acts) (owed_to b acts act batch.to).datagrams in
    let owed = ap datas owes in
    let old : data_to b acts batch.to ≡ datas (sent_in b batch.to acts) = ap (λ x. if x then 0 else datas (sent_in b batch.to acts)) (ne_eqb batch.to b.own differs) in
    let new : data_to b (followed_by acts act) batch.to ≡ datas (sent_in b batch.to acts ++ (owed_to b acts act batch.to).datagrams) =
    ap (λ x. if x then 0 else datas (sent_in b batch.to acts ++ (owed_to b acts act batch.to).datagrams)) (ne_eqb batch.to b.own differs) in
    let raise = total_raise b.nodes batch.to (datas batch.datagrams) (data_to b acts) (data_to b (followed_by acts act)) below (λ k k_below. data_later b acts act k) (omega (arith, now, owed, old, new)) in
    omega (arith, counted, both, here, raise)

none_counted : (b : Beginning) (before acts : WireActs Purpose) (act : WireAct Purpose) (gives : List Give) → AllCounted b before acts gives → AllCounted b before (followed_by acts act) (gives ++ [])
none_counted b before acts act gives counted =
    let both = weigh-append (λ (g : Give). one (is_data g.bytes)) gives [] in
    let later = total_le b.nodes (data_to b acts) (data_to b (followed_by acts act)) (λ k k_below. data_later b acts act k) in
    omega (arith, counted, both, later)

-- another node that is up, or awaits a return, is one of the nodes
peer_there : (b : Beginning) (acts : WireActs Purpose) (w : WireState Purpose) (test : PeerState Purpose → Bool) (node : ℕ) → WireStands w b acts → of_peer false test (peer_at w node) ≡ true → (node ≢ b.own) × (node < b.nodes)
peer_there b acts w test node stands is =
    let f = found_by test w w.own w.format w.peers node refl is in
    let nodes = stands.nodes in
    let own = stands.one in (
      λ same. f.differs (same ∙ sym stands.own),
      by_place (nat_lt w.own node) (omega (arith, slice_get_within w.peers (place_of w.own node) f.peer f.there, nodes)) own,
    )
  where
    by_place : (low : Bool) → (if low then node - 1 else node) < b.nodes - 1 → b.own < b.nodes → node < b.nodes
    by_place true below some = omega (arith, below, some)
    by_place false below some = omega (arith, below, some)

-- ---- a node stays up while calls and returns are handed over

module _ (change : PeerState Purpose → PeerState Purpose) (same : (p : PeerState Purpose) → (change p).exchange.stopped ≡ p.exchange.stopped) where
  up_there : (peers : List (PeerState Purpose)) (place other : ℕ)
      → of_peer false (λ p. not p.exchange.stopped) (slice_get (changed_at change peers place) other) ≡ of_peer false (λ p. not p.exchange.stopped) (slice_get peers other)
  unfolding changed_at
  up_there [] place other = refl
  up_there (p ∷ peers) zero zero = ap not (same p)
  up_there (p ∷ peers) zero (suc other) = refl
  up_there (p ∷ peers) (suc place) zero = refl
  up_there (p ∷ peers) (suc place) (suc other) = up_there peers place other

  up_either : (b : Bool) (o q : Option (PeerState Purpose)) → of_peer false (λ p. not p.exchange.stopped) o ≡ of_peer false (λ p. not p.exchange.stopped) q
      → of_peer false (λ p. not p.exchange.stopped) (cond b None o) ≡ of_peer false (λ p. not p.exchange.stopped) (cond b None q)
  up_either true o q is = refl
  up_either false o q is = is

  up_changed : (w : WireState Purpose) (at node : ℕ) → is_up (change_peer change w at) node ≡ is_up w node
  unfolding peer_at
  up_changed w at node =
      up_either (eqb node w.own) (slice_get (changed_at change w.peers (place_of w.own at)) (place_of w.own node)) (slice_get w.peers (place_of w.own node))
      (up_there w.peers (place_of w.own at) (place_of w.own node))

up_called : (w : WireState Purpose) (to node : ℕ) (message : List ℕ) (purpose : Purpose) → is_up (called_to w to message purpose) node ≡ is_up w node
up_called w to node message purpose = up_changed (λ p. peer_called p message purpose) (λ p. (lasts_called p.exchange message).stopped) w to node

up_answered : (w : WireState Purpose) (caller : Caller) (message : List ℕ) (node : ℕ) → is_up (change_peer (λ p. peer_answered p caller.number message) w caller.node) node ≡ is_up w node
up_answered w caller message node =
    up_changed (λ p. peer_answered p caller.number message) (λ p. (lasts_returned p.exchange caller.number message).stopped) w caller.node node

-- ---- a call or a return is handed over

-- the pairs stand for acts, and what these have sent was sent before or is given
pub record Handed (b : Beginning) (before acts : WireActs Purpose) (old w : WireState Purpose) (gives : List Give) : Type 0 where
  pub stands : WireStands w b acts
  pub all : AllGiven b before acts gives
  pub counted : AllCounted b before acts gives
  pub up : (node : ℕ) → is_up w node ≡ is_up old node
  pub format : w.format ≡ old.format

abbrev pub IsHanded : Beginning → WireActs Purpose → WireActs Purpose → WireState Purpose → Sending → Type 0
IsHanded b before acts old (sent w gives) = Handed b before acts old w gives
IsHanded b before acts old (spent node) = Unit {0}

can_send : (format : ℕ) (message : List ℕ) → is_sendable format message ≡ true → IsSendable format message
can_send format message is =
    let parts = and_parts (nat_lt 0 (length message)) (nat_le (length message) (part_size * most_segments format)) is in
    (ltb-true 0 (length message) parts.0, leb-true (length message) (part_size * most_segments format) parts.1)

module _ (b : Beginning) (low : b.first ≤ never_used) (before acts : WireActs Purpose) (old w : WireState Purpose) (gives : List Give) (so_far : Handed b before acts old w gives) where
  -- a number is left
  left_for : (to : ℕ) → is_up w to ≡ true → (next_number w to == never_used) ≡ false → next_number w to < never_used
  left_for to up differs =
      let f = found_by (λ (p : PeerState Purpose). not p.exchange.stopped) w w.own w.format w.peers to refl up in
      let at = peer_is w w.own w.format w.peers to (place_of w.own to) f.peer refl f.differs refl f.there in
      let stood = found_stands b acts w to f.peer f.differs f.there so_far.stands in
      let next = ap (of_peer 0 (λ (p : PeerState Purpose). p.exchange.next)) at ∙ following.next_is f.peer.exchange b.first b.format (acts_at (pair_of b) to acts) stood.pair in
      let most = few_made b.first b.format (acts_at (pair_of b) to acts) low stood.pair.lawful in
      let other : next_number w to ≢ never_used = eqb-false (next_number w to) never_used differs in
      omega (arith, next, most, other)

  call_on : (to : ℕ) (message : List ℕ) (purpose : Purpose) → IsHanded b before (with_all acts (handed_by w (made.Call to message purpose))) old (hand_over w gives (made.Call to message purpose))
  call_on to message purpose = by_test (is_up w to && is_sendable w.format message) refl
    where
      next : WireState Purpose
      next = called_to w to message purpose

      by_number : is_up w to ≡ true → is_sendable w.format message ≡ true → (none : Bool) → (next_number w to == never_used) ≡ none
          → IsHanded b before (followed_by acts (CallTo to message purpose)) old (if none then spent to else sent next (gives ++ gives_of (sent_by_call w to message)))
      by_number up sendable true is = tt
      by_number up sendable false is =
          let may = can_send w.format message sendable in
          let left = left_for to up is in
          record {
            stands = call_stands b acts w to message purpose up may left so_far.stands next refl;
            all = more_all b before acts (CallTo to message purpose) gives (sent_by_call w to message) so_far.all
                (ap (λ (x : Batch). x.datagrams) (call_owes b acts w to message purpose up may left so_far.stands (sent_by_call w to message).datagrams refl))
                (λ other differs. call_elsewhere b acts to other message purpose differs);
            counted = (let there = peer_there b acts w (λ (p : PeerState Purpose). not p.exchange.stopped) to so_far.stands up in
                more_counted b before acts (CallTo to message purpose) gives (sent_by_call w to message) so_far.counted
                (ap (λ (x : Batch). x.datagrams) (call_owes b acts w to message purpose up may left so_far.stands (sent_by_call w to message).datagrams refl)) there.0 there.1);
            up = λ node. up_called w to node message purpose ∙ so_far.up node;
            format = so_far.format;
          }

      by_test : (test : Bool) → (is_up w to && is_sendable w.format message) ≡ test
          → IsHanded b before (with_all acts (if test then CallTo to message purpose ∷ [] else [])) old
          (if test then (if next_number w to == never_used then spent to else sent next (gives ++ gives_of (sent_by_call w to message))) else sent w gives)
      by_test true is = (let parts = and_parts (is_up w to) (is_sendable w.format message) is in by_number parts.0 parts.1 (next_number w to == never_used) refl)
      by_test false is = so_far

  answer_on : (caller : Caller) (message : List ℕ) → IsHanded b before (with_all acts (handed_by w (made.Answer caller message))) old (hand_over w gives (made.Answer caller message))
  answer_on caller message = by_test (is_sendable w.format message) refl
    where
      next : WireState Purpose
      next = change_peer (λ p. peer_answered p caller.number message) w caller.node

      sends : Batch
      sends = sent_to (λ p. datagrams_of_return p.exchange caller.number message) w caller.node

      none : Batch
      none = record { to = caller.node; datagrams = [] }

      owes_none : is_awaited w caller ≡ false → (other : ℕ) → other ≢ b.own → other ≤ b.nodes - 1 → (owed_to b acts (AnswerTo caller message) other).datagrams ≡ []
      owes_none is other not_own within = elim (eqb_tells other caller.node) [
        | inl same ↦
            let stands = so_far.stands in
            let own : caller.node ≢ w.own = λ here. not_own (same.1 ∙ here ∙ stands.own) in
            let low_ : caller.node ≤ length w.peers = omega (arith, within, same.1, stands.nodes) in
            ap (λ n. (owed_to b acts (AnswerTo caller message) n).datagrams) same.1
            ∙ ap (λ (x : Batch). x.datagrams) (sym (unawaited_owes b acts w caller message so_far.stands [] (own, low_) is refl))
        | inr differ ↦ answer_elsewhere b acts caller other message differ.1
      ]

      by_call : IsSendable w.format message → (awaited : Bool) → is_awaited w caller ≡ awaited
          → Handed b before (followed_by acts (AnswerTo caller message)) old (if awaited then next else w) (gives ++ gives_of (if awaited then sends else none))
      by_call may true is =
          record {
            stands = answer_stands b acts w caller message so_far.stands next may is (sym (ap (λ (x : Bool). if x then next else w) is));
            all = more_all b before acts (AnswerTo caller message) gives sends so_far.all
                (ap (λ (x : Batch). x.datagrams) (answer_owes b acts w caller message so_far.stands sends.datagrams is (sym (ap (λ (x : Bool). let y : Batch = if x then sends else none in y.datagrams) is))))
                (λ other differs. answer_elsewhere b acts caller other message differs);
            counted = (let there = peer_there b acts w (λ (p : PeerState Purpose). awaits_return p.exchange caller.number) caller.node so_far.stands is in
                more_counted b before acts (AnswerTo caller message) gives sends so_far.counted
                (ap (λ (x : Batch). x.datagrams) (answer_owes b acts w caller message so_far.stands sends.datagrams is (sym (ap (λ (x : Bool). let y : Batch = if x then sends else none in y.datagrams) is)))) there.0 there.1);
            up = λ node. up_answered w caller message node ∙ so_far.up node;
            format = so_far.format;
          }
      by_call may false is =
          record {
            stands = unawaited_stands b acts w caller message so_far.stands is;
            all = none_all b before acts (AnswerTo caller message) gives so_far.all (owes_none is);
            counted = none_counted b before acts (AnswerTo caller message) gives so_far.counted;
            up = so_far.up;
            format = so_far.format;
          }

      by_test : (test : Bool) → is_sendable w.format message ≡ test
          → IsHanded b before (with_all acts (if test then AnswerTo caller message ∷ [] else [])) old
          (if test then sent (answer_caller w caller message) (gives ++ gives_of (sent_by_answer w caller message)) else sent w gives)
      by_test true is = by_call (can_send w.format message is) (is_awaited w caller) refl
      by_test false is = so_far

-- ---- all of them

handed_alike : (b : Beginning) (before acts : WireActs Purpose) (old w : WireState Purpose) (gives : List Give) (e : Effect) → Handed b before acts old w gives → handed_by w e ≡ handed_by old e
handed_alike b before acts old w gives (made.Call to message purpose) so_far =
    λ i. if so_far.up to i && is_sendable (so_far.format i) message then CallTo to message purpose ∷ [] else []
handed_alike b before acts old w gives (made.Answer caller message) so_far =
    λ i. if is_sendable (so_far.format i) message then AnswerTo caller message ∷ [] else []

one_on : (b : Beginning) → b.first ≤ never_used → (before acts : WireActs Purpose) (old w : WireState Purpose) (gives : List Give) (e : Effect) → Handed b before acts old w gives
    → IsHanded b before (with_all acts (handed_by old e)) old (hand_over w gives e)
one_on b low before acts old w gives (made.Call to message purpose) so_far =
    subst (λ l. IsHanded b before (with_all acts l) old (hand_over w gives (made.Call to message purpose))) (handed_alike b before acts old w gives (made.Call to message purpose) so_far)
    (call_on b low before acts old w gives so_far to message purpose)
one_on b low before acts old w gives (made.Answer caller message) so_far =
    subst (λ l. IsHanded b before (with_all acts l) old (hand_over w gives (made.Answer caller message))) (handed_alike b before acts old w gives (made.Answer caller message) so_far)
    (answer_on b low before acts old w gives so_far caller message)

spent_on : (b : Beginning) (before acts : WireActs Purpose) (old : WireState Purpose) (node : ℕ) (effects : List Effect) → IsHanded b before acts old (all_handed (spent node) effects)
spent_on b before acts old node [] = tt
spent_on b before acts old node (e ∷ effects) = spent_on b before acts old node effects

all_on : (b : Beginning) → b.first ≤ never_used → (before acts : WireActs Purpose) (old : WireState Purpose) (s : Sending) (effects : List Effect) → IsHanded b before acts old s
    → IsHanded b before (with_all acts (flat_map (handed_by old) effects)) old (all_handed s effects)
all_on b low before acts old s [] so_far = so_far
all_on b low before acts old (spent node) (e ∷ effects) so_far = spent_on b before (with_all acts (flat_map (handed_by old) (e ∷ effects))) old node effects
all_on b low before acts old (sent w gives) (e ∷ effects) so_far =
    subst (λ x. IsHanded b before x old (all_handed (hand_over w gives e) effects)) (sym (with_both acts (handed_by old e) (flat_map (handed_by old) effects)))
    (all_on b low before (with_all acts (handed_by old e)) old (hand_over w gives e) effects (one_on b low before acts old w gives e so_far))

-- ---- a step

-- the pairs of a node stand for acts, and what these have sent was sent before, or is given
pub record Gives {M : Type 0} (b : Beginning) (before acts : WireActs Purpose) (r : NodeState M × Outputs) : Type 0 where
  pub stands : WireStands r.0.wire b acts
  pub all : AllGiven b before acts r.1.gives
  pub counted : AllCounted b before acts r.1.gives

module _ {M : Type 0} where
  ended_gives : (b : Beginning) (before acts : WireActs Purpose) (old : WireState Purpose) (n : NodeState M) (m : Made M) (s : Sending) (r : NodeState M × Outputs)
      → IsHanded b before acts old s → end_step n m.came s ≡ Ok r → Gives b before acts r
  ended_gives b before acts old n m (sent w gives) r on is = subst (Gives b before acts) (same_end _ r is) (record { stands = on.stands; all = on.all; counted = on.counted })
  ended_gives b before acts old n m (spent node) r on is = absurd (let clash : ◌≡◌ {A = Result (NodeState M × Outputs) ℕ} (Err node) (Ok r) = is in cc)

  concluded_gives : (b : Beginning) → b.first ≤ never_used → (before acts : WireActs Purpose) (n : NodeState M) (gives : List Give) (m : Made M) (r : NodeState M × Outputs)
      → WireStands n.wire b acts → AllGiven b before acts gives → AllCounted b before acts gives → conclude_step n gives m.came ≡ Ok r → Gives b before (with_all acts (flat_map (handed_by n.wire) m.came.effects)) r
  concluded_gives b low before acts n gives m r stands all counted is =
      ended_gives b before (with_all acts (flat_map (handed_by n.wire) m.came.effects)) n.wire n m (all_handed (sent n.wire gives) m.came.effects) r
      (all_on b low before acts n.wire (sent n.wire gives) m.came.effects (record { stands = stands; all = all; counted = counted; up = λ node. refl; format = refl }))
      is

-- before anything is given
same_all : (b : Beginning) (acts : WireActs Purpose) → AllGiven b acts acts []
same_all b acts to bytes not_own within given = inl given

none_yet_counted : (b : Beginning) (acts : WireActs Purpose) → AllCounted b acts acts []
none_yet_counted b acts = omega arith

module _ (b : Beginning) (acts : WireActs Purpose) (w : WireState Purpose) (from : ℕ) (other : IsOther w from) (stands : WireStands w b acts) where
  datagram_stands : (segment : Result Piece SegmentFault) → ((s : Piece) → segment ≡ Ok s → IsSegment s) → WireStands (after_datagram w from segment) b (with_all acts (acts_of_datagram from segment))
  datagram_stands (Ok s) is = came_stands b acts w from s s other stands refl (is s refl) (after_datagram w from (Ok s)) refl
  datagram_stands (Err fault) is = stands

  datagram_all : (segment : Result Piece SegmentFault) → ((s : Piece) → segment ≡ Ok s → IsSegment s) → AllGiven b acts (with_all acts (acts_of_datagram from segment)) (gives_of (sent_by_datagram w from segment))
  datagram_all (Ok s) is =
      more_all b acts acts (CameFrom from s) [] (sent_by_datagram w from (Ok s)) (same_all b acts)
      (ap (λ (x : Batch). x.datagrams) (came_owes b acts w from s s other stands refl (is s refl)))
      (λ node differs. segment_elsewhere b acts from node s differs)
  datagram_all (Err fault) is = same_all b acts

  datagram_counted : (segment : Result Piece SegmentFault) → ((s : Piece) → segment ≡ Ok s → IsSegment s) → AllCounted b acts (with_all acts (acts_of_datagram from segment)) (gives_of (sent_by_datagram w from segment))
  datagram_counted (Ok s) is =
      let own = stands.own in
      let some = stands.one in
      let nodes = stands.nodes in
      let le = other.1 in
      more_counted b acts acts (CameFrom from s) [] (sent_by_datagram w from (Ok s)) (none_yet_counted b acts)
      (ap (λ (x : Batch). x.datagrams) (came_owes b acts w from s s other stands refl (is s refl)))
      (λ same. other.0 (same ∙ sym own)) (omega (arith, some, nodes, le))
  datagram_counted (Err fault) is = none_yet_counted b acts

module _ {M : Type 0} (declared : M → Signature) (turn : M → List ValueTree → ℕ → List ValueTree → List Outcome → NextTurn) where
  -- a datagram comes to a node
  pub came_gives : (b : Beginning) → b.first ≤ never_used → (acts : WireActs Purpose) (at from : ℕ) (bytes : List ℕ) (n : NodeState M) (r : NodeState M × Outputs)
      → WireStands n.wire b acts → IsOther n.wire from → ((s : Piece) → reading bytes ≡ Ok s → IsSegment s) → step_node declared turn at (Datagram from bytes) n ≡ Ok r
      → Gives b acts (with_all acts (acts_in declared turn at (Datagram from bytes) n)) r
  came_gives b low acts at from bytes n r stands other read is =
      let m = hears declared turn n.deployment at from (heard_from n.wire from (reading bytes)) n.acting in
      let wire = after_datagram n.wire from (reading bytes) in
      subst (λ x. Gives b acts x r) (sym (with_both acts (acts_of_datagram from (reading bytes)) _))
      (concluded_gives b low acts (with_all acts (acts_of_datagram from (reading bytes))) (record n { wire = wire; acting = m.acting }) (gives_of (sent_by_datagram n.wire from (reading bytes))) m r
      (datagram_stands b acts n.wire from other stands (reading bytes) read) (datagram_all b acts n.wire from other stands (reading bytes) read) (datagram_counted b acts n.wire from other stands (reading bytes) read) is)

  -- a node boots
  pub boot_gives : (first : M → List ValueTree) (d : Deployment) (hosted : Option M) (node : ℕ) (r : NodeState M × Outputs) → node < length d.nodes → boot_node declared turn first d hosted node ≡ Ok r
      → Gives (beginning_of d node) begun (with_all begun (acts_at_boot declared turn first d hosted node)) r
  boot_gives first d hosted node r within is =
      let m = made_at_boot declared turn first d (home_of d node) hosted in
      concluded_gives (beginning_of d node) (omega arith) begun begun (record { deployment = d; wire = fresh_wire d node; acting = m.acting; dropped = 0 }) [] m r
      (stands_begun (beginning_of d node) (fresh_wire d node) within refl) (same_all (beginning_of d node) begun) (none_yet_counted (beginning_of d node) begun) is
