-- Each datagram that a node gives has data, but for one at most by a datagram with data that comes.
use Rattle.std.proofs.Common.{◌≡◌, ℕ, ◌+◌, ◌-◌, ◌≤◌, Bool, true, false, not, ◌&&◌, List, [], ◌∷◌, ◌++◌, length, map, drop, Option, None, Some, Result, Ok, Err, refl, sym, ap, subst, ◌∙◌, arith, length-append}
use Rattle.std.proofs.lemmas.List.{length-map}
use Rattle.std.specs.Prelude.{slice_index, ◌==◌, if◌then◌else◌}
use Rattle.circus_value.specs.ValueTree.{ValueTree}
use Rattle.circus_value.specs.declared.outcome.Outcome.{Outcome}
use Rattle.circus_segment.specs.Segment.{Piece, spelling, is_acknowledgement, is_second, two_at, four_at, fields_of, refusal, or_refused, reading}
use Rattle.circus_segment.specs.declared.fault.SegmentFault.{SegmentFault}
use Rattle.circus_segment.specs.Cut.{Outgoing, whole}
use Rattle.circus_exchange.specs.declared.exchange.Exchange.{Exchange}
use Rattle.circus_exchange.specs.Inbox.{acknowledgement_for, completes, count_with}
use Rattle.circus_exchange.specs.Outbox.{whole_of, outgoing_at}
use Rattle.circus_exchange.specs.Exchange.{message_out, takes, sends_at_once, lets_go, in_flight_after, total_of, datagrams_of_call, datagrams_of_return, datagrams_let_go, datagrams_of_taken, datagrams_after}
use Rattle.circus_wire.specs.declared.delivery.Batch.{Batch}
use Rattle.circus_wire.specs.Wire.{PeerState, WireState, of_peer, peer_at, is_up, is_awaited, next_number, called_to, answer_caller, sent_by_call, sent_by_answer, after_datagram, heard_from, sent_by_datagram}
use Rattle.circus_exchange.specs.Limits.{never_used}
use Rattle.circus_collate.specs.declared.deployment.Deployment.{Deployment}
use Rattle.circus_model.specs.NextTurn.{NextTurn}
use Rattle.circus_model.specs.declared.signature.Signature.{Signature}
use Rattle.circus_member_rules.specs.declared.occurrence.Purpose.{Purpose}
use Rattle.circus_member_rules.specs.declared.occurrence.Effect.{Effect}
use Rattle.circus_member_rules.specs.declared.occurrence.Effect.TheVariants as made
use Rattle.circus_node.specs.declared.event.Event.TheVariants.{Datagram}
use Rattle.circus_node.specs.declared.event.Give.{Give}
use Rattle.circus_node.specs.declared.event.Outputs.{Outputs}
use Rattle.circus_node.specs.Booting.{boot_node, fresh_wire, home_of, made_at_boot}
use Rattle.circus_node.specs.NodeState.{NodeState}
use Rattle.circus_node.specs.Making.{Made, hears}
use Rattle.circus_node.specs.Sending.{Sending, sent, spent, give_to, gives_of, is_sendable, hand_over, all_handed}
use Rattle.circus_node.specs.Step.{end_step, conclude_step, step_node}
use Rattle.circus_world_theory.proofs.Given.{same_end}
use Rattle.circus_world_theory.proofs.Quiescence.Amounts.{is_data, datas, datas-append, first_long, first_datas}
use Rattle.circus_world_theory.proofs.Quiescence.Sums.{one, weigh, weigh-append}

-- how many datagrams with data are among what is given
abbrev pub data_in : List Give → ℕ
data_in gives = weigh (λ (g : Give). one (is_data g.bytes)) gives

pub data_of_batch : (to : ℕ) (l : List (List ℕ)) → data_in (map (give_to to) l) ≡ datas l
data_of_batch to [] = refl
data_of_batch to (bytes ∷ l) = (let rest = data_of_batch to l in omega (arith, rest))

-- all but so many of these have data
abbrev FewBut : ℕ → List (List ℕ) → Type 0
FewBut most l = length l ≤ datas l + most

none_but : (most : ℕ) → FewBut most []
none_but most = omega arith

whole_but : (m : Outgoing) → FewBut 0 (whole m)
whole_but m = (let long = first_long m m.total in let all = first_datas m m.total in omega (arith, long, all))

both_but : (a b : ℕ) (xs ys : List (List ℕ)) → FewBut a xs → FewBut b ys → FewBut (a + b) (xs ++ ys)
both_but a b xs ys one_ other =
    let long = length-append xs ys in
    let all = datas-append xs ys in
    omega (arith, one_, other, long, all)

-- ---- a pair

call_but : (e : Exchange) (message : List ℕ) → FewBut 0 (datagrams_of_call e message)
unfolding datagrams_of_call
call_but e message = by_test (sends_at_once e)
  where
    by_test : (b : Bool) → FewBut 0 (if b then whole (message_out e 0 e.next message) else [])
    by_test true = whole_but (message_out e 0 e.next message)
    by_test false = none_but 0

return_but : (e : Exchange) (call : ℕ) (message : List ℕ) → FewBut 0 (datagrams_of_return e call message)
unfolding datagrams_of_return
return_but e call message = whole_but (message_out e 1 call message)

let_go_but : (e : Exchange) (in_flight : ℕ) → FewBut 0 (datagrams_let_go e in_flight)
unfolding datagrams_let_go
let_go_but e in_flight = by_test (lets_go e in_flight)
  where
    by_message : (o : Option Outgoing) → FewBut 0 (whole_of o)
    by_message None = none_but 0
    by_message (Some m) = whole_but m

    by_test : (b : Bool) → FewBut 0 (if b then whole_of (outgoing_at e.calls e.format 0 e.sent) else [])
    by_test true = by_message (outgoing_at e.calls e.format 0 e.sent)
    by_test false = none_but 0

acknowledged_but : (stopped : Bool) (s : Piece) (complete : Bool) (count : ℕ) → FewBut 1 (acknowledgement_for stopped s complete count)
unfolding acknowledgement_for
acknowledged_but stopped s complete count = by_test _
  where
    by_test : (b : Bool) → FewBut 1 (if b then spelling (record { format = s.format; kind = s.kind; control = 1; total = s.total; number = count; call = s.call; part = [] }) ∷ [] else [])
    by_test true = omega arith
    by_test false = none_but 1

taken_but : (e : Exchange) (s : Piece) → FewBut (one (not (is_acknowledgement s))) (datagrams_of_taken e s)
unfolding datagrams_of_taken
taken_but e s = by_control (is_acknowledgement s)
  where
    by_call : (b : Bool) → FewBut 0 (if b then datagrams_let_go e (in_flight_after e s.call s.number) else [])
    by_call true = let_go_but e (in_flight_after e s.call s.number)
    by_call false = none_but 0

    by_kind : (b : Bool) → FewBut 1 (if b then acknowledgement_for e.stopped s (completes e.arriving_calls s) (count_with e.arriving_calls s)
        else acknowledgement_for e.stopped s (completes e.arriving_returns s) (count_with e.arriving_returns s) ++ datagrams_let_go e (in_flight_after e s.call (total_of e s.call)))
    by_kind true = acknowledged_but e.stopped s (completes e.arriving_calls s) (count_with e.arriving_calls s)
    by_kind false = both_but 1 0 _ _ (acknowledged_but e.stopped s (completes e.arriving_returns s) (count_with e.arriving_returns s)) (let_go_but e (in_flight_after e s.call (total_of e s.call)))

    by_control : (b : Bool) → FewBut (one (not b)) (if b then (if s.kind == 0 then datagrams_let_go e (in_flight_after e s.call s.number) else [])
        else (if s.kind == 0 then acknowledgement_for e.stopped s (completes e.arriving_calls s) (count_with e.arriving_calls s)
        else acknowledgement_for e.stopped s (completes e.arriving_returns s) (count_with e.arriving_returns s) ++ datagrams_let_go e (in_flight_after e s.call (total_of e s.call))))
    by_control true = by_call (s.kind == 0)
    by_control false = by_kind (s.kind == 0)

after_but : (e : Exchange) (s : Piece) → FewBut (one (not (is_acknowledgement s))) (datagrams_after e s)
after_but e s = by_test (takes e s)
  where
    by_test : (b : Bool) → FewBut (one (not (is_acknowledgement s))) (if b then datagrams_of_taken e s else [])
    by_test true = taken_but e s
    by_test false = none_but (one (not (is_acknowledgement s)))

-- ---- a datagram that is read

either_control : (b : Bool) (p q : Piece) (c : ℕ) → p.control ≡ c → q.control ≡ c → (if b then p else q).control ≡ c
either_control true p q c one_ other = one_
either_control false p q c one_ other = other

control_there : (bytes : List ℕ) → (fields_of bytes).control ≡ slice_index bytes 1
unfolding fields_of
control_there bytes =
    either_control (is_second bytes)
    (record { format = 2; kind = slice_index bytes 0 - 2; control = slice_index bytes 1; total = two_at bytes 2; number = two_at bytes 4; call = four_at bytes 6; part = drop 10 bytes })
    (record { format = 1; kind = slice_index bytes 0; control = slice_index bytes 1; total = slice_index bytes 2; number = slice_index bytes 3; call = four_at bytes 4; part = drop 8 bytes })
    (slice_index bytes 1) refl refl

read_control : (bytes : List ℕ) (s : Piece) → reading bytes ≡ Ok s → is_data bytes ≡ not (is_acknowledgement s)
read_control bytes s read = ap (λ c. not (c == 1)) (sym (control_there bytes) ∙ by_refusal (refusal bytes) read)
  where
    same_piece : (p : Piece) → ◌≡◌ {A = Result Piece SegmentFault} (Ok p) (Ok s) → p ≡ s
    same_piece p h = cc

    by_refusal : (o : Option SegmentFault) → or_refused o (fields_of bytes) ≡ Ok s → (fields_of bytes).control ≡ s.control
    by_refusal None is = ap (λ (p : Piece). p.control) (same_piece (fields_of bytes) is)
    by_refusal (Some fault) is = absurd (let clash : ◌≡◌ {A = Result Piece SegmentFault} (Err fault) (Ok s) = is in cc)

datagram_but : (w : WireState Purpose) (from : ℕ) (bytes : List ℕ) (segment : Result Piece SegmentFault) → reading bytes ≡ segment → FewBut (one (is_data bytes)) (sent_by_datagram w from segment).datagrams
datagram_but w from bytes (Err fault) read = none_but (one (is_data bytes))
datagram_but w from bytes (Ok s) read = by_peer (peer_at w from)
  where
    by_peer : (o : Option (PeerState Purpose)) → FewBut (one (is_data bytes)) (of_peer [] (λ p. datagrams_after p.exchange s) o)
    by_peer None = none_but (one (is_data bytes))
    by_peer (Some p) = subst (λ b. FewBut (one b) (datagrams_after p.exchange s)) (sym (read_control bytes s read)) (after_but p.exchange s)

-- ---- what is handed over

abbrev GivesBut : ℕ → List Give → Type 0
GivesBut most gives = length gives ≤ data_in gives + most

batch_but : (most more : ℕ) (gives : List Give) (batch : Batch) → GivesBut most gives → FewBut more batch.datagrams → GivesBut (most + more) (gives ++ gives_of batch)
batch_but most more gives batch few here =
    let long = length-append gives (gives_of batch) in
    let all = weigh-append (λ (g : Give). one (is_data g.bytes)) gives (gives_of batch) in
    let long_here = length-map batch.datagrams (give_to batch.to) in
    let all_here = data_of_batch batch.to batch.datagrams in
    omega (arith, few, here, long, all, long_here, all_here)

abbrev SendingBut : ℕ → Sending → Type 0
SendingBut most (sent w gives) = GivesBut most gives
SendingBut most (spent node) = Unit {0}

module _ (most : ℕ) where
  quiet_batch : (gives : List Give) (batch : Batch) → GivesBut most gives → FewBut 0 batch.datagrams → GivesBut most (gives ++ gives_of batch)
  quiet_batch gives batch few here = (let both = batch_but most 0 gives batch few here in omega (arith, both))

  handed_but : (w : WireState Purpose) (gives : List Give) (e : Effect) → GivesBut most gives → SendingBut most (hand_over w gives e)
  handed_but w gives (made.Call to message purpose) few = by_test (is_up w to && is_sendable w.format message) (next_number w to == never_used)
    where
      by_peer : (o : Option (PeerState Purpose)) → FewBut 0 (of_peer [] (λ p. datagrams_of_call p.exchange message) o)
      by_peer None = none_but 0
      by_peer (Some p) = call_but p.exchange message

      by_test : (b c : Bool) → SendingBut most (if b then (if c then spent to else sent (called_to w to message purpose) (gives ++ gives_of (sent_by_call w to message))) else sent w gives)
      by_test true true = tt
      by_test true false = quiet_batch gives (sent_by_call w to message) few (by_peer (peer_at w to))
      by_test false c = few
  handed_but w gives (made.Answer caller message) few = by_test (is_sendable w.format message)
    where
      by_peer : (o : Option (PeerState Purpose)) → FewBut 0 (of_peer [] (λ p. datagrams_of_return p.exchange caller.number message) o)
      by_peer None = none_but 0
      by_peer (Some p) = return_but p.exchange caller.number message

      by_awaited : (b : Bool) → FewBut 0 (let batch : Batch = (if b then record { to = caller.node; datagrams = of_peer [] (λ (p : PeerState Purpose). datagrams_of_return p.exchange caller.number message) (peer_at w caller.node) } else record { to = caller.node; datagrams = [] }) in batch.datagrams)
      by_awaited true = by_peer (peer_at w caller.node)
      by_awaited false = none_but 0

      by_test : (b : Bool) → SendingBut most (if b then sent (answer_caller w caller message) (gives ++ gives_of (sent_by_answer w caller message)) else sent w gives)
      by_test true = quiet_batch gives (sent_by_answer w caller message) few (by_awaited (is_awaited w caller))
      by_test false = few

  spent_but : (node : ℕ) (effects : List Effect) → SendingBut most (all_handed (spent node) effects)
  spent_but node [] = tt
  spent_but node (e ∷ effects) = spent_but node effects

  all_but : (s : Sending) (effects : List Effect) → SendingBut most s → SendingBut most (all_handed s effects)
  all_but s [] few = few
  all_but (sent w gives) (e ∷ effects) few = all_but (hand_over w gives e) effects (handed_but w gives e few)
  all_but (spent node) (e ∷ effects) few = spent_but node effects

  module _ {M : Type 0} where
    concluded_but : (n : NodeState M) (gives : List Give) (m : Made M) (r : NodeState M × Outputs) → GivesBut most gives → conclude_step n gives m.came ≡ Ok r → GivesBut most r.1.gives
    concluded_but n gives m r few is = by_sending (all_handed (sent n.wire gives) m.came.effects) (all_but (sent n.wire gives) m.came.effects few) is
      where
        by_sending : (s : Sending) → SendingBut most s → end_step n m.came s ≡ Ok r → GivesBut most r.1.gives
        by_sending (sent w gives_) few_ is_ = subst (λ (x : NodeState M × Outputs). GivesBut most x.1.gives) (same_end _ r is_) few_
        by_sending (spent node) few_ is_ = absurd (let clash : ◌≡◌ {A = Result (NodeState M × Outputs) ℕ} (Err node) (Ok r) = is_ in cc)

module _ {M : Type 0} (declared : M → Signature) (turn : M → List ValueTree → ℕ → List ValueTree → List Outcome → NextTurn) where
  -- a datagram comes to a node
  pub came_but : (at from : ℕ) (bytes : List ℕ) (n : NodeState M) (r : NodeState M × Outputs) → step_node declared turn at (Datagram from bytes) n ≡ Ok r
      → length r.1.gives ≤ data_in r.1.gives + one (is_data bytes)
  came_but at from bytes n r is =
      let m = hears declared turn n.deployment at from (heard_from n.wire from (reading bytes)) n.acting in
      let begun = batch_but 0 (one (is_data bytes)) [] (sent_by_datagram n.wire from (reading bytes)) (omega arith) (datagram_but n.wire from bytes (reading bytes) refl) in
      concluded_but (one (is_data bytes)) (record n { wire = after_datagram n.wire from (reading bytes); acting = m.acting }) (gives_of (sent_by_datagram n.wire from (reading bytes))) m r (omega (arith, begun)) is

  -- a node boots
  pub boot_but : (first : M → List ValueTree) (d : Deployment) (hosted : Option M) (node : ℕ) (r : NodeState M × Outputs) → boot_node declared turn first d hosted node ≡ Ok r
      → length r.1.gives ≤ data_in r.1.gives
  boot_but first d hosted node r is =
      let m = made_at_boot declared turn first d (home_of d node) hosted in
      let few = concluded_but 0 (record { deployment = d; wire = fresh_wire d node; acting = m.acting; dropped = 0 }) [] m r (omega arith) is in
      omega (arith, few)
