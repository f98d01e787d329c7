-- After every lawful list of acts an end sends what is owed.
use Rattle.std.proofs.Common.{◌≡◌, ◌≢◌, ℕ, ◌+◌, ◌^◌, ◌<◌, ◌≤◌, Bool, true, false, cond, not, ◌&&◌, eqb, ltb, List, [], ◌∷◌, ◌++◌, Option, None, Some, refl, sym, ap, ◌∙◌, inl, inr, arith}
use Rattle.std.specs.Prelude.{is_some, flat_map}
use Rattle.std.specs.FinMap.{get, entries}
use Rattle.std.proofs.lemmas.List.{append-nil}
use Rattle.std.proofs.lemmas.Bool.{and_parts, ne_eqb, eq-eqb, eqb-true, lt-ltb, le-ltb, cases_lt}
use Rattle.std.proofs.lemmas.Bool.Decides.{eqb_tells}
use Rattle.circus_exchange.specs.declared.progress.Progress.{Progress}
use Rattle.circus_exchange.specs.Outbox.{HandedOver}
use Rattle.circus_exchange.specs.declared.exchange.Exchange.{Exchange}
use Rattle.circus_segment.specs.Segment.{Piece, IsSegment, is_acknowledgement, spelling}
use Rattle.circus_segment.specs.Cut.{segment_count, segment_of, whole}
use Rattle.circus_exchange.specs.Inbox.{acknowledgement}
use Rattle.circus_exchange.specs.Outbox.{on_its_way, outgoing_at, whole_of, probe, reminder_of, reminder, reminders}
use Rattle.circus_exchange.specs.Exchange.{start, send_call, message_out, datagrams_of_call, datagrams_of_return, takes, sends_at_once, let_go, lets_go, datagrams_let_go, in_flight_after, call_reached, return_reached, total_of, end_call, return_added, after_taken, datagrams_of_taken, datagrams_after, datagrams_of_tick}
use Rattle.circus_pair.specs.Taken.{total_in, has_arrived}
use Rattle.circus_pair.specs.Acts.{Act, Call, Return, Came, Tick, Acts, more, end_after, taken_by, acknowledged_by}
use Rattle.circus_pair.specs.Handed.{calls_made, call_at, return_at, reached_in, sent_below, agrees_with, fits_with}
use Rattle.circus_pair.specs.Lawful.{AreLawful, is_stopped_after}
use Rattle.circus_pair.specs.Window.{is_all, call_is_whole, return_is_whole}
use Rattle.circus_pair.specs.Sending.{is_sent, takes_after, in_order, whole_call, let_go_by, first_open, call_again, return_again, again_after, outputs}
use Rattle.circus_pair.proofs.Flowing.{Flows, flows_after, call_made, made_call, sent_after}
use Rattle.circus_pair.proofs.Handing.{taken_after, told_out, format_stays}
use Rattle.circus_pair.proofs.Keeping.{kept_after, kept_call, kept_return, IsWithin, none_arrived, lawful_acts, lawful_once, stands_lawful, hands_lawful}
use Rattle.circus_pair.proofs.Orders.{order_none, order_alike, order_upto, order_one, found, map_in_order}
use Rattle.circus_pair.proofs.Standing.{call_acknowledged, return_acknowledged}
use Rattle.circus_pair.proofs.Taking.{return_is, after_call_acknowledged, after_return_acknowledged, after_call_segment, after_return_segment}

-- ---- which calls an act sends

-- a call that was sent before is not sent now
sent_before : (first : ℕ) (acts next : Acts) (sent limit call : ℕ) → sent ≤ first + calls_made acts → call < sent → (sent_below limit first next call && not (sent_below sent first acts call)) ≡ false
sent_before first acts next sent limit call high less =
    elim (is_some (call_at first next call)) as (λ b. is_some (call_at first next call) ≡ b → ((ltb call limit && b) && not (sent_below sent first acts call)) ≡ false) [
      | true ↦ λ some. (let here = made_call first next call some in
          ap (λ b. (ltb call limit && true) && not b) (ap (λ b. b && is_some (call_at first acts call)) (lt-ltb call sent less) ∙ call_made first acts call here.0 (omega arith))
          ∙ nothing (ltb call limit && true))
      | false ↦ λ none. none_of (ltb call limit) (not (sent_below sent first acts call))
    ] refl
  where
    nothing : (b : Bool) → (b && false) ≡ false
    nothing true = refl
    nothing false = refl

    none_of : (a b : Bool) → ((a && false) && b) ≡ false
    none_of true b = refl
    none_of false b = refl

-- a call that still waits is not sent now
sent_later : (first : ℕ) (acts next : Acts) (sent limit call : ℕ) → limit ≤ call → (sent_below limit first next call && not (sent_below sent first acts call)) ≡ false
sent_later first acts next sent limit call le = ap (λ b. (b && is_some (call_at first next call)) && not (sent_below sent first acts call)) (le-ltb call limit le)

-- the first call that waited is sent now where it waits no more
sent_now : (first : ℕ) (acts next : Acts) (sent : ℕ) → first ≤ sent → sent < first + calls_made next → (sent_below (sent + 1) first next sent && not (sent_below sent first acts sent)) ≡ true
sent_now first acts next sent low high =
    ap (λ b. (b && is_some (call_at first next sent)) && not (sent_below sent first acts sent)) (lt-ltb sent (sent + 1) (omega arith))
    ∙ ap (λ b. b && not (sent_below sent first acts sent)) (call_made first next sent low high)
    ∙ ap (λ b. not (b && is_some (call_at first acts sent))) (le-ltb sent sent (omega arith))

-- what an act lets go: the first call that waited, or none
gone : (first format : ℕ) (acts : Acts) (act : Act) (went : Bool) → AreLawful first format (more acts act) → (end_after (start first format) (more acts act)).sent ≡ cond went ((end_after (start first format) acts).sent + 1) (end_after (start first format) acts).sent → in_order (let_go_by (start first format) acts act) (first + calls_made (more acts act)) ≡ cond went (whole_call (start first format) (end_after (start first format) acts).sent (call_at first (more acts act) (end_after (start first format) acts).sent)) []
unfolding let_go_by
gone first format acts act went lawful is =
    let b = start first format in
    let e = end_after b acts in
    let f = end_after b (more acts act) in
    let flows = flows_after first format acts lawful.0 in
    let flows_next = flows_after first format (more acts act) lawful in
    let low : first ≤ e.sent = flows.low in
    let high : e.sent ≤ e.next = flows.high in
    let next : e.next ≡ first + calls_made acts = flows.next in
    let high_next : f.sent ≤ f.next = flows_next.high in
    let next_next : f.next ≡ first + calls_made (more acts act) = flows_next.next in
    let test : (k : ℕ) → (is_sent b (more acts act) k && not (is_sent b acts k)) ≡ (sent_below f.sent first (more acts act) k && not (sent_below e.sent first acts k)) = λ k. ap (λ x. x && not (is_sent b acts k)) (sym (sent_after first format (more acts act) k lawful)) ∙ ap (λ x. sent_below f.sent first (more acts act) k && not x) (sym (sent_after first format acts k lawful.0)) in
    let off : (k : ℕ) → (sent_below f.sent first (more acts act) k && not (sent_below e.sent first acts k)) ≡ false → let_go_by b acts act k ≡ [] = λ k no_. ap (λ x. cond x (whole_call b k (call_at first (more acts act) k)) []) (test k ∙ no_) in
    elim went as (λ w. f.sent ≡ cond w (e.sent + 1) e.sent → in_order (let_go_by b acts act) (first + calls_made (more acts act)) ≡ cond w (whole_call b e.sent (call_at first (more acts act) e.sent)) []) [
      | true ↦ λ one.
          order_one (let_go_by b acts act) (first + calls_made (more acts act)) e.sent (omega arith) (λ j le other. elim (cases_lt j e.sent) [
            | inl before ↦ off j (sent_before first acts (more acts act) e.sent f.sent j (omega arith) before)
            | inr from ↦ off j (sent_later first acts (more acts act) e.sent f.sent j (omega arith))
          ])
          ∙ ap (λ x. cond x (whole_call b e.sent (call_at first (more acts act) e.sent)) []) (test e.sent ∙ ap (λ n. sent_below n first (more acts act) e.sent && not (sent_below e.sent first acts e.sent)) one ∙ sent_now first acts (more acts act) e.sent low (omega arith))
      | false ↦ λ same. order_none (let_go_by b acts act) (first + calls_made (more acts act)) (λ j le. elim (cases_lt j e.sent) [
        | inl before ↦ off j (sent_before first acts (more acts act) e.sent f.sent j (omega arith) before)
        | inr from ↦ off j (sent_later first acts (more acts act) e.sent f.sent j (omega arith))
      ])
    ] is

-- ---- a call and a return

format_is : (first format : ℕ) (acts : Acts) → (end_after (start first format) acts).format ≡ format
format_is first format acts = format_stays (start first format) acts

-- a call that is sent at once is the first that waits
at_once : (first : ℕ) (acts : Acts) (ts : List Piece) (e : Exchange) (message : List ℕ) → Flows 64 first acts ts e → sends_at_once e ≡ true → (e.sent ≡ e.next) × (call_at first (more acts (Call message)) e.sent ≡ Some message)
unfolding call_at sends_at_once
at_once first acts ts e message flows once =
    let same : e.sent ≡ e.next = eqb-true e.sent e.next (and_parts (ltb e.in_flight 64) (eqb e.sent e.next) once).1 in
    let next : e.next ≡ first + calls_made acts = flows.next in
    (same, ap (λ b. cond b (Some message) (call_at first acts e.sent)) (eq-eqb e.sent (first + calls_made acts) (omega arith)))

call_whole : (e b : Exchange) (o : ℕ → Option (List ℕ)) (message : List ℕ) → e.format ≡ b.format → (sends_at_once e ≡ true → (e.sent ≡ e.next) × (o e.sent ≡ Some message)) → cond (sends_at_once e) (whole (message_out e 0 e.next message)) [] ≡ cond (sends_at_once e) (whole_call b e.sent (o e.sent)) []
call_whole e b o message same at =
    elim (sends_at_once e) as (λ x. sends_at_once e ≡ x → cond x (whole (message_out e 0 e.next message)) [] ≡ cond x (whole_call b e.sent (o e.sent)) []) [
      | true ↦ λ once. (
          ap (λ (f : ℕ). whole (record { format = f; kind = 0; call = e.next; total = segment_count message; message = message })) same
          ∙ ap (λ (n : ℕ). whole (message_out b 0 n message)) (sym (at once).0)
          ∙ ap (whole_call b e.sent) (sym (at once).1))
      | false ↦ λ waits. refl
    ] refl

pub call_sends : (first format : ℕ) (acts : Acts) (message : List ℕ) → AreLawful first format (more acts (Call message)) → datagrams_of_call (end_after (start first format) acts) message ≡ outputs (start first format) acts (Call message)
unfolding datagrams_of_call outputs send_call
call_sends first format acts message lawful =
    let b = start first format in
    let e = end_after b acts in
    call_whole e b (call_at first (more acts (Call message))) message (format_is first format acts) (at_once first acts _ e message (flows_after first format acts lawful.0))
    ∙ sym (gone first format acts (Call message) (sends_at_once e) lawful refl)

pub return_sends : (first format : ℕ) (acts : Acts) (call : ℕ) (message : List ℕ) → datagrams_of_return (end_after (start first format) acts) call message ≡ outputs (start first format) acts (Return call message)
unfolding datagrams_of_return outputs
return_sends first format acts call message = ap (λ (f : ℕ). whole (record { format = f; kind = 1; call = call; total = segment_count message; message = message })) (format_is first format acts)

-- ---- a segment

-- which segments are taken, by the acts alone
pub taken_is : (first format : ℕ) (acts : Acts) (s : Piece) → AreLawful first format acts → IsSegment s → takes (end_after (start first format) acts) s ≡ takes_after (start first format) acts s
taken_is first format acts s lawful segment =
    let ts = taken_by (start first format) acts in
    taken_after first format acts s (lawful_acts first format acts lawful) (lawful_once first format acts lawful) segment
    ∙ ap (λ sent. eqb s.format format && cond (is_acknowledgement s) (cond (eqb s.kind 0) (sent && agrees_with (call_at first acts s.call) s.total) (agrees_with (return_at acts s.call) s.total)) (cond (eqb s.kind 0) (fits_with (total_in ts s.kind s.call) s.total) (sent && fits_with (total_in ts s.kind s.call) s.total))) (sent_after first format acts s.call lawful)

-- the first call that waits, where it is kept
waiting_out : (b : Exchange) (call : ℕ) (o : Option (List ℕ)) (c : ℕ → ℕ) (finished : Bool) → IsWithin o c → ((t : ℕ) → c t ≡ 0) → finished ≡ false → whole_of (on_its_way b.format 0 call (told_out o c) (kept_call o c finished)) ≡ whole_call b call o
waiting_out b call None c finished within none open_ = refl
waiting_out b call (Some m) c finished within none open_ =
    let some : 0 < segment_count m = within.0 in
    let zero_ : c (segment_count m) ≡ 0 = none (segment_count m) in
    ap (λ f. whole_of (on_its_way b.format 0 call (told_out (Some m) c) (kept_call (Some m) c f))) open_
    ∙ ap (λ x. whole_of (on_its_way b.format 0 call (told_out (Some m) c) (cond x (Some []) (Some m)))) (ne_eqb (c (segment_count m)) (segment_count m) (λ e. absurd (omega arith)))

waiting : (first format : ℕ) (acts : Acts) (x : ℕ) → AreLawful first format acts → datagrams_let_go (end_after (start first format) acts) x ≡ cond (lets_go (end_after (start first format) acts) x) (whole_call (start first format) (end_after (start first format) acts).sent (call_at first acts (end_after (start first format) acts).sent)) []
unfolding datagrams_let_go outgoing_at
waiting first format acts x lawful =
    let b = start first format in
    let e = end_after b acts in
    let hands = hands_lawful first format acts lawful in
    let kept = kept_after first format acts lawful in
    let flows = flows_after first format acts lawful in
    ap (λ d. cond (lets_go e x) d [])
    (ap (λ (f : ℕ). whole_of (on_its_way f 0 e.sent (get e.calls.progress e.sent) (get e.calls.messages e.sent))) (format_is first format acts)
    ∙ ap (λ (p : Option Progress). whole_of (on_its_way format 0 e.sent p (get e.calls.messages e.sent))) (hands.calls e.sent)
    ∙ ap (λ m. whole_of (on_its_way format 0 e.sent (told_out (call_at first acts e.sent) (reached_in (taken_by b acts) 0 e.sent)) m)) (kept.calls e.sent)
    ∙ waiting_out b e.sent (call_at first acts e.sent) (reached_in (taken_by b acts) 0 e.sent) (has_arrived (taken_by b acts) 1 e.sent) (kept.calls_within e.sent) (λ t. flows.unsaid e.sent t (omega arith)) (none_arrived (taken_by b acts) e.sent (flows.unreturned e.sent (omega arith))))

-- which call is the first that waits then

sent_let_go : (e : Exchange) → (let_go e).sent ≡ cond (lets_go e e.in_flight) (e.sent + 1) e.sent
unfolding let_go
sent_let_go e = elim (lets_go e e.in_flight) as (λ b. (cond b (record e { sent = e.sent + 1; in_flight = e.in_flight + 1 }) e).sent ≡ cond b (e.sent + 1) e.sent) [ true ↦ refl | false ↦ refl ]

sent_call_acknowledged : (e : Exchange) (s : Piece) → is_acknowledgement s ≡ true → eqb s.kind 0 ≡ true → (after_taken e s).sent ≡ cond (lets_go e (in_flight_after e s.call s.number)) (e.sent + 1) e.sent
unfolding call_reached lets_go
sent_call_acknowledged e s ack call = ap (λ (f : Exchange). f.sent) (after_call_acknowledged e s ack call) ∙ sent_let_go (call_reached e s.call s.number)

sent_return_acknowledged : (e : Exchange) (s : Piece) → is_acknowledgement s ≡ true → eqb s.kind 0 ≡ false → (after_taken e s).sent ≡ e.sent
unfolding return_reached
sent_return_acknowledged e s ack return_ = ap (λ (f : Exchange). f.sent) (after_return_acknowledged e s ack return_)

sent_call_segment : (e : Exchange) (s : Piece) → is_acknowledgement s ≡ false → eqb s.kind 0 ≡ true → (after_taken e s).sent ≡ e.sent
sent_call_segment e s plain call = ap (λ (f : Exchange). f.sent) (after_call_segment e s plain call)

sent_return_segment : (e : Exchange) (s : Piece) → is_acknowledgement s ≡ false → eqb s.kind 0 ≡ false → (after_taken e s).sent ≡ cond (lets_go e (in_flight_after e s.call (total_of e s.call))) (e.sent + 1) e.sent
unfolding return_added end_call call_reached lets_go in_flight_after total_of
sent_return_segment e s plain return_ = ap (λ (f : Exchange). f.sent) (after_return_segment e s plain return_) ∙ sent_let_go (return_added e s)

-- what a segment sends that is taken
taken_sends : (first format : ℕ) (acts : Acts) (s : Piece) → AreLawful first format (more acts (Came s)) → takes (end_after (start first format) acts) s ≡ true → datagrams_of_taken (end_after (start first format) acts) s ≡ cond (not (is_acknowledgement s)) (acknowledged_by (is_stopped_after acts) (taken_by (start first format) acts) s) [] ++ in_order (let_go_by (start first format) acts (Came s)) (first + calls_made acts)
unfolding datagrams_of_taken calls_made call_at
taken_sends first format acts s lawful h =
    let b = start first format in
    let e = end_after b acts in
    let ts = taken_by b acts in
    let stands = stands_lawful first format acts lawful.0 in
    let up : e.stopped ≡ is_stopped_after acts = (flows_after first format acts lawful.0).stopped in
    let after_is : (end_after b (more acts (Came s))).sent ≡ (after_taken e s).sent = ap (λ x. (cond x (after_taken e s) e).sent) h in
    let out : (went : Bool) → (after_taken e s).sent ≡ cond went (e.sent + 1) e.sent → in_order (let_go_by b acts (Came s)) (first + calls_made acts) ≡ cond went (whole_call b e.sent (call_at first acts e.sent)) [] = λ went is. gone first format acts (Came s) went lawful (after_is ∙ is) in
    let answered : (kind : List (List ℕ)) → kind ≡ acknowledged_by e.stopped ts s → kind ≡ acknowledged_by (is_stopped_after acts) ts s = λ kind is. is ∙ ap (λ x. acknowledged_by x ts s) up in
    elim (is_acknowledgement s) as (λ x. is_acknowledgement s ≡ x → cond x (cond (eqb s.kind 0) (datagrams_let_go e (in_flight_after e s.call s.number)) []) (cond (eqb s.kind 0) (acknowledgement e.stopped e.arriving_calls s) (acknowledgement e.stopped e.arriving_returns s ++ datagrams_let_go e (in_flight_after e s.call (total_of e s.call)))) ≡ cond (not x) (acknowledged_by (is_stopped_after acts) ts s) [] ++ in_order (let_go_by b acts (Came s)) (first + calls_made acts)) [
      | true ↦ λ ack. elim (eqb s.kind 0) as (λ x. eqb s.kind 0 ≡ x → cond x (datagrams_let_go e (in_flight_after e s.call s.number)) [] ≡ in_order (let_go_by b acts (Came s)) (first + calls_made acts)) [
        | true ↦ λ call. waiting first format acts (in_flight_after e s.call s.number) lawful.0 ∙ sym (out (lets_go e (in_flight_after e s.call s.number)) (sent_call_acknowledged e s ack call))
        | false ↦ λ return_. sym (out false (sent_return_acknowledged e s ack return_))
      ] refl
      | false ↦ λ plain. elim (eqb s.kind 0) as (λ x. eqb s.kind 0 ≡ x → cond x (acknowledgement e.stopped e.arriving_calls s) (acknowledgement e.stopped e.arriving_returns s ++ datagrams_let_go e (in_flight_after e s.call (total_of e s.call))) ≡ acknowledged_by (is_stopped_after acts) ts s ++ in_order (let_go_by b acts (Came s)) (first + calls_made acts)) [
        | true ↦ λ call.
            answered _ (call_acknowledged ts e s stands lawful.1 h plain (eqb-true s.kind 0 call))
            ∙ sym (append-nil _)
            ∙ ap (λ d. acknowledged_by (is_stopped_after acts) ts s ++ d) (sym (out false (sent_call_segment e s plain call)))
        | false ↦ λ return_.
            ap (λ d. d ++ datagrams_let_go e (in_flight_after e s.call (total_of e s.call))) (answered _ (return_acknowledged ts e s stands lawful.1 h plain (return_is s lawful.1 return_)))
            ∙ ap (λ d. acknowledged_by (is_stopped_after acts) ts s ++ d) (waiting first format acts (in_flight_after e s.call (total_of e s.call)) lawful.0 ∙ sym (out (lets_go e (in_flight_after e s.call (total_of e s.call))) (sent_return_segment e s plain return_)))
      ] refl
    ] refl

pub came_sends : (first format : ℕ) (acts : Acts) (s : Piece) → AreLawful first format (more acts (Came s)) → datagrams_after (end_after (start first format) acts) s ≡ outputs (start first format) acts (Came s)
unfolding outputs calls_made
came_sends first format acts s lawful =
    let b = start first format in
    let e = end_after b acts in
    let answer = acknowledged_by (is_stopped_after acts) (taken_by b acts) s in
    elim (takes e s) as (λ x. takes e s ≡ x → cond x (datagrams_of_taken e s) [] ≡ cond (x && not (is_acknowledgement s)) answer [] ++ in_order (let_go_by b acts (Came s)) (first + calls_made acts)) [
      | true ↦ λ h. taken_sends first format acts s lawful h
      | false ↦ λ h. sym (gone first format acts (Came s) false lawful (ap (λ x. (cond x (after_taken e s) e).sent) h))
    ] refl
    ∙ ap (λ x. cond (x && not (is_acknowledgement s)) answer [] ++ in_order (let_go_by b acts (Came s)) (first + calls_made acts)) (taken_is first format acts s lawful.0 lawful.1)

-- ---- a tick

found_at : (format kind k : ℕ) (box : HandedOver) (o : Option (List ℕ)) → found (λ e. reminder_of format kind e.0 e.1 (get box.progress e.0)) k o ≡ found (λ e. reminder_of format kind e.0 e.1 (get box.progress k)) k o
found_at format kind k box None = refl
found_at format kind k box (Some m) = refl

call_due : (b : Exchange) (k : ℕ) (m : List ℕ) (n : ℕ) (finished : Bool) → n ≤ segment_count m → found (λ e. reminder_of b.format 0 e.0 e.1 (Some (record { total = segment_count m; count = n }))) k (cond finished None (cond (eqb n (segment_count m)) (Some []) (Some m))) ≡ cond (not finished) (cond (eqb n (segment_count m)) (spelling (probe b.format 0 (segment_count m) k) ∷ []) (first_open b 0 k m n)) []
call_due b k m n true le = refl
call_due b k m n false le = elim (eqb_tells n (segment_count m)) [
  | inl same ↦ (let at : n ≡ segment_count m = same.1 in
      ap (λ x. found (λ e. reminder_of b.format 0 e.0 e.1 (Some (record { total = segment_count m; count = n }))) k (cond x (Some []) (Some m))) same.0
      ∙ ap (λ x. cond x (spelling (segment_of (record { format = b.format; kind = 0; call = k; total = segment_count m; message = [] }) 2 (n + 1)) ∷ []) (spelling (probe b.format 0 (segment_count m) k) ∷ [])) (le-ltb n (segment_count m) (omega arith))
      ∙ ap (λ x. cond x (spelling (probe b.format 0 (segment_count m) k) ∷ []) (first_open b 0 k m n)) (sym same.0))
  | inr differ ↦ (let ne : n ≢ segment_count m = differ.1 in
      ap (λ x. found (λ e. reminder_of b.format 0 e.0 e.1 (Some (record { total = segment_count m; count = n }))) k (cond x (Some []) (Some m))) differ.0
      ∙ ap (λ x. cond x (first_open b 0 k m n) (spelling (probe b.format 0 (segment_count m) k) ∷ [])) (lt-ltb n (segment_count m) (omega arith))
      ∙ ap (λ x. cond x (spelling (probe b.format 0 (segment_count m) k) ∷ []) (first_open b 0 k m n)) (sym differ.0))
]

return_due : (b : Exchange) (k : ℕ) (m : List ℕ) (n : ℕ) → n ≤ segment_count m → found (λ e. reminder_of b.format 1 e.0 e.1 (Some (record { total = segment_count m; count = n }))) k (cond (eqb n (segment_count m)) None (Some m)) ≡ cond (eqb n (segment_count m)) [] (first_open b 1 k m n)
return_due b k m n le = elim (eqb_tells n (segment_count m)) [
  | inl same ↦ ap (λ x. found (λ e. reminder_of b.format 1 e.0 e.1 (Some (record { total = segment_count m; count = n }))) k (cond x None (Some m))) same.0
      ∙ ap (λ x. cond x [] (first_open b 1 k m n)) (sym same.0)
  | inr differ ↦ (let ne : n ≢ segment_count m = differ.1 in
      ap (λ x. found (λ e. reminder_of b.format 1 e.0 e.1 (Some (record { total = segment_count m; count = n }))) k (cond x None (Some m))) differ.0
      ∙ ap (λ x. cond x (first_open b 1 k m n) []) (lt-ltb n (segment_count m) (omega arith))
      ∙ ap (λ x. cond x [] (first_open b 1 k m n)) (sym differ.0))
]

-- a call that was sent is reminded of as it stands
call_reminded : (b : Exchange) (acts : Acts) (k : ℕ) (o : Option (List ℕ)) → call_at b.next acts k ≡ o → IsWithin o (reached_in (taken_by b acts) 0 k) → (is_some o ≡ true → is_sent b acts k ≡ true) → found (λ e. reminder_of b.format 0 e.0 e.1 (told_out o (reached_in (taken_by b acts) 0 k))) k (kept_call o (reached_in (taken_by b acts) 0 k) (has_arrived (taken_by b acts) 1 k)) ≡ call_again b acts k o
unfolding call_is_whole
call_reminded b acts k None is within sent = refl
call_reminded b acts k (Some m) is within sent =
    let ts = taken_by b acts in
    let n = reached_in ts 0 k (segment_count m) in
    let finished = has_arrived ts 1 k in
    call_due b k m n finished within.1
    ∙ ap (λ x. cond (x && not finished) (cond (eqb n (segment_count m)) (spelling (probe b.format 0 (segment_count m) k) ∷ []) (first_open b 0 k m n)) []) (sym (sent refl))
    ∙ ap (λ o. cond (is_sent b acts k && not finished) (cond (is_all o (reached_in ts 0 k)) (spelling (probe b.format 0 (segment_count m) k) ∷ []) (first_open b 0 k m n)) []) (sym is)

return_reminded : (b : Exchange) (acts : Acts) (k : ℕ) (o : Option (List ℕ)) → return_at acts k ≡ o → IsWithin o (reached_in (taken_by b acts) 1 k) → found (λ e. reminder_of b.format 1 e.0 e.1 (told_out o (reached_in (taken_by b acts) 1 k))) k (kept_return o (reached_in (taken_by b acts) 1 k)) ≡ return_again b acts k o
unfolding return_is_whole
return_reminded b acts k None is within = refl
return_reminded b acts k (Some m) is within =
    let n = reached_in (taken_by b acts) 1 k (segment_count m) in
    return_due b k m n within.1
    ∙ ap (λ o. cond (is_all o (reached_in (taken_by b acts) 1 k)) [] (first_open b 1 k m n)) (sym is)

-- a call that waits is not reminded of
unsent_quiet : (b : Exchange) (acts : Acts) (k : ℕ) (o : Option (List ℕ)) → is_sent b acts k ≡ false → call_again b acts k o ≡ []
unsent_quiet b acts k None unsent = refl
unsent_quiet b acts k (Some m) unsent = ap (λ x. cond (x && not (has_arrived (taken_by b acts) 1 k)) (cond (call_is_whole b.next acts (taken_by b acts) k) (spelling (probe b.format 0 (segment_count m) k) ∷ []) (first_open b 0 k m (reached_in (taken_by b acts) 0 k (segment_count m)))) []) unsent

calls_reminded : (first format : ℕ) (acts : Acts) → AreLawful first format acts → reminders (end_after (start first format) acts).calls (end_after (start first format) acts).format 0 (end_after (start first format) acts).sent ≡ in_order (λ call. call_again (start first format) acts call (call_at first acts call)) (first + calls_made acts)
unfolding reminders reminder
calls_reminded first format acts lawful =
    let b = start first format in
    let e = end_after b acts in
    let ts = taken_by b acts in
    let hands = hands_lawful first format acts lawful in
    let kept = kept_after first format acts lawful in
    let flows = flows_after first format acts lawful in
    let high : e.sent ≤ e.next = flows.high in
    let next : e.next ≡ first + calls_made acts = flows.next in
    let sent : (k : ℕ) → is_sent b acts k ≡ (ltb k e.sent && is_some (call_at first acts k)) = λ k. sym (sent_after first format acts k lawful) in
    ap (λ (f : ℕ). flat_map (λ (x : ℕ × List ℕ). cond (ltb x.0 e.sent) (reminder_of f 0 x.0 x.1 (get e.calls.progress x.0)) []) (entries e.calls.messages)) (format_is first format acts)
    ∙ map_in_order (λ x. reminder_of format 0 x.0 x.1 (get e.calls.progress x.0)) e.sent e.calls.messages
    ∙ order_alike _ _ e.sent (λ k le.
    found_at format 0 k e.calls (get e.calls.messages k)
    ∙ ap (λ (p : Option Progress). found (λ x. reminder_of format 0 x.0 x.1 p) k (get e.calls.messages k)) (hands.calls k)
    ∙ ap (λ m. found (λ x. reminder_of format 0 x.0 x.1 (told_out (call_at first acts k) (reached_in ts 0 k))) k m) (kept.calls k)
    ∙ call_reminded b acts k (call_at first acts k) refl (kept.calls_within k) (λ some. sent k ∙ ap (λ x. x && is_some (call_at first acts k)) (lt-ltb k e.sent le) ∙ some))
    ∙ sym (order_upto (λ call. call_again b acts call (call_at first acts call)) e.sent (first + calls_made acts) (omega arith) (λ k low le. unsent_quiet b acts k (call_at first acts k) (sent k ∙ ap (λ x. x && is_some (call_at first acts k)) (le-ltb k e.sent low))))

returns_reminded : (first format : ℕ) (acts : Acts) (limit : ℕ) → AreLawful first format acts → reminders (end_after (start first format) acts).returns (end_after (start first format) acts).format 1 limit ≡ in_order (λ call. return_again (start first format) acts call (return_at acts call)) limit
unfolding reminders reminder
returns_reminded first format acts limit lawful =
    let b = start first format in
    let e = end_after b acts in
    let ts = taken_by b acts in
    let hands = hands_lawful first format acts lawful in
    let kept = kept_after first format acts lawful in
    ap (λ (f : ℕ). flat_map (λ (x : ℕ × List ℕ). cond (ltb x.0 limit) (reminder_of f 1 x.0 x.1 (get e.returns.progress x.0)) []) (entries e.returns.messages)) (format_is first format acts)
    ∙ map_in_order (λ x. reminder_of format 1 x.0 x.1 (get e.returns.progress x.0)) limit e.returns.messages
    ∙ order_alike _ _ limit (λ k le.
    found_at format 1 k e.returns (get e.returns.messages k)
    ∙ ap (λ (p : Option Progress). found (λ x. reminder_of format 1 x.0 x.1 p) k (get e.returns.messages k)) (hands.returns k)
    ∙ ap (λ m. found (λ x. reminder_of format 1 x.0 x.1 (told_out (return_at acts k) (reached_in ts 1 k))) k m) (kept.returns k)
    ∙ return_reminded b acts k (return_at acts k) refl (kept.returns_within k))

pub tick_sends : (first format : ℕ) (acts : Acts) → AreLawful first format acts → datagrams_of_tick (end_after (start first format) acts) ≡ outputs (start first format) acts Tick
unfolding datagrams_of_tick outputs again_after
tick_sends first format acts lawful =
    let b = start first format in
    let e = end_after b acts in
    ap (λ d. d ++ reminders e.returns e.format 1 (2 ^ 32)) (calls_reminded first format acts lawful)
    ∙ ap (λ d. in_order (λ call. call_again b acts call (call_at first acts call)) (first + calls_made acts) ++ d) (returns_reminded first format acts (2 ^ 32) lawful)
