-- What a segment is, and what it leaves of an end that takes it.
use Rattle.std.proofs.Common.{◌≡◌, ◌+◌, ◌≤◌, true, false, cond, eqb, List, ◌∷◌, refl, sym, subst, arith}
use Rattle.std.proofs.lemmas.Bool.{and_parts, eqb-true, eqb-false}
use Rattle.circus_exchange.specs.declared.exchange.Exchange.{Exchange}
use Rattle.circus_segment.specs.Segment.{Piece, IsSegment, is_acknowledgement}
use Rattle.circus_exchange.specs.Inbox.{add_segment, fits}
use Rattle.circus_exchange.specs.Outbox.{agrees}
use Rattle.circus_exchange.specs.Exchange.{was_sent, takes, let_go, lets_go, call_reached, return_reached, end_call, return_added, after_taken, after}

-- an acknowledgement or none, of a call or of a return
pub by_segment : (s : Piece) (P : Type 0) → (is_acknowledgement s ≡ true → eqb s.kind 0 ≡ true → P) → (is_acknowledgement s ≡ true → eqb s.kind 0 ≡ false → P) → (is_acknowledgement s ≡ false → eqb s.kind 0 ≡ true → P) → (is_acknowledgement s ≡ false → eqb s.kind 0 ≡ false → P) → P
by_segment s P call_acknowledged return_acknowledged call_segment return_segment =
    elim (is_acknowledgement s) as (λ b. is_acknowledgement s ≡ b → P) [
      | true ↦ λ ack. kinds (call_acknowledged ack) (return_acknowledged ack)
      | false ↦ λ plain. kinds (call_segment plain) (return_segment plain)
    ] refl
  where
    kinds : (eqb s.kind 0 ≡ true → P) → (eqb s.kind 0 ≡ false → P) → P
    kinds call return_ = elim (eqb s.kind 0) as (λ b. eqb s.kind 0 ≡ b → P) [ true ↦ call | false ↦ return_ ] refl

pub return_is : (s : Piece) → IsSegment s → eqb s.kind 0 ≡ false → s.kind ≡ 1
return_is s segment h = (let le : s.kind ≤ 1 = segment.kind in let ne : s.kind ≡ 0 → ⊥ = eqb-false s.kind 0 h in omega arith)

-- it is taken or dropped
pub by_taken : (ts : List Piece) (e : Exchange) (s : Piece) (P : List Piece → Exchange → Type 0) → (takes e s ≡ true → P (s ∷ ts) (after_taken e s)) → P ts e → P (cond (takes e s) (s ∷ ts) ts) (after e s)
by_taken ts e s P taken dropped =
    elim (takes e s) as (λ b. takes e s ≡ b → P (cond b (s ∷ ts) ts) (cond b (after_taken e s) e)) [ true ↦ taken | false ↦ λ _. dropped ] refl

-- ---- what an end knows that takes it

module _ (e : Exchange) (s : Piece) (h : takes e s ≡ true) where
  pub takes_format : s.format ≡ e.format
  unfolding takes
  takes_format = eqb-true s.format e.format (and_parts (eqb s.format e.format) _ h).0

  pub takes_call_acknowledged : is_acknowledgement s ≡ true → eqb s.kind 0 ≡ true → (was_sent e s.call ≡ true) × (agrees e.calls s ≡ true)
  unfolding takes
  takes_call_acknowledged ack call = let rest = (and_parts (eqb s.format e.format) _ h).1 in and_parts (was_sent e s.call) (agrees e.calls s) (rw (ack, call) at rest)

  pub takes_return_acknowledged : is_acknowledgement s ≡ true → eqb s.kind 0 ≡ false → agrees e.returns s ≡ true
  unfolding takes
  takes_return_acknowledged ack return_ = let rest = (and_parts (eqb s.format e.format) _ h).1 in rw (ack, return_) at rest

  pub takes_call_segment : is_acknowledgement s ≡ false → eqb s.kind 0 ≡ true → fits e.arriving_calls s ≡ true
  unfolding takes
  takes_call_segment plain call = let rest = (and_parts (eqb s.format e.format) _ h).1 in rw (plain, call) at rest

  pub takes_return_segment : is_acknowledgement s ≡ false → eqb s.kind 0 ≡ false → (was_sent e s.call ≡ true) × (fits e.arriving_returns s ≡ true)
  unfolding takes
  takes_return_segment plain return_ = let rest = (and_parts (eqb s.format e.format) _ h).1 in and_parts (was_sent e s.call) (fits e.arriving_returns s) (rw (plain, return_) at rest)

-- ---- the end after it

module _ (e : Exchange) (s : Piece) where
  pub after_call_acknowledged : is_acknowledgement s ≡ true → eqb s.kind 0 ≡ true → after_taken e s ≡ record (let_go (call_reached e s.call s.number)) { ticks = 0 }
  unfolding after_taken
  after_call_acknowledged ack call = rw (ack, call) refl

  pub after_return_acknowledged : is_acknowledgement s ≡ true → eqb s.kind 0 ≡ false → after_taken e s ≡ record (return_reached e s.call s.number) { ticks = 0 }
  unfolding after_taken
  after_return_acknowledged ack return_ = rw (ack, return_) refl

  pub after_call_segment : is_acknowledgement s ≡ false → eqb s.kind 0 ≡ true → after_taken e s ≡ record e { arriving_calls = add_segment e.arriving_calls s; ticks = 0 }
  unfolding after_taken
  after_call_segment plain call = rw (plain, call) refl

  pub after_return_segment : is_acknowledgement s ≡ false → eqb s.kind 0 ≡ false → after_taken e s ≡ record (let_go (return_added e s)) { ticks = 0 }
  unfolding after_taken
  after_return_segment plain return_ = rw (plain, return_) refl

-- ---- what letting a call go and the end of silence leave as it was

pub record Same (e f : Exchange) : Type 0 where
  pub format : e.format ≡ f.format
  pub next : e.next ≡ f.next
  pub stopped : e.stopped ≡ f.stopped
  pub calls : e.calls ≡ f.calls
  pub returns : e.returns ≡ f.returns
  pub arriving_calls : e.arriving_calls ≡ f.arriving_calls
  pub arriving_returns : e.arriving_returns ≡ f.arriving_returns

quiet : (e : Exchange) → Same (record e { ticks = 0 }) e
quiet e = record { format = refl; next = refl; stopped = refl; calls = refl; returns = refl; arriving_calls = refl; arriving_returns = refl }

quiet_let_go : (e : Exchange) → Same (record (let_go e) { ticks = 0 }) e
unfolding let_go
quiet_let_go e = elim (lets_go e e.in_flight) as (λ b. Same (record (cond b (record e { sent = e.sent + 1; in_flight = e.in_flight + 1 }) e) { ticks = 0 }) e) [
  | true ↦ record { format = refl; next = refl; stopped = refl; calls = refl; returns = refl; arriving_calls = refl; arriving_returns = refl }
  | false ↦ quiet e
]

module _ (e : Exchange) (s : Piece) where
  pub call_acknowledged_leaves : is_acknowledgement s ≡ true → eqb s.kind 0 ≡ true → Same (after_taken e s) (call_reached e s.call s.number)
  call_acknowledged_leaves ack call = subst (λ f. Same f (call_reached e s.call s.number)) (sym (after_call_acknowledged e s ack call)) (quiet_let_go (call_reached e s.call s.number))

  pub return_acknowledged_leaves : is_acknowledgement s ≡ true → eqb s.kind 0 ≡ false → Same (after_taken e s) (return_reached e s.call s.number)
  return_acknowledged_leaves ack return_ = subst (λ f. Same f (return_reached e s.call s.number)) (sym (after_return_acknowledged e s ack return_)) (quiet (return_reached e s.call s.number))

  pub call_segment_leaves : is_acknowledgement s ≡ false → eqb s.kind 0 ≡ true → Same (after_taken e s) (record e { arriving_calls = add_segment e.arriving_calls s })
  call_segment_leaves plain call = subst (λ f. Same f (record e { arriving_calls = add_segment e.arriving_calls s })) (sym (after_call_segment e s plain call)) (quiet (record e { arriving_calls = add_segment e.arriving_calls s }))

  pub return_segment_leaves : is_acknowledgement s ≡ false → eqb s.kind 0 ≡ false → Same (after_taken e s) (return_added e s)
  return_segment_leaves plain return_ = subst (λ f. Same f (return_added e s)) (sym (after_return_segment e s plain return_)) (quiet_let_go (return_added e s))

  -- whatever it is, its format, the number of its next call and whether the other end is down stay
  pub taken_lasts : ((after_taken e s).format ≡ e.format) × ((after_taken e s).next ≡ e.next) × ((after_taken e s).stopped ≡ e.stopped)
  unfolding call_reached return_reached return_added end_call
  taken_lasts =
      by_segment s _
      (λ ack call. let same = call_acknowledged_leaves ack call in (same.format, same.next, same.stopped))
      (λ ack return_. let same = return_acknowledged_leaves ack return_ in (same.format, same.next, same.stopped))
      (λ plain call. let same = call_segment_leaves plain call in (same.format, same.next, same.stopped))
      (λ plain return_. let same = return_segment_leaves plain return_ in (same.format, same.next, same.stopped))
