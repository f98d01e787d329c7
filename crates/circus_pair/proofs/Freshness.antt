-- What keeps the numbers to come free.
use Rattle.std.proofs.Common.{◌≡◌, ℕ, Bool, true, false, cond, eqb, List, Option, None, Some, Result, Ok, Err, not, ◌&&◌, refl, sym, ap, subst, ◌∙◌, arith}
use Rattle.std.specs.Prelude.{is_some, nat_lt, OnOk, OnErr}
use Rattle.std.specs.Cmp.{nat_cmp_total}
use Rattle.std.specs.Ordering.{nat_cmp}
use Rattle.std.specs.FinMap.{FinMap, get, insert, get-empty, get-insert}
use Rattle.circus_exchange.specs.declared.progress.Progress.{Progress}
use Rattle.circus_exchange.specs.declared.exchange.Exchange.{Exchange}
use Rattle.circus_segment.specs.Segment.{Piece, is_acknowledgement}
use Rattle.circus_segment.specs.Cut.{segment_count}
use Rattle.circus_exchange.specs.Outbox.{hand_over, raise_progress, acknowledge_up_to, drop_bytes, forget_message, becomes_whole}
use Rattle.circus_exchange.specs.Inbox.{add_segment}
use Rattle.circus_exchange.specs.Exchange.{start, send_call, send_return, is_whole, awaits_return, takes, let_go, lets_go, call_reached, return_reached, end_call, return_added, total_of, after_taken, after, count_tick}
use Rattle.circus_pair.specs.Seen.Fresh.{IsFresh}
use Rattle.circus_exchange.proofs.Ties.{other_key}

pub fresh_start : (number format : ℕ) → IsFresh (start number format)
fresh_start number format q le = get-empty nat_cmp q

pub fresh_called : (e : Exchange) (m : List ℕ) → IsFresh e → IsFresh (send_call e m)
unfolding send_call hand_over
fresh_called e m h q le =
    get-insert nat_cmp_total e.calls.progress e.next (record { total = segment_count m; count = 0 }) q
    ∙ ap (λ b. cond b (Some (record { total = segment_count m; count = 0 })) (get e.calls.progress q)) (other_key q e.next (λ same. absurd (omega arith)))
    ∙ h q (omega arith)

-- raising what is there leaves the rest free
raised_free : (progress : FinMap nat_cmp Progress) (call count q : ℕ) (o : Option Progress) → get progress call ≡ o → get progress q ≡ None → get (raise_progress progress call o count) q ≡ None
raised_free progress call count q None is free = free
raised_free progress call count q (Some p) is free =
    elim (nat_lt p.count count) as (λ b. get (cond b (insert progress call (record { total = p.total; count = count })) progress) q ≡ None) [
      | true ↦ get-insert nat_cmp_total progress call (record { total = p.total; count = count }) q
          ∙ ap (λ b. cond b (Some (record { total = p.total; count = count })) (get progress q)) (other_key q call (λ same. differ (get progress q) (ap (get progress) same ∙ is) free))
          ∙ free
      | false ↦ free
    ]
  where
    differ : (o : Option Progress) → o ≡ Some p → o ≡ None → ⊥
    differ o a b = cc

unsent : (a b : Bool) → (a && not b) ≡ true → b ≡ false
unsent true true h = absurd cc
unsent true false h = refl
unsent false b h = absurd cc

nothing : (o : Option Progress) → is_some o ≡ false → o ≡ None
nothing None h = refl
nothing (Some p) h = absurd cc

pub fresh_returned : (e : Exchange) (call : ℕ) (m : List ℕ) → IsFresh e → IsFresh (send_return e call m)
unfolding send_return
fresh_returned e call m h = h

pub fresh_ticked : (e : Exchange) → IsFresh e → IsFresh (count_tick e)
unfolding count_tick
fresh_ticked e h = h

choice : (b : Bool) (x y : Exchange) → IsFresh x → IsFresh y → IsFresh (cond b x y)
choice true x y f g = f
choice false x y f g = g

fresh_let_go : (e : Exchange) → IsFresh e → IsFresh (let_go e)
unfolding let_go
fresh_let_go e h = choice (lets_go e e.in_flight) _ _ h h

fresh_call_reached : (e : Exchange) (call count : ℕ) → IsFresh e → IsFresh (call_reached e call count)
unfolding call_reached acknowledge_up_to drop_bytes
fresh_call_reached e call count h q le =
    let free : get (raise_progress e.calls.progress call (get e.calls.progress call) count) q ≡ None = raised_free e.calls.progress call count q (get e.calls.progress call) refl (h q le) in
    elim (becomes_whole e.calls call count) as (λ b. get (cond b (drop_bytes (acknowledge_up_to e.calls call count) call) (acknowledge_up_to e.calls call count)).progress q ≡ None) [ true ↦ free | false ↦ free ]

fresh_return_reached : (e : Exchange) (call count : ℕ) → IsFresh e → IsFresh (return_reached e call count)
unfolding return_reached
fresh_return_reached e call count h = h

fresh_ended : (e : Exchange) (call : ℕ) (complete : Bool) → IsFresh e → IsFresh (end_call e call complete)
unfolding end_call forget_message
fresh_ended e call true h = h
fresh_ended e call false h = h

fresh_return_added : (e : Exchange) (s : Piece) → IsFresh e → IsFresh (return_added e s)
unfolding return_added
fresh_return_added e s h = fresh_ended _ s.call _ (fresh_call_reached (record e { arriving_returns = add_segment e.arriving_returns s }) s.call (total_of e s.call) h)

fresh_after_taken : (e : Exchange) (s : Piece) → IsFresh e → IsFresh (after_taken e s)
unfolding after_taken
fresh_after_taken e s h =
    choice (is_acknowledgement s) _ _
    (choice (eqb s.kind 0) _ _ (fresh_let_go _ (fresh_call_reached e s.call s.number h)) (fresh_return_reached e s.call s.number h))
    (choice (eqb s.kind 0) _ _ h (fresh_let_go _ (fresh_return_added e s h)))

pub fresh_after : (e : Exchange) (s : Piece) → IsFresh e → IsFresh (after e s)
fresh_after e s h = choice (takes e s) _ _ (fresh_after_taken e s h) h

-- the number of a call that awaits its return is free among the returns
pub return_free : (e : Exchange) (call : ℕ) → awaits_return e call ≡ true → get e.returns.progress call ≡ None
unfolding awaits_return
return_free e call h = nothing (get e.returns.progress call) (unsent (is_whole (get e.arriving_calls.progress call)) _ h)

-- whichever way a call ends
pub fresh_either : {T E : Type 0} (r : Result T E) (old new then_ : Exchange) → OnOk r (new ≡ then_) → OnErr r (new ≡ old) → IsFresh then_ → IsFresh old → IsFresh new
fresh_either (Ok x) old new then_ ok err f h = subst (λ e. IsFresh e) (sym ok) f
fresh_either (Err x) old new then_ ok err f h = subst (λ e. IsFresh e) (sym err) h
