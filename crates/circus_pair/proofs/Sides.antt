-- The number of the next call after each act.
use Rattle.std.proofs.Common.{◌≡◌, ℕ, ◌+◌, List, [], refl}
use Rattle.circus_exchange.specs.declared.exchange.Exchange.{Exchange}
use Rattle.circus_segment.specs.Segment.{Piece}
use Rattle.circus_exchange.specs.Exchange.{send_call, send_return, after, count_tick}
use Rattle.circus_pair.proofs.Taking.{by_taken, taken_lasts}

pub next_called : (e : Exchange) (message : List ℕ) → (send_call e message).next ≡ e.next + 1
unfolding send_call
next_called e message = refl

pub next_returned : (e : Exchange) (call : ℕ) (message : List ℕ) → (send_return e call message).next ≡ e.next
unfolding send_return
next_returned e call message = refl

pub next_ticked : (e : Exchange) → (count_tick e).next ≡ e.next
unfolding count_tick
next_ticked e = refl

pub next_after : (e : Exchange) (s : Piece) → (after e s).next ≡ e.next
next_after e s = by_taken [] e s (λ _ f. f.next ≡ e.next) (λ _. (taken_lasts e s).1) refl
