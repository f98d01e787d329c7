-- The format of an end never changes, nor but by a stop whether the other end is down.
use Rattle.std.proofs.Common.{◌≡◌, ℕ, List, [], Result, Ok, Err, refl, ap, ◌∙◌}
use Rattle.std.specs.Prelude.{OnOk, OnErr}
use Rattle.circus_exchange.specs.declared.exchange.Exchange.{Exchange}
use Rattle.circus_segment.specs.Segment.{Piece}
use Rattle.circus_exchange.specs.Exchange.{send_call, send_return, after, count_tick}
use Rattle.circus_pair.proofs.Taking.{by_taken, taken_lasts}

pub record Lasts (old new : Exchange) : Type 0 where
  pub format : new.format ≡ old.format
  pub stopped : new.stopped ≡ old.stopped

pub lasts_after : (e : Exchange) (s : Piece) → Lasts e (after e s)
lasts_after e s = by_taken [] e s (λ _ f. Lasts e f) (λ _. let same = taken_lasts e s in record { format = same.0; stopped = same.2 }) (record { format = refl; stopped = refl })

pub lasts_called : (e : Exchange) (m : List ℕ) → Lasts e (send_call e m)
unfolding send_call
lasts_called e m = record { format = refl; stopped = refl }

pub lasts_returned : (e : Exchange) (call : ℕ) (m : List ℕ) → Lasts e (send_return e call m)
unfolding send_return
lasts_returned e call m = record { format = refl; stopped = refl }

pub lasts_ticked : (e : Exchange) → Lasts e (count_tick e)
unfolding count_tick
lasts_ticked e = record { format = refl; stopped = refl }

-- whichever way a call ends, of a pair seen as an end
pub lasts_either : {T E : Type 0} (r : Result T E) (old new next seen : Exchange) → OnOk r (new ≡ next) → OnErr r (new ≡ old) → Lasts old next → old ≡ seen → Lasts seen new
lasts_either (Ok x) old new next seen ok err h is = record { format = ap (λ (e : Exchange). e.format) ok ∙ h.format ∙ ap (λ (e : Exchange). e.format) is; stopped = ap (λ (e : Exchange). e.stopped) ok ∙ h.stopped ∙ ap (λ (e : Exchange). e.stopped) is }
lasts_either (Err x) old new next seen ok err h is = record { format = ap (λ (e : Exchange). e.format) (err ∙ is); stopped = ap (λ (e : Exchange). e.stopped) (err ∙ is) }
