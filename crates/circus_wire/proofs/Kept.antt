-- What code keeps true of a pair stays true.
use Rattle.std.proofs.Common.{◌≡◌, ℕ, ◌+◌, ◌<◌, ◌≤◌, Bool, true, false, cond, List, set, None, Some, Result, Ok, Err, refl, sym, ap, subst, ◌∙◌, arith}
use Rattle.std.specs.Prelude.{OnOk, OnErr, is_err, is_some, slice_get}
use Rattle.std.specs.Cmp.{nat_cmp_total}
use Rattle.std.specs.Ordering.{nat_cmp}
use Rattle.std.specs.FinMap.{FinMap, get, insert, remove, empty, get-empty, get-insert, get-remove, nat_cmp-IsAntisymmetric}
use Rattle.circus_segment.specs.Segment.{Piece}
use Rattle.circus_exchange.specs.declared.exchange.Exchange.{Exchange}
use Rattle.circus_exchange.specs.declared.taken.Arrived.{Arrived}
use Rattle.circus_exchange.specs.declared.taken.Arrived.TheVariants.{Nothing, ArrivedCall, ArrivedReturn}
use Rattle.circus_exchange.specs.Exchange.{start, send_call, after}
use Rattle.circus_exchange.proofs.Finite.{put_back}
use Rattle.circus_exchange.proofs.Ties.{other_key}
use Rattle.circus_pair.proofs.Lasting.{lasts_called, lasts_after}
use Rattle.circus_pair.proofs.Sides.{next_called, next_after}
use Rattle.circus_wire.specs.Wire.{PeerState, drop_purpose}
use Rattle.circus_wire.specs.Seen.Kept.{IsKept, AreKept}
use Rattle.circus_wire.proofs.Places.{set_is, length_changed, changed_has}

pub on_ok : {T E : Type 0} (r : Result T E) (P : Type 0) → is_err r ≡ false → OnOk r P → P
on_ok (Ok x) P h p = p
on_ok (Err e) P h p = absurd cc

pub on_err : {T E : Type 0} (r : Result T E) (P : Type 0) (e : E) → r ≡ Err e → OnErr r P → P
on_err (Ok x) P e h p = absurd cc
on_err (Err f) P e h p = p

module _ {P : Type 0} where
  pub same_peer : (e f : Exchange) (p q : FinMap nat_cmp P) → e ≡ f → p ≡ q → ◌≡◌ {A = PeerState P} (record { exchange = e; purposes = p }) (record { exchange = f; purposes = q })
  same_peer e f p q same alike = λ i. record { exchange = same i; purposes = alike i }

  pub kept_fresh : (pair : Exchange) (purposes : FinMap nat_cmp P) (first format : ℕ) → pair ≡ start first format → purposes ≡ empty → IsKept pair purposes false
  kept_fresh pair purposes first format is none = record {
    fresh = λ number le. ap (λ m. get m number) none ∙ get-empty nat_cmp number;
    down = sym (ap (λ (e : Exchange). e.stopped) is);
  }

  -- of a pair with the same next number
  pub kept_same : (old new : Exchange) (purposes : FinMap nat_cmp P) (is_down : Bool) → new.next ≡ old.next → new.stopped ≡ old.stopped → IsKept old purposes is_down → IsKept new purposes is_down
  kept_same old new purposes is_down next down kept = record {
    fresh = λ number le. kept.fresh number (subst (λ n. n ≤ number) next le);
    down = kept.down ∙ sym down;
  }

  -- of what is as it was
  pub kept_back : (old new : Exchange) (purposes after_ : FinMap nat_cmp P) (is_down : Bool) → new ≡ old → after_ ≡ purposes → IsKept old purposes is_down → IsKept new after_ is_down
  kept_back old new purposes after_ is_down same alike kept = subst (λ e. IsKept e after_ is_down) (sym same) (subst (λ p. IsKept old p is_down) (sym alike) kept)

  -- whichever way an act ends
  pub kept_either : {T E : Type 0} (r : Result T E) (old new then_ : Exchange) (purposes : FinMap nat_cmp P) (is_down : Bool) → OnOk r (new ≡ then_) → OnErr r (new ≡ old) → then_.next ≡ old.next → new.stopped ≡ old.stopped → IsKept old purposes is_down → IsKept new purposes is_down
  kept_either (Ok x) old new then_ purposes is_down ok err next down kept = kept_same old new purposes is_down (ap (λ (e : Exchange). e.next) ok ∙ next) down kept
  kept_either (Err x) old new then_ purposes is_down ok err next down kept = kept_same old new purposes is_down (ap (λ (e : Exchange). e.next) err) down kept

  free_put : (purposes : FinMap nat_cmp P) (key : ℕ) (purpose : P) (number : ℕ) → key < number → get purposes number ≡ None → get (insert purposes key purpose) number ≡ None
  free_put purposes key purpose number less free =
      get-insert nat_cmp_total purposes key purpose number
      ∙ ap (λ b. cond b (Some purpose) (get purposes number)) (other_key number key (λ same. absurd (omega arith)))
      ∙ free

  pub kept_called : (old new : Exchange) (purposes after_ : FinMap nat_cmp P) (number : ℕ) (message : List ℕ) (purpose : P) (is_down : Bool) → number ≡ old.next → new ≡ send_call old message → after_ ≡ insert purposes number purpose → IsKept old purposes is_down → IsKept new after_ is_down
  kept_called old new purposes after_ number message purpose is_down at is put kept =
      let next : new.next ≡ old.next + 1 = ap (λ (e : Exchange). e.next) is ∙ next_called old message in
      record {
        fresh = λ q le. ap (λ m. get m q) put ∙ free_put purposes number purpose q (omega arith) (kept.fresh q (omega arith));
        down = kept.down ∙ sym (ap (λ (e : Exchange). e.stopped) is ∙ (lasts_called old message).stopped);
      }

  -- what was put under the next number is taken out again
  pub put_back_next : (pair : Exchange) (purposes first then_ : FinMap nat_cmp P) (number : ℕ) (purpose : P) (is_down : Bool) → number ≡ pair.next → IsKept pair purposes is_down → first ≡ insert purposes number purpose → then_ ≡ remove first number → then_ ≡ purposes
  put_back_next pair purposes first then_ number purpose is_down at kept put out =
      out ∙ ap (λ m. remove m number) put ∙ put_back nat_cmp nat_cmp_total nat_cmp-IsAntisymmetric purposes number purpose (ap is_some (kept.fresh number (omega arith)))

  free_taken : (arrived : Arrived) (purposes : FinMap nat_cmp P) (number : ℕ) → get purposes number ≡ None → get (drop_purpose arrived purposes) number ≡ None
  free_taken Nothing purposes number free = free
  free_taken (ArrivedCall n m) purposes number free = free
  free_taken (ArrivedReturn n m) purposes number free = get-remove nat_cmp_total purposes n number ∙ either _ free
    where
      either : (b : Bool) → get purposes number ≡ None → cond b None (get purposes number) ≡ None
      either true h = refl
      either false h = h

  pub kept_heard : (old new : Exchange) (purposes after_ : FinMap nat_cmp P) (s : Piece) (arrived : Arrived) (is_down : Bool) → new ≡ after old s → after_ ≡ drop_purpose arrived purposes → IsKept old purposes is_down → IsKept new after_ is_down
  kept_heard old new purposes after_ s arrived is_down is out kept = record {
    fresh = λ q le. ap (λ m. get m q) out ∙ free_taken arrived purposes q (kept.fresh q (subst (λ n. n ≤ q) (ap (λ (e : Exchange). e.next) is ∙ next_after old s) le));
    down = kept.down ∙ sym (ap (λ (e : Exchange). e.stopped) is ∙ (lasts_after old s).stopped);
  }

-- what is kept of all pairs, where one changes and has its format
module _ {P : Type 0} where
  pub all_kept : (own format : ℕ) (peers : List (PeerState P)) (place : ℕ) (old new : PeerState P) → slice_get peers place ≡ Some old → new.exchange.format ≡ old.exchange.format → AreKept own format peers → AreKept own format (set peers place new)
  all_kept own format peers place old new at same kept = subst (λ ps. AreKept own format ps) (sym (set_is (λ _. new) peers place old at)) (record {
    own_is = subst (λ n. own ≤ n) (sym (length_changed (λ _. new) peers place)) kept.own_is;
    few = subst (λ n. n < 64) (sym (length_changed (λ _. new) peers place)) kept.few;
    formats = λ other p is. changed_has (λ _. new) peers place other p is (λ _ x. x.exchange.format ≡ format) (λ y here. same ∙ kept.formats place old at) (λ y differ there. kept.formats other y there);
  })

  -- whichever way an act of a pair ends, its format stays
  pub same_format : {T E : Type 0} (r : Result T E) (old new then_ : PeerState P) → OnOk r (new ≡ then_) → OnErr r (new ≡ old) → then_.exchange.format ≡ old.exchange.format → new.exchange.format ≡ old.exchange.format
  same_format (Ok x) old new then_ ok err same = ap (λ (p : PeerState P). p.exchange.format) ok ∙ same
  same_format (Err x) old new then_ ok err same = ap (λ (p : PeerState P). p.exchange.format) err
