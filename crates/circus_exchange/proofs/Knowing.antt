-- What is kept stays within what is known.
use Rattle.std.proofs.Common.{◌≡◌, ℕ, Bool, true, false, cond, Option, None, Some, Result, Ok, Err, refl, sym, subst, ap, ◌∙◌}
use Rattle.std.specs.Prelude.{OnOk, OnErr}
use Rattle.std.specs.Cmp.{nat_cmp_total}
use Rattle.std.specs.Ordering.{nat_cmp, eq_by_cmp}
use Rattle.std.specs.FinMap.{FinMap, empty, get, insert, remove, get-empty, get-insert, get-remove, get_tied}
use Rattle.circus_exchange.specs.Seen.Known.{AreKnown}
use Rattle.circus_exchange.proofs.Finite.{is_equal}

module _ {X : Type 0} where
  -- a number that has no value had none before one was put
  apart : (b : Bool) (v : X) (o : Option X) → cond b (Some v) o ≡ None → (b ≡ false) × (o ≡ None)
  apart true v o h = absurd cc
  apart false v o h = (refl, h)

  unput : (m : FinMap nat_cmp X) (n : ℕ) (v : X) (q : ℕ) → get (insert m n v) q ≡ None → (eq_by_cmp nat_cmp q n ≡ false) × (get m q ≡ None)
  unput m n v q h = apart (eq_by_cmp nat_cmp q n) v (get m q) (sym (get-insert nat_cmp_total m n v q) ∙ h)

module _ {X Y : Type 0} where
  pub known_nothing : (known : FinMap nat_cmp X) (kept : FinMap nat_cmp Y) → kept ≡ empty → AreKnown known kept
  known_nothing known kept none q h = ap (λ (m : FinMap nat_cmp Y). get m q) none ∙ get-empty nat_cmp q

  -- with something known under one number more
  pub known_more : (known : FinMap nat_cmp X) (kept : FinMap nat_cmp Y) (n : ℕ) (v : X) → AreKnown known kept → AreKnown (insert known n v) kept
  known_more known kept n v h q none = h q (unput known n v q none).1

  -- with something known and kept under one number
  pub known_put : (known : FinMap nat_cmp X) (kept : FinMap nat_cmp Y) (n : ℕ) (v : X) (w : Y) → AreKnown known kept → AreKnown (insert known n v) (insert kept n w)
  known_put known kept n v w h q none =
      let parts = unput known n v q none in
      get-insert nat_cmp_total kept n w q ∙ ap (λ b. cond b (Some w) (get kept q)) parts.0 ∙ h q parts.1

  -- with something kept under a number of which something is known
  pub known_kept : (known : FinMap nat_cmp X) (kept : FinMap nat_cmp Y) (n : ℕ) (w : Y) → (get known n ≡ None → ⊥) → AreKnown known kept → AreKnown known (insert kept n w)
  known_kept known kept n w some h q none =
      get-insert nat_cmp_total kept n w q
      ∙ elim (eq_by_cmp nat_cmp q n) as (λ b. eq_by_cmp nat_cmp q n ≡ b → cond b (Some w) (get kept q) ≡ None) [
        | true ↦ λ tied. absurd (some (get_tied nat_cmp_total known q n (is_equal _ tied) ∙ none))
        | false ↦ λ other. h q none
      ] refl

  pub known_less : (known : FinMap nat_cmp X) (kept : FinMap nat_cmp Y) (n : ℕ) → AreKnown known kept → AreKnown known (remove kept n)
  known_less known kept n h q none =
      get-remove nat_cmp_total kept n q ∙ ap (cond (eq_by_cmp nat_cmp q n) None) (h q none) ∙ nothing (eq_by_cmp nat_cmp q n)
    where
      nothing : (b : Bool) → ◌≡◌ {A = Option Y} (cond b None None) None
      nothing true = refl
      nothing false = refl

  -- whichever way noting ends
  pub known_noted : {T E : Type 0} (r : Result T E) (known noted : FinMap nat_cmp X) (kept : FinMap nat_cmp Y) (n : ℕ) (v : X) → OnOk r (noted ≡ insert known n v) → OnErr r (noted ≡ known) → AreKnown known kept → AreKnown noted kept
  known_noted (Ok x) known noted kept n v ok err h = subst (λ m. AreKnown m kept) (sym ok) (known_more known kept n v h)
  known_noted (Err e) known noted kept n v ok err h = subst (λ m. AreKnown m kept) (sym err) h
