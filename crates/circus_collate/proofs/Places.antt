-- The first place that passes.
use Rattle.std.proofs.Common.{◌≡◌, ℕ, zero, suc, ◌<◌, ⊎_elim, Bool, true, false, ◌&&◌, Option, None, Some, if◌then◌else◌, refl, sym, ap, subst, ◌∙◌, arith}
use Rattle.std.specs.Option.{option_map_or}
use Rattle.std.proofs.lemmas.Bool.{cases_lt}
use Rattle.circus_collate.specs.Giving.{first_place}

-- the first of the places below a bound, by what is below it
abbrev joined : Option ℕ → Bool → ℕ → Option ℕ
joined before here n = option_map_or Some before (if here then Some n else None)

module _ (passes : ℕ → Bool) where
  -- nothing before a place passes, and it does
  pub first_place-found : (i n : ℕ) → first_place passes i ≡ None → passes i ≡ true → i < n → first_place passes n ≡ Some i
  first_place-found i zero none here below = absurd (omega arith)
  first_place-found i (suc n) none here below =
      ⊎_elim
      (λ less. ap (λ o. joined o (passes n) n) (first_place-found i n none here less))
      (λ past.
      let same : i ≡ n = omega arith in
      (λ j. joined (subst (λ k. first_place passes k ≡ None) same none j) (subst (λ k. passes k ≡ true) same here j) n) ∙ ap Some (sym same))
      (cases_lt i n)

  -- it is below the bound, passes, and none before it does
  pub record IsFirst (i n : ℕ) : Type 0 where
    pub below : i < n
    pub here : passes i ≡ true
    pub before : (k : ℕ) → k < i → passes k ≡ false

  none_from : (n : ℕ) (before : Option ℕ) (here : Bool) → joined before here n ≡ None → (before ≡ None) × (here ≡ false)
  none_from n None true e = cc
  none_from n None false e = (refl, refl)
  none_from n (Some k) here e = cc

  -- none passes
  pub first_place-none : (n : ℕ) → first_place passes n ≡ None → (k : ℕ) → k < n → passes k ≡ false
  first_place-none zero e k below = absurd (omega arith)
  first_place-none (suc n) e k below =
      let parts = none_from n (first_place passes n) (passes n) e in
      ⊎_elim (λ less. first_place-none n parts.0 k less)
      (λ past. let same : n ≡ k = omega arith in subst (λ m. passes m ≡ false) same parts.1) (cases_lt k n)

  pub first_place-is : (n i : ℕ) → first_place passes n ≡ Some i → IsFirst i n
  first_place-is zero i e = cc
  first_place-is (suc n) i e = by (first_place-is n i) (first_place passes n) refl (passes n) refl e
    where
      by : (first_place passes n ≡ Some i → IsFirst i n) → (before : Option ℕ) → first_place passes n ≡ before → (here : Bool) → passes n ≡ here → joined before here n ≡ Some i → IsFirst i (suc n)
      by earlier (Some k) before here at e' =
          let same : k ≡ i = cc in
          let first = earlier (before ∙ ap Some same) in
          record { below = omega (arith, first.below); here = first.here; before = first.before }
      by earlier None before true at e' =
          let same : n ≡ i = cc in
          subst (λ m. IsFirst m (suc n)) same (record { below = omega arith; here = at; before = first_place-none n before })
      by earlier None before false at e' = cc

  -- where none passes there is none
  pub first_place-nothing : (n : ℕ) → ((k : ℕ) → k < n → passes k ≡ false) → first_place passes n ≡ None
  first_place-nothing zero none = refl
  first_place-nothing (suc n) none = λ j. joined (first_place-nothing n (λ k less. none k (omega arith)) j) (none n (omega arith) j) n

  -- it is the only one that is
  pub first_place-only : (n i : ℕ) → IsFirst i n → first_place passes n ≡ Some i
  first_place-only n i first = first_place-found i n (first_place-nothing i first.before) first.here first.below

pub both_pass : {a b : Bool} → a ≡ true → b ≡ true → (a && b) ≡ true
both_pass p q = λ j. p j && q j
