-- What was given first in a past, step by step.
use Rattle.std.proofs.Common.{◌≡◌, ℕ, ◌<◌, ◌≤◌, inl, inr, Option, None, Some, refl, sym, ap, subst, arith}
use Rattle.std.specs.Prelude.{IsSomeAnd}
use Rattle.circus_member_theory.specs.First.{at_end, or_else, first_given}
use Rattle.circus_member_theory.specs.Past.{Past, booted, followed, now, Rises}
use Rattle.circus_headline_theory.specs.Datagrams.Due.{WasSo}
use Rattle.circus_dues.specs.Walk.{Always, IsStepOf}
use Rattle.circus_headline_theory.proofs.Agree.{was_below}

-- ---- each step of a past

pub always_at : (P : Past → Type 0) (p q : Past) → Always P p → WasSo p q → P q
always_at P booted q all same = subst P (sym same) all
always_at P (followed p step o) q all (inl same) = subst P (sym same) all.1
always_at P (followed p step o) q all (inr was) = always_at P p q all.0 was

pub always_of : (P : Past → Type 0) (p : Past) → ((q : Past) → WasSo p q → P q) → Always P p
always_of P booted each = each booted refl
always_of P (followed p step o) each = (always_of P p (λ q was. each q (inr was)), each (followed p step o) (inl refl))

pub step_below : (p : Past) (step : ℕ) → Rises p → IsStepOf step p → step ≤ now p
step_below booted step rises is = omega (arith, is)
step_below (followed p at o) step rises (inl before) = (let low = step_below p step rises.0 before in let later = rises.1 in omega (arith, low, later))
step_below (followed p at o) step rises (inr last) = omega (arith, last)

-- ---- what is given first

module _ {A : Type 0} (gives : Past → Option A) where
  -- it is given nothing, at each step
  abbrev pub IsNoneAt : Past → Type 0
  IsNoneAt q = gives q ≡ None

  pub none_each : (p : Past) → first_given gives p ≡ None → Always IsNoneAt p
  unfolding first_given
  none_each booted none = by_last (gives booted) none
    where
      by_last : (last : Option A) → at_end booted last ≡ None → last ≡ None
      by_last None is = refl
      by_last (Some a) is = cc
  none_each (followed p step o) none = (none_each p (both.0), both.1)
    where
      by_both : (before : Option (ℕ × A)) (last : Option A) → or_else before (at_end (followed p step o) last) ≡ None → (before ≡ None) × (last ≡ None)
      by_both None None is = (refl, refl)
      by_both None (Some a) is = cc
      by_both (Some given) last is = cc

      both : (first_given gives p ≡ None) × (gives (followed p step o) ≡ None)
      both = by_both (first_given gives p) (gives (followed p step o)) none

  pub none_ever : (p : Past) → Always IsNoneAt p → first_given gives p ≡ None
  unfolding first_given
  none_ever booted none = ap (at_end booted) none
  none_ever (followed p step o) none =
      (λ j. or_else (none_ever p none.0 j) (at_end (followed p step o) (none.1 j)))

  module _ (step : ℕ) (P : A → Type 0) where
    -- something is given in the step, of which that holds, and nothing before
    pub record IsGivenAt (q : Past) : Type 0 where
      pub before : now q < step → gives q ≡ None
      pub then_given : step ≡ now q → IsSomeAnd (gives q) P

    abbrev pub IsGivenFirst : Past → Type 0
    IsGivenFirst p = IsSomeAnd (first_given gives p) (λ (given : ℕ × A). (step ≡ given.0) × P given.1)

    pub given_each : (p : Past) → Rises p → IsGivenFirst p → IsStepOf step p × Always IsGivenAt p
    unfolding first_given
    given_each booted rises is = by_last (gives booted) refl is
      where
        by_last : (last : Option A) → gives booted ≡ last → IsSomeAnd (at_end booted last) (λ (given : ℕ × A). (step ≡ given.0) × P given.1) → IsStepOf step booted × IsGivenAt booted
        by_last None there h = absurd h
        by_last (Some a) there h = (h.0, record { before = (λ below. (let at = h.0 in absurd (omega (arith, at, below)))); then_given = (λ at. subst (λ o. IsSomeAnd o P) (sym there) h.1) })
    given_each (followed p at o) rises is = by_both (given_each p rises.0) (first_given gives p) refl (gives (followed p at o)) refl is
      where
        by_both : (IsGivenFirst p → IsStepOf step p × Always IsGivenAt p) → (before : Option (ℕ × A)) → first_given gives p ≡ before → (last : Option A) → gives (followed p at o) ≡ last
            → IsSomeAnd (or_else before (at_end (followed p at o) last)) (λ (given : ℕ × A). (step ≡ given.0) × P given.1) → IsStepOf step (followed p at o) × (Always IsGivenAt p × IsGivenAt (followed p at o))
        by_both earlier None none None there h = absurd h
        by_both earlier None none (Some a) there h = (
          inr h.0,
          (
            always_of IsGivenAt p
                (λ r was. record { before = (λ below. always_at IsNoneAt p r (none_each p none) was); then_given = (λ same. (let low = was_below p r rises.0 was in let later = rises.1 in let here = h.0 in absurd (omega (arith, low, later, here, same)))) }),
            record { before = (λ below. (let here = h.0 in absurd (omega (arith, here, below)))); then_given = (λ same. subst (λ o. IsSomeAnd o P) (sym there) h.1) },
          ),
        )
        by_both earlier (Some given) some last there h =
            let rest = earlier (subst (λ o. IsSomeAnd o (λ (given : ℕ × A). (step ≡ given.0) × P given.1)) (sym some) h) in
            let low = step_below p step rises.0 rest.0 in
            let later = rises.1 in
            (inl rest.0, (rest.1, record { before = (λ below. absurd (omega (arith, low, later, below))); then_given = (λ same. absurd (omega (arith, low, later, same))) }))

    pub given_first : (p : Past) → Rises p → IsStepOf step p → Always IsGivenAt p → IsGivenFirst p
    unfolding first_given
    given_first booted rises is all = by_last (gives booted) (all.then_given is)
      where
        by_last : (last : Option A) → IsSomeAnd last P → IsSomeAnd (at_end booted last) (λ (given : ℕ × A). (step ≡ given.0) × P given.1)
        by_last None h = absurd h
        by_last (Some a) h = (is, h)
    given_first (followed p at o) rises (inl before) all = by_before (first_given gives p) (given_first p rises.0 before all.0)
      where
        by_before : (earlier : Option (ℕ × A)) → IsSomeAnd earlier (λ (given : ℕ × A). (step ≡ given.0) × P given.1)
            → IsSomeAnd (or_else earlier (at_end (followed p at o) (gives (followed p at o)))) (λ (given : ℕ × A). (step ≡ given.0) × P given.1)
        by_before None h = absurd h
        by_before (Some given) h = h
    given_first (followed p at o) rises (inr last) all =
        subst (λ earlier. IsSomeAnd (or_else earlier (at_end (followed p at o) (gives (followed p at o)))) (λ (given : ℕ × A). (step ≡ given.0) × P given.1))
        (sym (none_ever p (always_of IsNoneAt p (λ r was. (always_at IsGivenAt p r all.0 was).before (below r was)))))
        (by_last (gives (followed p at o)) (all.1.then_given last))
      where
        below : (r : Past) → WasSo p r → now r < step
        below r was = (let low = was_below p r rises.0 was in let later = rises.1 in omega (arith, low, later, last))

        by_last : (given : Option A) → IsSomeAnd given P → IsSomeAnd (at_end (followed p at o) given) (λ (given : ℕ × A). (step ≡ given.0) × P given.1)
        by_last None h = absurd h
        by_last (Some a) h = (last, h)
