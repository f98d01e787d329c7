-- Which keys of a table tie.
use Rattle.std.proofs.Common.{◌≡◌, ℕ, Bool, true, false, eqb, refl, sym, subst, ◌∙◌, inl, inr}
use Rattle.std.specs.Cmp.{nat_cmp_total, eq_by_cmp_equiv}
use Rattle.std.specs.Ordering.{nat_cmp, eq_by_cmp, is_eq}
use Rattle.std.specs.declared.cmp.Ordering.{Ordering}
use Rattle.std.specs.declared.cmp.Ordering.TheVariants.{Less, Equal, Greater}
use Rattle.std.specs.FinMap.{nat_cmp-IsAntisymmetric}
use Rattle.std.proofs.lemmas.Bool.{eqb-true, ne_eqb}
use Rattle.std.proofs.lemmas.Bool.Decides.{eqb_tells}

tie : (r : Ordering) → is_eq r ≡ true → r ≡ Equal
tie Less e = absurd cc
tie Equal e = refl
tie Greater e = absurd cc

pub alike : (a b : Bool) → (a ≡ true → b ≡ true) → (b ≡ true → a ≡ true) → a ≡ b
alike true true f g = refl
alike true false f g = sym (f refl)
alike false true f g = g refl
alike false false f g = refl

pub equal : (q : ℕ) → eqb q q ≡ true
equal q = elim (eqb_tells q q) [ inl yes_ ↦ yes_.0 | inr no_ ↦ absurd (no_.1 refl) ]

-- numbers tie where they are equal
pub nat_ties : (q k : ℕ) → eq_by_cmp nat_cmp q k ≡ eqb q k
nat_ties q k = alike _ _
    (λ h. let same : q ≡ k = nat_cmp-IsAntisymmetric q k (tie _ h) in subst (λ x. eqb q x ≡ true) same (equal q))
    (λ h. let same : q ≡ k = eqb-true q k h in subst (λ x. eq_by_cmp nat_cmp q x ≡ true) same ((eq_by_cmp_equiv nat_cmp_total).refl q))

-- another number does not
pub other_key : (q k : ℕ) → (q ≡ k → ⊥) → eq_by_cmp nat_cmp q k ≡ false
other_key q k differ = nat_ties q k ∙ ne_eqb q k differ
