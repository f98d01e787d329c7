-- The least of faults, as it is found one by one, is before none of them.
use Rattle.std.proofs.Common.{◌≡◌, ℕ, ◌⊎◌, inl, inr, Bool, true, false, cond, List, [], ◌∷◌, refl, sym, ◌∙◌, ap, subst, arith, Option, Some, None, is_none, is_some, not, nat_lt}
use Rattle.std.specs.Prelude.{Contains, ◌==◌, ◌&&◌, ◌||◌}
use Rattle.std.specs.List.{AllByRecursion}
use Rattle.std.proofs.lemmas.Bool.Decides.{nat_tests}
use Rattle.circus_fault.specs.declared.fault.Fault.{Fault}
use Rattle.circus_fault.specs.Least.{is_before, IsLeast, lesser, least_from, is_clean}
use Rattle.circus_fault.proofs.Items.{of_each, contains_first, contains_later}

-- an order of places and ranks
comes_before : ℕ → ℕ → ℕ → ℕ → Bool
comes_before p r q s = nat_lt p q || ((p == q) && nat_lt r s)

never_itself : (p r : ℕ) → comes_before p r p r ≡ false
unfolding comes_before
never_itself p r = grind (arith, nat_tests)

-- what is lesser than something is no further than that
before_later : (p r q s t u : ℕ) → comes_before p r q s ≡ false → comes_before p r t u ≡ true → comes_before t u q s ≡ false
unfolding comes_before
before_later p r q s t u first then = grind (arith, nat_tests)

-- what is not before something is not before what that is not before
not_before : (p r q s t u : ℕ) → comes_before t u q s ≡ false → comes_before p r t u ≡ false → comes_before p r q s ≡ false
unfolding comes_before
not_before p r q s t u first then = grind (arith, nat_tests)

-- what is before something is before all that comes behind that
before_before : (p r q s t u : ℕ) → comes_before p r t u ≡ true → comes_before t u q s ≡ true → comes_before p r q s ≡ true
unfolding comes_before
before_before p r q s t u first then = grind (arith, nat_tests)

-- what is_none answers
pub none_result : {F : Type 0} (r : Bool) (o : Option F) → is_some o ≡ not r → r ≡ is_none o
none_result true None is = refl
none_result false None is = absurd (cc)
none_result true (Some f) is = absurd (cc)
none_result false (Some f) is = refl

not_none : {F : Type 0} (o : Option F) → (o ≡ None → ⊥) → is_none o ≡ false
not_none None kept = absurd (kept refl)
not_none (Some f) kept = refl

-- the lesser of what is kept and of what was found, if anything was
abbrev pub joined : {C : Type 0} → (C → ℕ) → Option (Fault C) → Option (Fault C) → Option (Fault C)
joined rank best None = best
joined rank best (Some f) = lesser rank best f

module _ {C : Type 0} (rank : C → ℕ) where
  record Found (b f : Fault C) (fs : List (Fault C)) : Type 0 where
    one : (f ≡ b) ⊎ Contains fs f
    not_kept : is_before rank b f ≡ false
    others : AllByRecursion (λ g. is_before rank g f ≡ false) fs

  found_from : (b f : Fault C) (fs : List (Fault C)) → least_from rank (Some b) fs ≡ Some f → Found b f fs
  unfolding comes_before
  found_from b f [] is =
      let same : f ≡ b = cc in
      record { one = inl same; not_kept = subst (λ g. is_before rank b g ≡ false) (sym same) (never_itself b.place (rank b.cause)); others = tt }
  found_from b f (x ∷ xs) is = by_test (λ found. found_from x f xs found) (λ found. found_from b f xs found) (is_before rank x b) refl is
    where
      by_test : (least_from rank (Some x) xs ≡ Some f → Found x f xs) → (least_from rank (Some b) xs ≡ Some f → Found b f xs) → (t : Bool) → is_before rank x b ≡ t → least_from rank (cond t (Some x) (Some b)) xs ≡ Some f → Found b f (x ∷ xs)
      by_test from_x from_b true earlier is =
          let rest = from_x is in
          record {
            one = inr (elim rest.one [ inl same ↦ subst (λ g. Contains (g ∷ xs) f) same (contains_first f xs) | inr there ↦ contains_later x xs f there ]);
            not_kept = before_later x.place (rank x.cause) f.place (rank f.cause) b.place (rank b.cause) rest.not_kept earlier;
            others = (rest.not_kept, rest.others);
          }
      by_test from_x from_b false later is =
          let rest = from_b is in
          record {
            one = elim rest.one [ inl same ↦ inl same | inr there ↦ inr (contains_later x xs f there) ];
            not_kept = rest.not_kept;
            others = (not_before x.place (rank x.cause) f.place (rank f.cause) b.place (rank b.cause) rest.not_kept later, rest.others);
          }

  pub least_is : (fs : List (Fault C)) (f : Fault C) → least_from rank None fs ≡ Some f → IsLeast rank f fs
  least_is [] f is = absurd (cc)
  least_is (x ∷ xs) f is =
      let rest = found_from x f xs is in
      record {
        found = elim rest.one [ inl same ↦ subst (λ g. Contains (g ∷ xs) f) same (contains_first f xs) | inr there ↦ contains_later x xs f there ];
        first = λ g there. of_each (λ h. is_before rank h f ≡ false) (x ∷ xs) g (rest.not_kept, rest.others) there;
      }

  -- what is kept isn't lost
  pub never_lost : (b : Fault C) (fs : List (Fault C)) → least_from rank (Some b) fs ≡ None → ⊥
  never_lost b [] is = cc
  never_lost b (x ∷ xs) is = by_test (λ lost. never_lost x xs lost) (λ lost. never_lost b xs lost) (is_before rank x b) is
    where
      by_test : (least_from rank (Some x) xs ≡ None → ⊥) → (least_from rank (Some b) xs ≡ None → ⊥) → (t : Bool) → least_from rank (cond t (Some x) (Some b)) xs ≡ None → ⊥
      by_test from_x from_b true is = from_x is
      by_test from_x from_b false is = from_b is

  -- no fault is kept exactly where none is found
  pub clean_is : (fs : List (Fault C)) → is_none (least_from rank None fs) ≡ is_clean fs
  clean_is [] = refl
  clean_is (f ∷ fs) = not_none (least_from rank (Some f) fs) (never_lost f fs)

  -- where there is no least there is none
  pub no_least : (fs : List (Fault C)) → least_from rank None fs ≡ None → fs ≡ []
  no_least [] is = refl
  no_least (x ∷ xs) is = absurd (never_lost x xs is)

  -- of three faults it doesn't matter which two are compared first
  of_three : (b f g : Fault C) → lesser rank (lesser rank (Some b) f) g ≡ joined rank (Some b) (lesser rank (Some f) g)
  unfolding comes_before
  of_three b f g = by_tests (is_before rank f b) (is_before rank g f) refl refl
    where
      by_tests : (x y : Bool) → is_before rank f b ≡ x → is_before rank g f ≡ y → lesser rank (cond x (Some f) (Some b)) g ≡ joined rank (Some b) (cond y (Some g) (Some f))
      by_tests true true first then =
          ap (λ t. cond t (Some g) (Some f)) then
          ∙ sym (ap (λ t. cond t (Some g) (Some b)) (before_before g.place (rank g.cause) b.place (rank b.cause) f.place (rank f.cause) then first))
      by_tests true false first then = ap (λ t. cond t (Some g) (Some f)) then ∙ sym (ap (λ t. cond t (Some f) (Some b)) first)
      by_tests false true first then = refl
      by_tests false false first then =
          ap (λ t. cond t (Some g) (Some b)) (not_before g.place (rank g.cause) b.place (rank b.cause) f.place (rank f.cause) first then)
          ∙ sym (ap (λ t. cond t (Some f) (Some b)) first)

  of_other : (best : Option (Fault C)) (f : Fault C) (other : Option (Fault C)) → joined rank best (joined rank (Some f) other) ≡ joined rank (lesser rank best f) other
  of_other best f None = refl
  of_other None f (Some g) = either (is_before rank g f)
    where
      either : (t : Bool) → joined rank None (cond t (Some g) (Some f)) ≡ cond t (Some g) (Some f)
      either true = refl
      either false = refl
  of_other (Some b) f (Some g) = sym (of_three b f g)

  -- the least of faults, found on from what is kept, is the lesser of that and of their least
  pub least_joined : (best : Option (Fault C)) (fs : List (Fault C)) → joined rank best (least_from rank None fs) ≡ least_from rank best fs
  least_joined best [] = refl
  least_joined best (x ∷ xs) =
      ap (joined rank best) (sym (least_joined (Some x) xs))
      ∙ of_other best x (least_from rank None xs)
      ∙ least_joined (lesser rank best x) xs
