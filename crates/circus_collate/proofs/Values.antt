-- The values that collators give.
use Rattle.std.proofs.Common.{◌≡◌, ℕ, zero, suc, ◌<◌, Bool, true, false, ◌&&◌, List, [], ◌∷◌, length, slice_get, Option, Some, None, is_none, refl, arith, if◌then◌else◌}
use Rattle.std.specs.Option.{option_map_or, option_and_then}
use Rattle.std.proofs.lemmas.Bool.{false≢true}
use Rattle.circus_collate.specs.declared.giving.Said.{Said}
use Rattle.circus_collate.specs.declared.kind.Kind.{Kind}
use Rattle.circus_collate.specs.declared.kind.Kind.TheVariants as K
use Rattle.circus_collate.specs.Giving.{first_place, passes_at, all_have_said, counts, have_equal, has_majority, has_number, majority, reached, at_least, first, first_difference, unanimous, place_of_value}
use Rattle.circus_collate.proofs.Places.{IsFirst, first_place-is}
use Rattle.circus_collate.proofs.Later.{parts_of}

-- where a test decides between a number and none
chosen : (b : Bool) (k i : ℕ) → (if b then Some k else None) ≡ Some i → (b ≡ true) × (k ≡ i)
chosen true k i e = (refl, cc)
chosen false k i e = cc

-- what passes at a place
pub some_at : {V : Type 0} (said : List (Said V)) (passes : Said V → Bool) (place : ℕ) → passes_at said passes place ≡ true → (s : Said V) × (slice_get said place ≡ Some s) × (passes s ≡ true)
some_at {V} said passes place e = by (slice_get said place) refl e
  where
    by : (o : Option (Said V)) → slice_get said place ≡ o → option_map_or passes o false ≡ true → (s : Said V) × (slice_get said place ≡ Some s) × (passes s ≡ true)
    by None is e' = absurd (false≢true e')
    by (Some s) is e' = (s, is, e')

pub below_at : {A : Type 0} (xs : List A) (i : ℕ) (x : A) → slice_get xs i ≡ Some x → i < length xs
below_at [] i x e = cc
below_at (y ∷ xs) zero x e = omega arith
below_at (y ∷ xs) (suc i) x e = omega (arith, below_at xs i x e)

module _ {V : Type 0} where
  said_first : (said : List (Said V)) (place : ℕ) → first said ≡ Some place → place < length said
  unfolding first
  said_first [] place e = cc
  said_first (s ∷ said) place e = let same : 0 ≡ place = cc in omega arith

  module _ (eq : V → V → Bool) (expected : V → List ℕ) (said : List (Said V)) where
    said_unanimous : (down : List ℕ) (place : ℕ) → unanimous eq expected said down ≡ Some place → place < length said
    unfolding unanimous
    said_unanimous down place e =
        let test = passes_at said (λ s. all_have_said said down (expected s.value)) 0 in
        let picked = chosen (test && is_none (first_difference eq said)) 0 place e in
        let at = some_at said (λ s. all_have_said said down (expected s.value)) 0 (parts_of test (is_none (first_difference eq said)) picked.0).0 in
        omega (arith, picked.1, below_at said 0 at.0 at.1)

    pub first_majority : (place : ℕ) → majority eq expected said ≡ Some place → IsFirst (λ k. counts expected said k && has_majority eq expected said k) place (length said)
    unfolding majority
    first_majority place e = first_place-is (λ k. counts expected said k && has_majority eq expected said k) (length said) place e

    -- the arrival by which a value reached its number, and the first with that value
    pub record Reaches (number place : ℕ) : Type 0 where
      pub last : ℕ
      pub reach : IsFirst (λ k. counts expected said k && has_number eq expected said number k) last (length said)
      pub first_equal : IsFirst (λ k. counts expected said k && have_equal eq said last k) place (length said)

    pub reaching : (number place : ℕ) → at_least eq expected said number ≡ Some place → Reaches number place
    unfolding at_least reached
    reaching number place e = by (first_place (λ k. counts expected said k && has_number eq expected said number k) (length said)) refl e
      where
        by : (o : Option ℕ) → first_place (λ k. counts expected said k && has_number eq expected said number k) (length said) ≡ o
            → option_and_then (λ last. first_place (λ k. counts expected said k && have_equal eq said last k) (length said)) o ≡ Some place → Reaches number place
        by None is e' = cc
        by (Some last) is e' = record {
          last = last;
          reach = first_place-is (λ k. counts expected said k && has_number eq expected said number k) (length said) last is;
          first_equal = first_place-is (λ k. counts expected said k && have_equal eq said last k) (length said) place e';
        }

    pub given_said : (kind : Kind) (down : List ℕ) (place : ℕ) → place_of_value eq expected said kind down ≡ Some place → place < length said
    given_said K.First down place e = said_first said place e
    given_said K.Watchdog down place e = said_first said place e
    given_said K.Unanimous down place e = said_unanimous down place e
    given_said K.Majority down place e = (first_majority place e).below
    given_said (K.AtLeast number) down place e = (reaching number place e).first_equal.below
