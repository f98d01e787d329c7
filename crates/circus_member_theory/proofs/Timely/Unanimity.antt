-- Under UNANIMOUS a value is given only where each that is expected and isn't down has said something, and all of it is equal.
use Rattle.std.proofs.Common.{◌≡◌, ℕ, zero, suc, ◌<◌, Bool, true, false, not, ◌&&◌, ◌||◌, ◌==◌, List, [], ◌∷◌, length, slice_get, Option, Some, None, is_none, refl, sym, ap, subst, ◌∙◌, if◌then◌else◌}
use Rattle.std.specs.List.{list_any, list_all}
use Rattle.std.proofs.lemmas.Bool.{false≢true, eqb-true}
use Rattle.std.proofs.lemmas.Option.{same_Some}
use Rattle.circus_value.specs.Among.{is_among}
use Rattle.circus_collate.specs.declared.giving.Said.{Said}
use Rattle.circus_collate.specs.Giving.{is_from, passes_at, all_have_said, have_equal, first_difference, unanimous}
use Rattle.circus_member_theory.specs.Counting.{HasSaid, IsUnanimous}
use Rattle.circus_collate.proofs.Places.{first_place-none}
use Rattle.circus_collate.proofs.Later.{parts_of}
use Rattle.circus_collate.proofs.Values.{some_at, below_at}

-- ---- lists

or_true : (b : Bool) → (b || true) ≡ true
or_true true = refl
or_true false = refl

module _ {X : Type 0} (p : X → Bool) where
  -- an element that passes stands somewhere
  pub any_at : (xs : List X) → list_any p xs ≡ true → (place : ℕ) × (x : X) × (slice_get xs place ≡ Some x) × (p x ≡ true)
  any_at [] is = absurd (false≢true is)
  any_at (x ∷ xs) is = by_test (any_at xs) (p x) refl is
    where
      by_test : (list_any p xs ≡ true → (place : ℕ) × (y : X) × (slice_get xs place ≡ Some y) × (p y ≡ true)) → (b : Bool) → p x ≡ b
          → (b || list_any p xs) ≡ true → (place : ℕ) × (y : X) × (slice_get (x ∷ xs) place ≡ Some y) × (p y ≡ true)
      by_test rest true here some = (0, x, refl, here)
      by_test rest false here some = let r = rest some in (suc r.0, r.1, r.2, r.3)

  pub any_of : (xs : List X) (place : ℕ) (x : X) → slice_get xs place ≡ Some x → p x ≡ true → list_any p xs ≡ true
  any_of [] place x there is = cc
  any_of (y ∷ xs) zero x there is = ap (λ b. b || list_any p xs) (ap p (same_Some y x there) ∙ is)
  any_of (y ∷ xs) (suc place) x there is = ap (λ b. p y || b) (any_of xs place x there is) ∙ or_true (p y)

  all_at : (xs : List X) (place : ℕ) (x : X) → list_all p xs ≡ true → slice_get xs place ≡ Some x → p x ≡ true
  all_at [] place x are there = cc
  all_at (y ∷ xs) zero x are there = subst (λ z. p z ≡ true) (same_Some y x there) (parts_of (p y) (list_all p xs) are).0
  all_at (y ∷ xs) (suc place) x are there = all_at xs place x (parts_of (p y) (list_all p xs) are).1 there

either_false : (a b : Bool) → a ≡ false → (a || b) ≡ true → b ≡ true
either_false true b is some = absurd (false≢true (sym is))
either_false false b is some = some

-- ---- what was said

chosen : (b : Bool) (k i : ℕ) → (if b then Some k else None) ≡ Some i → (b ≡ true) × (k ≡ i)
chosen true k i e = (refl, cc)
chosen false k i e = cc

none_from : {A : Type 0} (o : Option A) → is_none o ≡ true → o ≡ None
none_from None is = refl
none_from (Some x) is = cc

from_not : (b : Bool) → not b ≡ false → b ≡ true
from_not true is = refl
from_not false is = cc

module _ {V : Type 0} (eq : V → V → Bool) (expected : V → List ℕ) (said : List (Said V)) (down : List ℕ) (place : ℕ) where
  unanimous_is : unanimous eq expected said down ≡ Some place
      → (s : Said V) × (slice_get said 0 ≡ Some s) × (0 ≡ place) × (all_have_said said down (expected s.value) ≡ true)
      × ((other : ℕ) → other < length said → have_equal eq said 0 other ≡ true)
  unfolding unanimous first_difference
  unanimous_is e =
      let test = passes_at said (λ s. all_have_said said down (expected s.value)) 0 in
      let picked = chosen (test && is_none (first_difference eq said)) 0 place e in
      let parts = parts_of test (is_none (first_difference eq said)) picked.0 in
      let at = some_at said (λ s. all_have_said said down (expected s.value)) 0 parts.0 in
      let none = none_from (first_difference eq said) parts.1 in (
        at.0,
        at.1,
        picked.1,
        at.2,
        λ other below. from_not (have_equal eq said 0 other)
            (first_place-none (λ k. not (have_equal eq said 0 k)) (length said) none other below),
      )

  module _ (e : unanimous eq expected said down ≡ Some place) where
    -- the first that arrived is given
    unanimous_first : place ≡ 0
    unanimous_first = sym (unanimous_is e).2

    module _ (s : Said V) (there : slice_get said place ≡ Some s) where
      given_is : (unanimous_is e).0 ≡ s
      given_is = let u = unanimous_is e in same_Some u.0 s (sym u.1 ∙ ap (slice_get said) u.2 ∙ there)

      -- each that is expected to say it and isn't down has said something
      unanimous_heard : (node : ℕ) → is_among (expected s.value) node ≡ true → is_among down node ≡ false → HasSaid said node
      unfolding all_have_said
      unanimous_heard node is up =
          let u = unanimous_is e in
          let h = any_at (λ n. n == node) (expected s.value) is in
          let all : list_all (λ n. is_among down n || list_any (is_from n) said) (expected s.value) ≡ true =
          subst (λ (x : Said V). all_have_said said down (expected x.value) ≡ true) given_is u.3 in
          let same : h.1 ≡ node = eqb-true h.1 node h.3 in
          let one : (is_among down node || list_any (is_from node) said) ≡ true =
          subst (λ n. (is_among down n || list_any (is_from n) said) ≡ true) same
          (all_at (λ n. is_among down n || list_any (is_from n) said) (expected s.value) h.0 h.1 all h.2) in
          let a = any_at (is_from node) said (either_false (is_among down node) (list_any (is_from node) said) up one) in
          record { place = a.0; one = a.1; there = a.2; of_node = eqb-true a.1.node node a.3 }

      -- and all of it is equal
      unanimous_equal : (at : ℕ) (t : Said V) → slice_get said at ≡ Some t → eq s.value t.value ≡ true
      unfolding have_equal
      unanimous_equal at t is =
          let u = unanimous_is e in
          let equal = u.4 at (below_at said at t is) in
          let one = some_at said (λ x. passes_at said (λ y. eq x.value y.value) at) 0 equal in
          let other = some_at said (λ y. eq one.0.value y.value) at one.2 in
          let same : one.0 ≡ s = same_Some one.0 s (sym one.1 ∙ ap (slice_get said) u.2 ∙ there) in
          let also : other.0 ≡ t = same_Some other.0 t (sym other.1 ∙ is) in
          (λ j. eq (sym same j).value (sym also j).value) ∙ other.2

    pub is_unanimous : IsUnanimous eq expected down said place
    is_unanimous =
        record {
          first = unanimous_first;
          heard = λ s node there is up. unanimous_heard s there node is up;
          equal = λ at s t there is. unanimous_equal s there at t is;
        }
