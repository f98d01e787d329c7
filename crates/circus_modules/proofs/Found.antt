-- What is found by its number.
use Rattle.std.proofs.Common.{◌≡◌, ◌≢◌, inl, inr, ℕ, arith, Bool, true, false, cond, List, [], ◌∷◌, Some, map, refl, sym, ◌∙◌, ap, subst, eq-eqb, ne_eqb}
use Rattle.std.specs.Prelude.{Contains, ◌==◌, find, option_map}
use Rattle.std.proofs.lemmas.Bool.{cases_eq}
use Rattle.std.proofs.lemmas.Option.{same_Some}
use Rattle.circus_type.specs.Distinct.{AreDistinct}
use Rattle.circus_fault.proofs.Items.{contains_first, contains_later, of_each}
use Rattle.circus_check.proofs.Declared.{contains_cases}

pub contains_none : {X : Type 0} (x : X) → Contains [] x → ⊥
contains_none x (k, below, is) = absurd (omega arith)

contains_mapped : {X Y : Type 0} (f : X → Y) (xs : List X) (x : X) → Contains xs x → Contains (map f xs) (f x)
contains_mapped f [] x there = absurd (contains_none x there)
contains_mapped f (y ∷ ys) x there = elim (contains_cases y ys x there) [
  | inl same ↦ subst (λ z. Contains (f y ∷ map f ys) (f z)) same (contains_first (f y) (map f ys))
  | inr later ↦ contains_later (f y) (map f ys) (f x) (contains_mapped f ys x later)
]

module _ {X : Type 0} where
  -- what is found among images is the image of what is found
  pub find_map : {Y : Type 0} (f : X → Y) (test : Y → Bool) (xs : List X) → find test (map f xs) ≡ option_map f (find (λ x. test (f x)) xs)
  find_map f test [] = refl
  find_map f test (x ∷ xs) = more (test (f x)) (find_map f test xs)
    where
      more : (b : Bool) → find test (map f xs) ≡ option_map f (find (λ y. test (f y)) xs) → cond b (Some (f x)) (find test (map f xs)) ≡ option_map f (cond b (Some x) (find (λ y. test (f y)) xs))
      more true rest = refl
      more false rest = rest

  -- what is found passes
  pub found_passes : (test : X → Bool) (xs : List X) (x : X) → find test xs ≡ Some x → test x ≡ true
  found_passes test [] x is = absurd (cc)
  found_passes test (y ∷ ys) x is = more (test y) refl is (found_passes test ys x)
    where
      more : (b : Bool) → test y ≡ b → cond b (Some y) (find test ys) ≡ Some x → (find test ys ≡ Some x → test x ≡ true) → test x ≡ true
      more true passes is later = ap test (sym (same_Some y x is)) ∙ passes
      more false passes is later = later is

  -- where numbers are distinct, an item is the first of its number
  pub first_of_number : (number : X → ℕ) (xs : List X) (x : X) → AreDistinct (map number xs) → Contains xs x → find (λ y. number y == number x) xs ≡ Some x
  first_of_number number [] x distinct there = absurd (contains_none x there)
  first_of_number number (y ∷ ys) x distinct there = elim (contains_cases y ys x there) [
    | inl same ↦ ap (λ b. cond b (Some y) (find (λ z. number z == number x) ys)) (eq-eqb (number y) (number x) (ap number same)) ∙ ap Some same
    | inr later ↦
        let other : number y ≢ number x = of_each (λ n. number y ≢ n) (map number ys) (number x) distinct.0 (contains_mapped number ys x later) in
        ap (λ b. cond b (Some y) (find (λ z. number z == number x) ys)) (ne_eqb (number y) (number x) other) ∙ first_of_number number ys x distinct.1 later
  ]

-- a number that is among others is found
pub number_found : (ns : List ℕ) (n : ℕ) → Contains ns n → find (λ m. m == n) ns ≡ Some n
number_found [] n there = absurd (contains_none n there)
number_found (m ∷ ms) n there = elim (cases_eq m n) [
  | inl same ↦ ap (λ b. cond b (Some m) (find (λ k. k == n) ms)) (eq-eqb m n same) ∙ ap Some same
  | inr other ↦
      ap (λ b. cond b (Some m) (find (λ k. k == n) ms)) (ne_eqb m n other)
      ∙ number_found ms n (elim (contains_cases m ms n there) [ inl same ↦ absurd (other same) | inr later ↦ later ])
]
