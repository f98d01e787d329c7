-- How many pass one test or another.
use Rattle.std.proofs.Common.{◌≡◌, ℕ, ◌+◌, ◌<◌, ◌≤◌, Bool, true, false, cond, ◌||◌, ◌==◌, List, [], ◌∷◌, length, count_by, refl, ap, arith}
use Rattle.std.specs.List.{list_any}
use Rattle.std.proofs.lemmas.Bool.{eq-eqb}
use Rattle.std.proofs.lemmas.List.Sums.{sum_by-cons}

or_right : (a b : Bool) → b ≡ true → (a || b) ≡ true
or_right true b e = refl
or_right false b e = e

one_le : (a b : Bool) → (a ≡ true → b ≡ true) → cond a 1 0 ≤ cond b 1 0
one_le true true h = omega arith
one_le true false h = let both : false ≡ true = h refl in cc
one_le false b h = omega arith

one_apart : (a b : Bool) → (a ≡ true → b ≡ true → ⊥) → cond a 1 0 + cond b 1 0 ≤ 1
one_apart true true h = absurd (h refl refl)
one_apart true false h = omega arith
one_apart false true h = omega arith
one_apart false false h = omega arith

module _ {X : Type 0} (p q : X → Bool) where
  -- what passes the first passes the second
  pub count_by-le : ((x : X) → p x ≡ true → q x ≡ true) → (xs : List X) → count_by p xs ≤ count_by q xs
  count_by-le h [] = omega arith
  count_by-le h (x ∷ xs) =
      omega (arith, sum_by-cons (λ y. cond (p y) 1 0) x xs, sum_by-cons (λ y. cond (q y) 1 0) x xs, one_le (p x) (q x) (h x), count_by-le h xs)

  -- nothing passes both
  pub count_by-apart : ((x : X) → p x ≡ true → q x ≡ true → ⊥) → (xs : List X) → count_by p xs + count_by q xs ≤ length xs
  count_by-apart h [] = omega arith
  count_by-apart h (x ∷ xs) =
      omega (arith, sum_by-cons (λ y. cond (p y) 1 0) x xs, sum_by-cons (λ y. cond (q y) 1 0) x xs, one_apart (p x) (q x) (h x), count_by-apart h xs)

module _ {X : Type 0} (p : X → Bool) where
  -- some passes, where any is counted
  pub count_by-some : (xs : List X) → 0 < count_by p xs → (x : X) × (p x ≡ true) × ((r : X → Bool) → r x ≡ true → list_any r xs ≡ true)
  count_by-some [] h = absurd (omega arith)
  count_by-some (x ∷ xs) h = by (count_by-some xs) (p x) refl
    where
      by : (0 < count_by p xs → (y : X) × (p y ≡ true) × ((r : X → Bool) → r y ≡ true → list_any r xs ≡ true)) → (b : Bool) → p x ≡ b
          → (y : X) × (p y ≡ true) × ((r : X → Bool) → r y ≡ true → list_any r (x ∷ xs) ≡ true)
      by later true e = (x, e, λ r here. ap (λ b. b || list_any r xs) here)
      by later false e =
          let rest : 0 < count_by p xs = omega (arith, h, sum_by-cons (λ y. cond (p y) 1 0) x xs, ap (λ b. cond {A = ℕ} b 1 0) e) in
          let (y, passes, found) = later rest in
          (y, passes, λ r here. or_right (r x) (list_any r xs) (found r here))

module _ (p q : ℕ → Bool) where
  -- what of these numbers passes the first passes the second
  pub count_by-le-among : (ns : List ℕ) → ((n : ℕ) → list_any (λ k. k == n) ns ≡ true → p n ≡ true → q n ≡ true) → count_by p ns ≤ count_by q ns
  count_by-le-among [] h = omega arith
  count_by-le-among (n ∷ ns) h =
      let rest = count_by-le-among ns (λ k among. h k (or_right (n == k) (list_any (λ m. m == k) ns) among)) in
      let here = one_le (p n) (q n) (h n (ap (λ b. b || list_any (λ m. m == n) ns) (eq-eqb n n refl))) in
      omega (arith, sum_by-cons (λ y. cond (p y) 1 0) n ns, sum_by-cons (λ y. cond (q y) 1 0) n ns, here, rest)
