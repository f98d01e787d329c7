-- Items that are written anew, one after the other.
use Rattle.std.proofs.Common.{◌≡◌, ℕ, zero, suc, ◌+◌, ◌<◌, ◌≤◌, List, [], ◌∷◌, length, map, get_or, refl, ap, ◌∙◌, arith}
use Rattle.std.proofs.Math.ListN.{set}

module _ {A : Type 0} (f : A → A) where
  -- once so many of the first are written
  abbrev pub written : ℕ → List A → List A
  written zero xs = xs
  written (suc i) [] = []
  written (suc i) (x ∷ xs) = f x ∷ written i xs

  pub length-written : (i : ℕ) (xs : List A) → length (written i xs) ≡ length xs
  length-written zero xs = refl
  length-written (suc i) [] = refl
  length-written (suc i) (x ∷ xs) = ap suc (length-written i xs)

  same : (i : ℕ) (xs : List A) (d : A) → get_or (written i xs) i d ≡ get_or xs i d
  same zero xs d = refl
  same (suc i) [] d = refl
  same (suc i) (x ∷ xs) d = same i xs d

  next : (i : ℕ) (xs : List A) (d : A) → i < length xs → set (written i xs) i (f (get_or xs i d)) ≡ written (suc i) xs
  next zero [] d few = absurd (omega arith)
  next zero (x ∷ xs) d few = refl
  next (suc i) [] d few = absurd (omega arith)
  next (suc i) (x ∷ xs) d few = ap (λ ys. f x ∷ ys) (next i xs d (omega arith))

  all : (i : ℕ) (xs : List A) → length xs ≤ i → written i xs ≡ map f xs
  all zero [] few = refl
  all zero (x ∷ xs) few = absurd (omega arith)
  all (suc i) [] few = refl
  all (suc i) (x ∷ xs) few = ap (λ ys. f x ∷ ys) (all i xs (omega arith))

  -- the item at a place is written
  pub written_more : (xs ys : List A) (i : ℕ) (y d : A) → ys ≡ written i xs → i < length xs → y ≡ f (get_or ys i d) → set ys i y ≡ written (i + 1) xs
  written_more xs ys i y d so_far few made =
      let one_more : suc i ≡ i + 1 = omega arith in
      ap (λ zs. set zs i y) so_far
      ∙ ap (set (written i xs) i) (made ∙ ap f (ap (λ zs. get_or zs i d) so_far ∙ same i xs d))
      ∙ next i xs d few ∙ ap (λ n. written n xs) one_more

  pub written_all : (xs ys : List A) (i : ℕ) → ys ≡ written i xs → length ys ≤ i → ys ≡ map f xs
  written_all xs ys i so_far few = so_far ∙ all i xs (omega (arith, ap length so_far, length-written i xs))
