-- What can be told of bytes: whether they are others, or spell a number.
use Rattle.std.proofs.Common.{◌≡◌, ℕ, zero, suc, ◌<◌, ◌⊎◌, inl, inr, Bool, true, false, List, subst, refl, arith}
use Rattle.std.specs.Prelude.{bytes_eq}
use Rattle.std.specs.Fmt.{decimal}
use Rattle.std.proofs.lemmas.Bool.{cases_lt}
use Rattle.std.proofs.lemmas.Bool.Decides.{not_from_Decides}
use Rattle.std.proofs.lemmas.Slice.Eq.{bytes_eq-Decides}

-- it holds, or it doesn't
abbrev pub IsDecided : Type 0 → Type 0
IsDecided P = P ⊎ (P → ⊥)

pub decided_as : (P Q : Type 0) → (P → Q) → (Q → P) → IsDecided P → IsDecided Q
decided_as P Q there back (inl holds) = inl (there holds)
decided_as P Q there back (inr fails) = inr (λ q. fails (back q))

pub decided_both : (P Q : Type 0) → IsDecided P → IsDecided Q → IsDecided (P × Q)
decided_both P Q (inl p) (inl q) = inl (p, q)
decided_both P Q (inl p) (inr fails) = inr (λ both. fails both.1)
decided_both P Q (inr fails) q = inr (λ both. fails both.0)

pub same_bytes : (xs ys : List ℕ) → IsDecided (xs ≡ ys)
same_bytes xs ys = by_test (bytes_eq xs ys) refl
  where
    by_test : (b : Bool) → bytes_eq xs ys ≡ b → IsDecided (xs ≡ ys)
    by_test true same = inl ((bytes_eq-Decides xs ys).0 same)
    by_test false other = inr (not_from_Decides (bytes_eq xs ys) (bytes_eq-Decides xs ys) other)

-- some number below a limit
abbrev pub Some_below : (ℕ → Type 0) → ℕ → Type 0
Some_below P limit = (n : ℕ) × (n < limit) × P n

pub decided_below : (P : ℕ → Type 0) → ((n : ℕ) → IsDecided (P n)) → (limit : ℕ) → IsDecided (Some_below P limit)
decided_below P each zero = inr (λ (n, low, holds). omega (arith, low))
decided_below P each (suc limit) = last (each limit) (decided_below P each limit)
  where
    last : IsDecided (P limit) → IsDecided (Some_below P limit) → IsDecided (Some_below P (suc limit))
    last (inl holds) before = inl (limit, omega arith, holds)
    last (inr fails) (inl (n, low, holds)) = inl (n, omega (arith, low), holds)
    last (inr fails) (inr none) = inr (λ (n, low, holds). elim (cases_lt n limit) [
      | inl below ↦ none (n, below, holds)
      | inr above ↦ (let same : n ≡ limit = omega (arith, low, above) in fails (subst P same holds))
    ])

pub decided_number : (bytes : List ℕ) (limit : ℕ) → IsDecided (Some_below (λ n. bytes ≡ decimal n) limit)
decided_number bytes limit = decided_below _ (λ n. same_bytes bytes (decimal n)) limit
