-- What a module reaches it reaches by imports, step by step, and the other way round.
use Rattle.std.proofs.Common.{◌≡◌, ℕ, zero, suc, ◌+◌, ◌<◌, Bool, true, false, cond, List, [], ◌∷◌, ◌++◌, refl, sym, ◌∙◌, subst, arith, ◌⊎◌, inl, inr, ⊎_elim, ◌↔◌}
use Rattle.std.specs.Prelude.{◌==◌, ◌||◌, slice_get, Contains}
use Rattle.std.specs.List.{list_any}
use borrow.Author.Tests.{eqb-true}
use Rattle.circus_fault.proofs.Items.{contains_first, contains_later}
use Rattle.circus_syntax.specs.declared.named.Named.{Named}
use Rattle.circus_lang.specs.ModuleTree.{ModuleTree}
use Rattle.circus_check.specs.Naming.{Import, good, forward, no_module, import_of}
use Rattle.circus_check.specs.Meaning.{import_number, import_numbers}
use Rattle.circus_check.specs.Reach.{by_imports, imports_of, reaches_below, reaches}
use Rattle.circus_check.specs.ReachByImports.{Imports, ReachesByImports, itself, through}
use Rattle.circus_check.proofs.Reaching.{by_numbers}
use Rattle.circus_check.proofs.Alone.{reaches_itself, reaches_through}
use Rattle.circus_check.proofs.Declared.{contains_cases}
use Rattle.circus_check.proofs.Named.{good_is_earlier}

-- some number passes where any does
any_number : (test : ℕ → Bool) (xs : List ℕ) → list_any test xs ≡ true → (x : ℕ) × (Contains xs x) × (test x ≡ true)
any_number test [] passes = absurd (cc)
any_number test (x ∷ xs) passes = by (any_number test xs) (test x) refl passes
  where
    by : (list_any test xs ≡ true → (y : ℕ) × (Contains xs y) × (test y ≡ true)) → (b : Bool) → test x ≡ b → (b || list_any test xs) ≡ true
        → (y : ℕ) × (Contains (x ∷ xs) y) × (test y ≡ true)
    by later true is some = (x, contains_first x xs, is)
    by later false is some = let (y, there, is_good) = later some in (y, contains_later x xs y there, is_good)

either : (a b : Bool) → (a || b) ≡ true → (a ≡ true) ⊎ (b ≡ true)
either true b is = inl refl
either false b is = inr is

module _ (modules : List ModuleTree) where
  -- a good import is of an earlier module
  import_below : (i : ℕ) (ns : List Named) (k : ℕ) → Contains (import_numbers modules i ns) k → k < i
  import_below i [] k (at, below, is) = absurd (omega arith)
  import_below i (n ∷ ns) k there = by (import_of modules i n) refl there (λ later. import_below i ns k later)
    where
      by : (x : Import) → import_of modules i n ≡ x → Contains (import_number x ++ import_numbers modules i ns) k → (Contains (import_numbers modules i ns) k → k < i) → k < i
      by (good g) is among rest =
          ⊎_elim (λ same. subst (λ m. m < i) same (good_is_earlier modules i n g is).below) rest
          (contains_cases g (import_numbers modules i ns) k among)
      by forward is among rest = rest among
      by no_module is among rest = rest among

  -- what is reached is reached by imports
  reached_below : (n i j : ℕ) → reaches_below modules n i j ≡ true → ReachesByImports modules i j
  reached_below zero i j is = absurd (cc)
  reached_below (suc n) i j is = by (λ k reached. reached_below n k j reached) (i == n) refl is
    where
      imported : by_imports (reaches_below modules n) modules n (imports_of (slice_get modules n)) j ≡ true
          → (k : ℕ) × (Imports modules n k) × (reaches_below modules n k j ≡ true)
      imported some =
          any_number (λ k. reaches_below modules n k j) (import_numbers modules n (imports_of (slice_get modules n)))
          (sym (by_numbers (reaches_below modules n) modules n (imports_of (slice_get modules n)) j) ∙ some)

      own : ((k : ℕ) → reaches_below modules n k j ≡ true → ReachesByImports modules k j)
          → ((n == j) || by_imports (reaches_below modules n) modules n (imports_of (slice_get modules n)) j) ≡ true → ReachesByImports modules n j
      own earlier some =
          ⊎_elim (λ same. subst (λ m. ReachesByImports modules n m) (eqb-true n j same) (itself n))
          (λ more. let (k, import, reached) = imported more in through n k j import (earlier k reached))
          (either (n == j) (by_imports (reaches_below modules n) modules n (imports_of (slice_get modules n)) j) some)

      by : ((k : ℕ) → reaches_below modules n k j ≡ true → ReachesByImports modules k j) → (b : Bool) → (i == n) ≡ b
          → cond b ((n == j) || by_imports (reaches_below modules n) modules n (imports_of (slice_get modules n)) j) (reaches_below modules n i j) ≡ true
          → ReachesByImports modules i j
      by earlier false differ some = earlier i some
      by earlier true same some = subst (λ m. ReachesByImports modules m j) (sym (eqb-true i n same)) (own earlier some)

  -- and the other way round
  steps_reach : (i j : ℕ) → ReachesByImports modules i j → reaches modules i j ≡ true
  steps_reach i j (itself n) = reaches_itself modules n
  steps_reach i j (through n k end imported rest) =
      reaches_through modules n k end imported (import_below n (imports_of (slice_get modules n)) k imported) (steps_reach k end rest)

  pub reaches_are_steps : (i j : ℕ) → (reaches modules i j ≡ true) ↔ ReachesByImports modules i j
  reaches_are_steps i j = (reached_below (i + 1) i j, steps_reach i j)
