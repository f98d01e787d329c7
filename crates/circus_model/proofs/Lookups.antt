-- What stands at a place of a list that grew or changed.
use Rattle.std.proofs.Common.{◌≡◌, ℕ, zero, suc, ◌<◌, Bool, true, false, cond, List, [], ◌∷◌, ◌++◌, length, Some, refl, ap, sym, ◌∙◌, ◌⊎◌, inl, inr, arith}
use Rattle.std.specs.Prelude.{Contains, find, slice_get}
use Rattle.std.proofs.lemmas.Option.{same_Some}

-- what stood there stands there still
pub grown : {X : Type 0} (xs ys : List X) (k : ℕ) (x : X) → slice_get xs k ≡ Some x → slice_get (xs ++ ys) k ≡ Some x
grown [] ys k x h = cc
grown (y ∷ xs) ys zero x h = h
grown (y ∷ xs) ys (suc k) x h = grown xs ys k x h

pub at_end : {X : Type 0} (xs : List X) (x : X) → slice_get (xs ++ x ∷ []) (length xs) ≡ Some x
at_end [] x = refl
at_end (y ∷ xs) x = at_end xs x

-- what stands there stood there before, or is what was added
pub old_or_added : {X : Type 0} (xs : List X) (y : X) (k : ℕ) (x : X) → slice_get (xs ++ y ∷ []) k ≡ Some x → (slice_get xs k ≡ Some x) ⊎ ((k ≡ length xs) × (y ≡ x))
old_or_added [] y zero x h = inr (refl, same_Some y x h)
old_or_added [] y (suc k) x h = inl h
old_or_added (z ∷ xs) y zero x h = inl h
old_or_added (z ∷ xs) y (suc k) x h =
    elim (old_or_added xs y k x h) [ inl old ↦ inl old | inr added ↦ inr (ap suc added.0, added.1) ]

-- what stands in one list behind another stands in one of them
pub in_either : {X : Type 0} (xs ys : List X) (k : ℕ) (x : X) → slice_get (xs ++ ys) k ≡ Some x → (slice_get xs k ≡ Some x) ⊎ ((j : ℕ) × (slice_get ys j ≡ Some x))
in_either [] ys k x h = inr (k, h)
in_either (y ∷ xs) ys zero x h = inl h
in_either (y ∷ xs) ys (suc k) x h = in_either xs ys k x h

-- something stands at each place within
pub within : {X : Type 0} (xs : List X) (k : ℕ) → k < length xs → (x : X) × (slice_get xs k ≡ Some x)
within [] k h = absurd (omega arith)
within (x ∷ xs) zero h = (x, refl)
within (x ∷ xs) (suc k) h = within xs k (omega arith)

-- what is found passes, and is among the others
pub record IsFound {X : Type 0} (test : X → Bool) (xs : List X) (x : X) : Type 0 where
  pub passes : test x ≡ true
  pub among : Contains xs x

pub found : {X : Type 0} (test : X → Bool) (xs : List X) (x : X) → find test xs ≡ Some x → IsFound test xs x
found test [] x h = cc
found test (y ∷ xs) x h = by_test (found test xs x) (test y) refl h
  where
    later : IsFound test xs x → IsFound test (y ∷ xs) x
    later f = record { passes = f.passes; among = (suc f.among.0, omega (arith, f.among.1), f.among.2) }

    by_test : (find test xs ≡ Some x → IsFound test xs x) → (b : Bool) → test y ≡ b → cond b (Some y) (find test xs) ≡ Some x → IsFound test (y ∷ xs) x
    by_test rest true is h =
        let same : y ≡ x = same_Some y x h in
        record { passes = ap test (sym same) ∙ is; among = (0, omega arith, same) }
    by_test rest false is h = later (rest h)
