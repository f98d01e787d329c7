-- Lists, by the places of what stands in them.
use Rattle.std.proofs.Common.{◌≡◌, ℕ, zero, suc, ◌<◌, ◌≤◌, List, [], ◌∷◌, ◌++◌, length, take, drop, All, Option, None, Some, refl, ap, arith}
use Rattle.std.specs.Prelude.{slice_get}
use Rattle.std.proofs.lemmas.List.Elements.{All-nil, All-cons}
use Rattle.std.proofs.lemmas.Option.{same_Some}

-- what stands at a place, between the others
pub record IsSplit {X : Type 0} (xs : List X) (n : ℕ) (x : X) : Type 0 where
  pub are : xs ≡ take n xs ++ x ∷ drop (suc n) xs
  pub long : length (take n xs) ≡ n

pub split_at : {X : Type 0} (xs : List X) (n : ℕ) (x : X) → slice_get xs n ≡ Some x → IsSplit xs n x
split_at {X} [] n x is = absurd (let clash : ◌≡◌ {A = Option X} None (Some x) = is in cc)
split_at (y ∷ xs) zero x is = record { are = ap (λ z. z ∷ xs) (same_Some y x is); long = refl }
split_at (y ∷ xs) (suc n) x is =
    let s = split_at xs n x is in
    let long = s.long in
    record { are = ap (λ l. y ∷ l) s.are; long = omega (arith, long) }

pub all_first : {X : Type 0} (P : X → Type 0) (xs : List X) (n : ℕ) → ((m : ℕ) (x : X) → m < n → slice_get xs m ≡ Some x → P x) → All P (take n xs)
all_first P xs zero each = All-nil P
all_first P [] (suc n) each = All-nil P
all_first P (x ∷ xs) (suc n) each = All-cons P x (take n xs) (each 0 x (omega arith) refl) (all_first P xs n (λ m y below is. each (suc m) y (omega (arith, below)) is))

pub all_behind : {X : Type 0} (P : X → Type 0) (xs : List X) (n : ℕ) → ((m : ℕ) (x : X) → n ≤ m → slice_get xs m ≡ Some x → P x) → All P (drop n xs)
all_behind P [] zero each = All-nil P
all_behind P [] (suc n) each = All-nil P
all_behind P (x ∷ xs) zero each = All-cons P x xs (each 0 x (omega arith) refl) (all_behind P xs zero (λ m y up is. each (suc m) y (omega arith) is))
all_behind P (x ∷ xs) (suc n) each = all_behind P xs n (λ m y up is. each (suc m) y (omega (arith, up)) is)

pub drop_front : {X : Type 0} (xs ys : List X) → drop (length xs) (xs ++ ys) ≡ ys
drop_front [] ys = refl
drop_front (x ∷ xs) ys = drop_front xs ys

pub in_front : {X : Type 0} (xs ys : List X) (n : ℕ) (x : X) → n < length xs → slice_get (xs ++ ys) n ≡ Some x → slice_get xs n ≡ Some x
in_front [] ys n x below is = absurd (omega (arith, below))
in_front (y ∷ xs) ys zero x below is = is
in_front (y ∷ xs) ys (suc n) x below is = in_front xs ys n x (omega (arith, below)) is
