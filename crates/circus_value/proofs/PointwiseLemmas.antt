-- Two lists, compared from a place on.
use Rattle.std.proofs.Common.{◌≡◌, ℕ, zero, suc, ◌+◌, ◌<◌, ◌≤◌, Bool, true, false, not, ◌&&◌, List, [], ◌∷◌, ◌++◌, length, get_or, drop, slice_get, Some, refl, sym, ap, ◌∙◌, arith, nat_eq}
use Rattle.std.specs.Option.{option_eq}
use Rattle.std.specs.List.{concat}
use Rattle.std.specs.Cmp.Lexicographic.{pointwise}
use Rattle.std.proofs.Math.Bool.{and_assoc}
use Rattle.std.proofs.Math.ListN.{drop_of_length-le}
use Rattle.std.proofs.lemmas.Option.{slice_get_read}
use Rattle.circus_value.specs.Seen.PartEnds.{ends_from}

module _ {A : Type 0} (E : A → A → Bool) where
  -- the items at a place, and those behind them
  pub pointwise_from : (xs ys : List A) (i : ℕ) → i < length xs → i < length ys
      → pointwise E (drop i xs) (drop i ys) ≡ (option_eq E (slice_get xs i) (slice_get ys i) && pointwise E (drop (i + 1) xs) (drop (i + 1) ys))
  pointwise_from [] ys i few many = absurd (omega arith)
  pointwise_from (x ∷ xs) [] i few many = absurd (omega arith)
  pointwise_from (x ∷ xs) (y ∷ ys) zero few many = refl
  pointwise_from (x ∷ xs) (y ∷ ys) (suc i) few many =
      let next : i + 1 ≡ suc i = omega arith in
      let later : suc i + 1 ≡ suc (suc i) = omega arith in
      pointwise_from xs ys i (omega arith) (omega arith)
      ∙ ap (λ n. option_eq E (slice_get xs i) (slice_get ys i) && pointwise E (drop n xs) (drop n ys)) next
      ∙ ap (λ n. option_eq E (slice_get xs i) (slice_get ys i) && pointwise E (drop n (x ∷ xs)) (drop n (y ∷ ys))) (sym later)

  -- nothing is left
  pub pointwise_past : (xs ys : List A) (i : ℕ) → length xs ≤ i → length ys ≤ i → pointwise E (drop i xs) (drop i ys) ≡ true
  pointwise_past xs ys i all too = λ j. pointwise E (drop_of_length-le xs all j) (drop_of_length-le ys too j)

  pub pointwise-append : (xs ys zs ws : List A) → length xs ≡ length zs → pointwise E (xs ++ ys) (zs ++ ws) ≡ (pointwise E xs zs && pointwise E ys ws)
  pointwise-append [] ys [] ws same = refl
  pointwise-append [] ys (z ∷ zs) ws same = absurd (omega arith)
  pointwise-append (x ∷ xs) ys [] ws same = absurd (omega arith)
  pointwise-append (x ∷ xs) ys (z ∷ zs) ws same =
      ap (λ b. E x z && b) (pointwise-append xs ys zs ws (omega arith)) ∙ sym (and_assoc (E x z) (pointwise E xs zs) (pointwise E ys ws))

-- parts that end at the same places have the same bytes where they are the same, one by one
pub pointwise-concat : (n : ℕ) (ps qs : List (List ℕ)) → ends_from n ps ≡ ends_from n qs → pointwise nat_eq (concat ps) (concat qs) ≡ pointwise (pointwise nat_eq) ps qs
pointwise-concat n [] [] same = refl
pointwise-concat n [] (q ∷ qs) same = cc
pointwise-concat n (p ∷ ps) [] same = cc
pointwise-concat n (p ∷ ps) (q ∷ qs) same =
    let end : n + length p ≡ n + length q = cc in
    let long : length p ≡ length q = omega arith in
    let rest : ends_from (n + length p) ps ≡ ends_from (n + length q) qs = cc in
    pointwise-append nat_eq p (concat ps) q (concat qs) long
    ∙ ap (λ b. pointwise nat_eq p q && b) (pointwise-concat (n + length p) ps qs (rest ∙ ap (λ m. ends_from m qs) (sym end)))

-- what `!=` tells of `==`
pub from_not : {a b : Bool} → not a ≡ b → a ≡ not b
from_not {a = true} {b = true} e = sym e
from_not {a = true} {b = false} e = refl
from_not {a = false} {b = true} e = refl
from_not {a = false} {b = false} e = sym e

-- of two answers the second, where it is no, and the first, where the second is yes
pub and_no : (a b : Bool) → b ≡ false → b ≡ (a && b)
and_no true b e = refl
and_no false b e = e

pub and_yes : (a b : Bool) → b ≡ true → a ≡ (a && b)
and_yes true b e = sym e
and_yes false b e = refl

-- the parts at a place, read as slices
pub parts_read : (ps qs : List (List ℕ)) (i : ℕ) (p q : List ℕ) (p' q' : List ℕ) → i < length ps → i < length qs → p ≡ get_or ps i p → q ≡ get_or qs i q
    → p' ≡ p → q' ≡ q → option_eq (pointwise nat_eq) (slice_get ps i) (slice_get qs i) ≡ pointwise nat_eq p' q'
parts_read ps qs i p q p' q' few many is too at_p at_q =
    λ j. option_eq (pointwise nat_eq) ((slice_get_read ps (length ps) i p refl few is ∙ ap Some (sym at_p)) j) ((slice_get_read qs (length qs) i q refl many too ∙ ap Some (sym at_q)) j)
