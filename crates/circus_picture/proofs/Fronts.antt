-- What is made of a list, item by item.
use Rattle.std.proofs.Common.{◌≡◌, ℕ, suc, ◌+◌, ◌<◌, List, [], ◌∷◌, ◌++◌, length, take, drop, get_or, sym, ap, ◌∙◌, append_assoc, append-nil, add-one, drop-cons, arith}
use Rattle.std.proofs.lemmas.List.{take_more, length-take}

-- what stands at a place, and then the others
pub drop_here : {A : Type 0} (xs : List A) (i : ℕ) (x : A) → i < length xs → x ≡ get_or xs i x → drop i xs ≡ x ∷ drop (i + 1) xs
drop_here xs i x below is =
    let split : drop i xs ≡ get_or xs i x ∷ drop (i + 1) xs = rw add-one (drop-cons xs i x below) in
    split ∙ ap (λ y. y ∷ drop (i + 1) xs) (sym is)

-- where any value stands in for one that isn't there
pub drop_read : {A : Type 0} (xs : List A) (i : ℕ) (d : A) → i < length xs → drop i xs ≡ get_or xs i d ∷ drop (i + 1) xs
drop_read xs i d below = rw add-one (drop-cons xs i d below)

-- of items, each with its number
module _ {A B : Type 0} (all : ℕ → List A → List B) (one : ℕ → A → List B) (none : (n : ℕ) → all n [] ≡ []) (step : (n : ℕ) (x : A) (xs : List A) → all n (x ∷ xs) ≡ one n x ++ all (n + 1) xs) where
  -- of two lists joined
  joined : (n : ℕ) (xs ys : List A) → all n (xs ++ ys) ≡ all n xs ++ all (n + length xs) ys
  joined n [] ys = ap (λ k. all k ys) (omega arith) ∙ sym (ap (λ l. l ++ all (n + 0) ys) (none n))
  joined n (x ∷ xs) ys =
      step n x (xs ++ ys) ∙ ap (λ l. one n x ++ l) (joined (n + 1) xs ys ∙ ap (λ k. all (n + 1) xs ++ all k ys) (omega arith))
      ∙ sym (append_assoc (one n x) (all (n + 1) xs) (all (n + suc (length xs)) ys)) ∙ ap (λ l. l ++ all (n + suc (length xs)) ys) (sym (step n x xs))

  -- of the front with one more item
  pub front_more : (n : ℕ) (xs : List A) (i : ℕ) (x : A) → i < length xs → x ≡ get_or xs i x → all n (take (i + 1) xs) ≡ all n (take i xs) ++ one (n + i) x
  front_more n xs i x below is =
      ap (all n) (take_more xs i x below) ∙ joined n (take i xs) (get_or xs i x ∷ [])
      ∙ ap (λ l. all n (take i xs) ++ l) (step (n + length (take i xs)) (get_or xs i x) [] ∙ ap (λ l. one (n + length (take i xs)) (get_or xs i x) ++ l) (none (n + length (take i xs) + 1)) ∙ append-nil (one (n + length (take i xs)) (get_or xs i x)))
      ∙ ap (λ k. all n (take i xs) ++ one (n + k) (get_or xs i x)) (length-take i xs ∙ omega (arith, below))
      ∙ ap (λ y. all n (take i xs) ++ one (n + i) y) (sym is)
