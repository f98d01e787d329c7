-- The lines of lists that grow at their end, and texts to which they are added one by one.
use Rattle.std.proofs.Common.{◌≡◌, ℕ, suc, ◌+◌, ◌<◌, List, [], ◌∷◌, ◌++◌, length, take, get_or, refl, sym, ap, ◌∙◌, append_assoc, append-nil, arith}
use Rattle.std.specs.Fmt.{decimal}
use Rattle.std.proofs.lemmas.Grind.{get_or_default_zero}
use Rattle.std.proofs.lemmas.List.{take_more, length-take}
use Rattle.circus_value.specs.ThreadText.{numbers_behind}

-- lines of items, each with its number
module _ {A : Type 0} (all : ℕ → List A → List ℕ) (one : ℕ → A → List ℕ) (none : (n : ℕ) → all n [] ≡ []) (step : (n : ℕ) (x : A) (xs : List A) → all n (x ∷ xs) ≡ one n x ++ all (n + 1) xs) where
  -- of two lists joined
  pub all_append : (n : ℕ) (xs ys : List A) → all n (xs ++ ys) ≡ all n xs ++ all (n + length xs) ys
  all_append n [] ys = ap (λ k. all k ys) (omega arith) ∙ sym (ap (λ l. l ++ all (n + 0) ys) (none n))
  all_append n (x ∷ xs) ys =
      step n x (xs ++ ys) ∙ ap (λ l. one n x ++ l) (all_append (n + 1) xs ys ∙ ap (λ k. all (n + 1) xs ++ all k ys) (omega arith))
      ∙ sym (append_assoc (one n x) (all (n + 1) xs) (all (n + suc (length xs)) ys)) ∙ ap (λ l. l ++ all (n + suc (length xs)) ys) (sym (step n x xs))

  -- of the front with one more item
  pub all_more : (n : ℕ) (xs : List A) (i : ℕ) (d : A) → i < length xs → all n (take (i + 1) xs) ≡ all n (take i xs) ++ one (n + i) (get_or xs i d)
  all_more n xs i d below =
      ap (all n) (take_more xs i d below) ∙ all_append n (take i xs) (get_or xs i d ∷ [])
      ∙ ap (λ l. all n (take i xs) ++ l) (step (n + length (take i xs)) (get_or xs i d) [] ∙ ap (λ l. one (n + length (take i xs)) (get_or xs i d) ++ l) (none (n + length (take i xs) + 1)) ∙ append-nil (one (n + length (take i xs)) (get_or xs i d)))
      ∙ ap (λ k. all n (take i xs) ++ one (n + k) (get_or xs i d)) (length-take i xs ∙ omega (arith, below))

  -- where the item has another name, too
  pub item_more : (n : ℕ) (xs : List A) (i : ℕ) (x : A) → i < length xs → x ≡ get_or xs i x → all n (take (i + 1) xs) ≡ all n (take i xs) ++ one (n + i) x
  item_more n xs i x below is = all_more n xs i x below ∙ ap (λ y. all n (take i xs) ++ one (n + i) y) (sym is)

  -- where the first item has number 0
  pub more_from_none : (xs : List A) (i : ℕ) (x : A) → i < length xs → x ≡ get_or xs i x → all 0 (take (i + 1) xs) ≡ all 0 (take i xs) ++ one i x
  more_from_none xs i x below is = item_more 0 xs i x below is ∙ ap (λ k. all 0 (take i xs) ++ one k x) (omega arith)

  -- where the lines of an item are added, those of the front with it are
  pub item_added : (old text next : List ℕ) (n : ℕ) (xs : List A) (i : ℕ) (x : A) → i < length xs → x ≡ get_or xs i x → text ≡ old ++ all n (take i xs) → next ≡ text ++ one (n + i) x
      → next ≡ old ++ all n (take (i + 1) xs)
  item_added old text next n xs i x below is so_far added =
      added ∙ ap (λ l. l ++ one (n + i) x) so_far ∙ append_assoc old (all n (take i xs)) (one (n + i) x) ∙ ap (λ l. old ++ l) (sym (item_more n xs i x below is))

  -- where the first item has number 0
  pub item_added_from_none : (old text next : List ℕ) (xs : List A) (i : ℕ) (x : A) → i < length xs → x ≡ get_or xs i x → text ≡ old ++ all 0 (take i xs) → next ≡ text ++ one i x → next ≡ old ++ all 0 (take (i + 1) xs)
  item_added_from_none old text next xs i x below is so_far added =
      added ∙ ap (λ l. l ++ one i x) so_far ∙ append_assoc old (all 0 (take i xs)) (one i x) ∙ ap (λ l. old ++ l) (sym (more_from_none xs i x below is))

-- where a number is added behind its mark, those of the front with it are
pub number_added : (mark : ℕ) (old text next numbers : List ℕ) (i : ℕ) → i < length numbers → text ≡ old ++ numbers_behind mark (take i numbers)
    → next ≡ text ++ mark ∷ decimal (get_or numbers i 0) → next ≡ old ++ numbers_behind mark (take (i + 1) numbers)
number_added mark old text next numbers i below so_far added =
    item_added_from_none (λ n. numbers_behind mark) (λ n x. mark ∷ decimal x) (λ n. refl) (λ n x xs. refl) old text next numbers i (get_or numbers i 0) below
    (sym (get_or_default_zero numbers i (get_or numbers i 0) below)) so_far added
