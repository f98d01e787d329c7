-- What comes of the items that are left, behind what came of those so far.
use Rattle.std.proofs.Common.{◌≡◌, ℕ, ◌+◌, ◌<◌, ◌≤◌, Bool, true, false, List, [], ◌∷◌, ◌++◌, length, map, filter, fold, get_or, drop, if◌then◌else◌, sym, ap, ◌∙◌, append_assoc, append-nil}
use Rattle.std.proofs.lemmas.List.{drop_more, drop_all}

pub front : {A : Type 0} (xs : List A) (i : ℕ) (x : A) → i < length xs → x ≡ get_or xs i x → drop i xs ≡ x ∷ drop (i + 1) xs
front xs i x few is = drop_more xs i x few ∙ ap (λ z. z ∷ drop (i + 1) xs) (sym is)

-- what is made of all
module _ {A B : Type 0} (f : A → B) where
  pub map_more : (xs : List A) (i : ℕ) (x : A) (done whole : List B) (y : B) → i < length xs → x ≡ get_or xs i x → y ≡ f x
      → whole ≡ done ++ map f (drop i xs) → whole ≡ (done ++ y ∷ []) ++ map f (drop (i + 1) xs)
  map_more xs i x done whole y few is made all =
      let rest : List B = map f (drop (i + 1) xs) in
      all ∙ ap (λ zs. done ++ map f zs) (front xs i x few is) ∙ ap (λ z. done ++ (z ∷ rest)) (sym made) ∙ sym (append_assoc done (y ∷ []) rest)

  pub map_all : (xs : List A) (i : ℕ) (done whole : List B) → length xs ≤ i → whole ≡ done ++ map f (drop i xs) → done ≡ whole
  map_all xs i done whole all is = sym (is ∙ ap (λ zs. done ++ map f zs) (drop_all i xs all) ∙ append-nil done)

-- what is made of those that pass
module _ {A B : Type 0} (p : A → Bool) (f : A → B) where
  pub made_more : (xs : List A) (i : ℕ) (x : A) (done whole : List B) (y : B) → i < length xs → x ≡ get_or xs i x → p x ≡ true → y ≡ f x
      → whole ≡ done ++ map f (filter p (drop i xs)) → whole ≡ (done ++ y ∷ []) ++ map f (filter p (drop (i + 1) xs))
  made_more xs i x done whole y few is passes made all =
      let rest : List B = map f (filter p (drop (i + 1) xs)) in
      all ∙ ap (λ zs. done ++ map f (filter p zs)) (front xs i x few is)
      ∙ ap (λ b. done ++ map f (if b then x ∷ filter p (drop (i + 1) xs) else filter p (drop (i + 1) xs))) passes
      ∙ ap (λ z. done ++ (z ∷ rest)) (sym made) ∙ sym (append_assoc done (y ∷ []) rest)

  pub passed_over : (xs : List A) (i : ℕ) (x : A) (done whole : List B) → i < length xs → x ≡ get_or xs i x → p x ≡ false
      → whole ≡ done ++ map f (filter p (drop i xs)) → whole ≡ done ++ map f (filter p (drop (i + 1) xs))
  passed_over xs i x done whole few is fails all =
      all ∙ ap (λ zs. done ++ map f (filter p zs)) (front xs i x few is)
      ∙ ap (λ b. done ++ map f (if b then x ∷ filter p (drop (i + 1) xs) else filter p (drop (i + 1) xs))) fails

  pub made_all : (xs : List A) (i : ℕ) (done whole : List B) → length xs ≤ i → whole ≡ done ++ map f (filter p (drop i xs)) → done ≡ whole
  made_all xs i done whole all is = sym (is ∙ ap (λ zs. done ++ map f (filter p zs)) (drop_all i xs all) ∙ append-nil done)

-- what a step for each comes to
module _ {A B : Type 0} (f : B → A → B) where
  pub fold_more : (xs : List A) (i : ℕ) (x : A) (before after whole : B) → i < length xs → x ≡ get_or xs i x → after ≡ f before x
      → whole ≡ fold f before (drop i xs) → whole ≡ fold f after (drop (i + 1) xs)
  fold_more xs i x before after whole few is step all =
      all ∙ ap (fold f before) (front xs i x few is) ∙ ap (λ b. fold f b (drop (i + 1) xs)) (sym step)

  pub fold_all : (xs : List A) (i : ℕ) (done whole : B) → length xs ≤ i → whole ≡ fold f done (drop i xs) → done ≡ whole
  fold_all xs i done whole all is = sym (is ∙ ap (fold f done) (drop_all i xs all))
