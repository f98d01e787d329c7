-- Asks that change one after the other, by their places.
use Rattle.std.proofs.Common.{◌≡◌, ℕ, zero, suc, ◌+◌, ◌≤◌, Bool, true, false, if◌then◌else◌, List, [], ◌∷◌, ◌++◌, length, filter, drop, All, Some, refl, sym, ap, subst, ◌∙◌, append_assoc, append-nil}
use Rattle.std.specs.Prelude.{Result, slice_get, slice_set, IfSome, OnOk}
use Rattle.std.specs.List.{flat_map}
use Rattle.std.proofs.lemmas.List.{drop_all}
use Rattle.std.proofs.lemmas.List.Elements.{All-head, All-tail}
use Rattle.std.proofs.lemmas.Result.{on_ok_weaker}
use Rattle.std.proofs.lemmas.Option.{same_Some, slice_get_within, get_or_from_slice_get}
use Rattle.indexmap.specs.IndexMap.{set_value_at}
use Rattle.circus_collate.proofs.Going.{front}
use Rattle.circus_fanout.proofs.Writing.{written, written_more}

-- the value at a place is another
pub value_written : {K X : Type 0} (es : List (K × X)) (i : ℕ) (k : K) (v w : X) → slice_get es i ≡ Some (k, v) → set_value_at es i w ≡ slice_set es i (k, w)
value_written [] i k v w at = cc
value_written {K} {X} (e ∷ es) zero k v w at = ap (λ (p : K × X). (p.0, w) ∷ es) (same_Some e (k, v) at)
value_written (e ∷ es) (suc i) k v w at = ap (λ more. e ∷ more) (value_written es i k v w at)

-- and is as a caller says it
pub value_seen : {K X T E : Type 0} (r : Result T E) (es now : List (K × X)) (i : ℕ) (k : K) (v w : X) (after : K × X) → es ≡ now → slice_get es i ≡ Some (k, v) → OnOk r ((k, w) ≡ after) → OnOk r (set_value_at es i w ≡ slice_set now i after)
value_seen r es now i k v w after same at seen =
    on_ok_weaker r (λ is. value_written es i k v w at ∙ ap (λ l. slice_set l i (k, w)) same ∙ ap (slice_set now i) is) seen

-- what holds of all holds at a place
all_at : {A : Type 0} (P : A → Type 0) (xs : List A) (i : ℕ) → All P xs → IfSome (slice_get xs i) P
all_at P [] i all = tt
all_at P (x ∷ xs) zero all = All-head P x xs all
all_at P (x ∷ xs) (suc i) all = all_at P xs i (All-tail P x xs all)

module _ {A : Type 0} (f : A → A) where
  same_at : (i : ℕ) (xs : List A) → slice_get (written f i xs) i ≡ slice_get xs i
  same_at zero xs = refl
  same_at (suc i) [] = refl
  same_at (suc i) (x ∷ xs) = same_at i xs

  -- the item at a place isn't written yet
  pub not_yet : (P : A → Type 0) (xs ys : List A) (i : ℕ) → ys ≡ written f i xs → All P xs → IfSome (slice_get ys i) P
  not_yet P xs ys i so_far all =
      subst (λ o. IfSome o P) (sym (ap (λ zs. slice_get zs i) so_far ∙ same_at i xs)) (all_at P xs i all)

  -- it is written
  pub written_next : (xs ys zs : List A) (i : ℕ) (x : A) → ys ≡ written f i xs → slice_get xs i ≡ Some x → IfSome (slice_get ys i) (λ e. zs ≡ slice_set ys i (f e)) → zs ≡ written f (i + 1) xs
  written_next xs ys zs i x so_far at step =
      let here : slice_get ys i ≡ Some x = ap (λ l. slice_get l i) so_far ∙ same_at i xs ∙ at in
      let is = rw here at step in
      is ∙ written_more f xs ys i (f x) x so_far (slice_get_within xs i x at) (ap f (sym (get_or_from_slice_get ys i x x here)))

  -- what is made of those that pass
  pub made_next : {B : Type 0} (p : A → Bool) (g : A → List B) (xs ys : List A) (i : ℕ) (x : A) (done more whole : List B) → ys ≡ written f i xs → slice_get xs i ≡ Some x → IfSome (slice_get ys i) (λ e. more ≡ done ++ (if p e then g e else [])) → whole ≡ done ++ flat_map g (filter p (drop i xs)) → whole ≡ more ++ flat_map g (filter p (drop (i + 1) xs))
  made_next p g xs ys i x done more whole so_far at step all =
      let here : slice_get ys i ≡ Some x = ap (λ l. slice_get l i) so_far ∙ same_at i xs ∙ at in
      let is = rw here at step in
      let rest = drop (i + 1) xs in
      all ∙ ap (λ zs. done ++ flat_map g (filter p zs)) (front xs i x (slice_get_within xs i x at) (sym (get_or_from_slice_get xs i x x at)))
      ∙ by_test (p x) ∙ ap (λ m. m ++ flat_map g (filter p rest)) (sym is)
    where
      by_test : (passes : Bool) → done ++ flat_map g (if passes then x ∷ filter p (drop (i + 1) xs) else filter p (drop (i + 1) xs)) ≡ (done ++ (if passes then g x else [])) ++ flat_map g (filter p (drop (i + 1) xs))
      by_test true = sym (append_assoc done (g x) (flat_map g (filter p (drop (i + 1) xs))))
      by_test false = ap (λ d. d ++ flat_map g (filter p (drop (i + 1) xs))) (sym (append-nil done))

  pub made_last : {B : Type 0} (p : A → Bool) (g : A → List B) (xs : List A) (i : ℕ) (done whole : List B) → length xs ≤ i → whole ≡ done ++ flat_map g (filter p (drop i xs)) → done ≡ whole
  made_last p g xs i done whole few all = sym (all ∙ ap (λ zs. done ++ flat_map g (filter p zs)) (drop_all i xs few) ∙ append-nil done)
