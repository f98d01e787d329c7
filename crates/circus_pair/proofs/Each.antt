-- What holds of each item of a list.
use Rattle.std.proofs.Common.{◌≡◌, ℕ, zero, suc, Bool, true, false, cond, ◌&&◌, List, [], ◌∷◌, ◌++◌, Some, refl, sym, ap, subst, ◌∙◌}
use Rattle.std.specs.Prelude.{T, flat_map, slice_get}
use Rattle.std.specs.Ordering.{nat_cmp, eq_by_cmp, is_eq, is_lt}
use Rattle.std.specs.declared.cmp.Ordering.{Ordering}
use Rattle.std.specs.declared.cmp.Ordering.TheVariants.{Less, Equal, Greater}
use Rattle.std.specs.FinMap.{FinMap, get, entries, find, is_sorted, entries_sorted, get-entries}
use Rattle.std.specs.FinMap.Entries.{below_all}
use Rattle.std.proofs.lemmas.Bool.{ne_eqb, eqb-false}
use Rattle.circus_exchange.proofs.Ties.{equal, nat_ties}

abbrev pub Each : {X : Type 0} → (X → Type 0) → List X → Type 0
Each P [] = Unit {0}
Each P (x ∷ xs) = P x × Each P xs

pub each_append : {X : Type 0} (P : X → Type 0) (xs ys : List X) → Each P xs → Each P ys → Each P (xs ++ ys)
each_append P [] ys f g = g
each_append P (x ∷ xs) ys f g = (f.0, each_append P xs ys f.1 g)

pub each_map : {X : Type 0} (P Q : X → Type 0) (xs : List X) → ((x : X) → P x → Q x) → Each P xs → Each Q xs
each_map P Q [] h f = tt
each_map P Q (x ∷ xs) h f = (h x f.0, each_map P Q xs h f.1)

each_both : {X : Type 0} (P Q R : X → Type 0) (xs : List X) → ((x : X) → P x → Q x → R x) → Each P xs → Each Q xs → Each R xs
each_both P Q R [] h f g = tt
each_both P Q R (x ∷ xs) h f g = (h x f.0 g.0, each_both P Q R xs h f.1 g.1)

pub each_cond : {X : Type 0} (P : X → Type 0) (b : Bool) (xs ys : List X) → (b ≡ true → Each P xs) → (b ≡ false → Each P ys) → Each P (cond b xs ys)
each_cond P true xs ys f g = f refl
each_cond P false xs ys f g = g refl

pub each_flat : {X A : Type 0} (P : A → Type 0) (f : X → List A) (xs : List X) → Each (λ x. Each P (f x)) xs → Each P (flat_map f xs)
each_flat P f [] h = tt
each_flat P f (x ∷ xs) h = each_append P (f x) (flat_map f xs) h.0 (each_flat P f xs h.1)

-- the item at a place
pub each_at : {X : Type 0} (P : X → Type 0) (xs : List X) (i : ℕ) (x : X) → Each P xs → slice_get xs i ≡ Some x → P x
each_at P [] i x h is = absurd cc
each_at P (y ∷ ys) zero x h is = (let same : y ≡ x = cc in subst P same h.0)
each_at P (y ∷ ys) (suc i) x h is = each_at P ys i x h.1 is

-- ---- the entries of a table

front_true : (a b : Bool) → T (a && b) → T a
front_true true b h = tt
front_true false b h = absurd h

back_true : (a b : Bool) → T (a && b) → T b
back_true true b h = h
back_true false b h = absurd h

less_apart : (r : Ordering) → T (is_lt r) → is_eq r ≡ false
less_apart Less h = refl
less_apart Equal h = absurd h
less_apart Greater h = absurd h

apart : (x y : ℕ) → T (is_lt (nat_cmp x y)) → eq_by_cmp nat_cmp y x ≡ false
apart x y h = nat_ties y x ∙ ne_eqb y x (λ same. eqb-false x y (sym (nat_ties x y) ∙ less_apart (nat_cmp x y) h) (sym same))

below_apart : {X : Type 0} (x : ℕ) (es : List (ℕ × X)) → T (below_all nat_cmp x es) → Each (λ e. eq_by_cmp nat_cmp e.0 x ≡ false) es
below_apart x [] h = tt
below_apart x (e ∷ es) h = (apart x e.0 (front_true _ _ h), below_apart x es (back_true _ _ h))

each_found : {X : Type 0} (es : List (ℕ × X)) → T (is_sorted nat_cmp es) → Each (λ e. find nat_cmp e.0 es ≡ Some e.1) es
each_found [] h = tt
each_found (e ∷ es) h = (
  ap (λ b. cond b (Some e.1) (find nat_cmp e.0 es)) (nat_ties e.0 e.0 ∙ equal e.0),
  each_both _ _ _ es (λ f found differs. ap (λ b. cond b (Some e.1) (find nat_cmp f.0 es)) differs ∙ found) (each_found es (back_true _ _ h)) (below_apart e.0 es (front_true _ _ h)),
)

-- each entry stands under its key
pub each_entry : {X : Type 0} (m : FinMap nat_cmp X) → Each (λ e. get m e.0 ≡ Some e.1) (entries m)
each_entry m = each_map _ _ (entries m) (λ e found. get-entries m e.0 ∙ found) (each_found (entries m) (entries_sorted m))
