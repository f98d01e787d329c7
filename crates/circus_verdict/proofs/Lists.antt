-- Lists that are gone through one by one.
use Rattle.std.specs.Prelude.{◌↔◌, IsTrue}
use Rattle.std.proofs.Common.{◌≡◌, ℕ, ◌+◌, ◌<◌, ◌≤◌, Bool, true, false, List, [], ◌∷◌, ◌++◌, length, take, drop, get_or, All, sym, ap, subst, ◌∙◌, add-one, arith, append_assoc}
use Rattle.std.proofs.Math.Seq.{drop-cons, take-suc}
use Rattle.std.proofs.lemmas.List.{take_all, take-append-drop, length-take-le}
use Rattle.std.proofs.lemmas.List.Elements.{All-push}

pub take_one : {X : Type 0} (xs : List X) (i : ℕ) (x : X) → i < length xs → x ≡ get_or xs i x → take (i + 1) xs ≡ take i xs ++ x ∷ []
take_one xs i x less is = (λ j. take (add-one i j) xs) ∙ take-suc xs i x less ∙ (λ j. take i xs ++ sym is j ∷ [])

pub around : {X : Type 0} (xs : List X) (i : ℕ) (x : X) → i < length xs → x ≡ get_or xs i x → xs ≡ (take i xs ++ x ∷ []) ++ drop (i + 1) xs
around xs i x less is =
    sym (take-append-drop i xs) ∙ ap (λ l. take i xs ++ l) (drop-cons xs i x less) ∙ (λ j. take i xs ++ sym is j ∷ drop (sym (add-one i) j) xs)
    ∙ sym (append_assoc (take i xs) (x ∷ []) (drop (i + 1) xs))

pub taken : {X : Type 0} (first : X) (xs : List X) (i : ℕ) → i < length xs → i + 1 ≡ length (first ∷ take i xs)
taken first xs i less = (let long = length-take-le i xs (omega (arith, less)) in omega (arith, long))

pub is_nil : (xs : List ℕ) (r : Bool) → IsTrue r ↔ (xs ≡ []) → r ≡ true → xs ≡ []
is_nil xs r is t = is.0 t

pub not_nil : (xs : List ℕ) (r : Bool) → IsTrue r ↔ (xs ≡ []) → r ≡ false → xs ≡ [] → ⊥
not_nil xs r is f none = absurd (let clash : false ≡ true = sym f ∙ is.1 none in cc)

-- ---- what holds of each

module _ {X : Type 0} (P : X → Type 0) (xs : List X) where
  pub all_more : (i : ℕ) (x : X) → i < length xs → x ≡ get_or xs i x → All P (take i xs) → P x → All P (take (i + 1) xs)
  all_more i x less is all here = subst (All P) (sym (take_one xs i x less is)) (All-push P (take i xs) x all here)

  pub all_past : (i : ℕ) → length xs ≤ i → All P (take i xs) → All P xs
  all_past i past all = subst (All P) (take_all i xs past) all

  pub all_at : (i : ℕ) (x : X) → i < length xs → x ≡ get_or xs i x → All P xs → P x
  all_at i x less is all = subst P (sym is) (all i x less)
