-- The returns to one caller among effects, and its calls among those that wait.
use Rattle.std.proofs.Common.{◌≡◌, ℕ, Bool, true, false, cond, if◌then◌else◌, List, [], ◌∷◌, ◌++◌, map, filter, refl, sym, ap, ◌∙◌}
use Rattle.std.specs.List.{flat_map}
use Rattle.circus_value.specs.declared.caller.Caller.{Caller}
use Rattle.circus_gather.specs.Gathering.{callers}
use Rattle.circus_gather.specs.declared.held.HeldCall.{HeldCall}
use Rattle.circus_member_rules.specs.declared.occurrence.Effect.{Effect}
use Rattle.circus_member_rules.specs.declared.occurrence.Effect.TheVariants as made
use Rattle.circus_member_rules.specs.Rules.{answers}
use Rattle.circus_member_theory.specs.Made.{is_caller, returns_to}
use Rattle.circus_headline_theory.specs.Owed.Living.{made_in}

-- ---- tests

module _ {X : Type 0} where
  filter_yes : (p : X → Bool) (x : X) (xs : List X) → p x ≡ true → filter p (x ∷ xs) ≡ x ∷ filter p xs
  filter_yes p x xs is = ap (λ b. cond b (x ∷ filter p xs) (filter p xs)) is

  pub filter_no : (p : X → Bool) (x : X) (xs : List X) → p x ≡ false → filter p (x ∷ xs) ≡ filter p xs
  filter_no p x xs is = ap (λ b. cond b (x ∷ filter p xs) (filter p xs)) is

  -- it doesn't matter which test is made first
  pub filter_twice : (p q : X → Bool) (xs : List X) → filter p (filter q xs) ≡ filter q (filter p xs)
  filter_twice p q [] = refl
  filter_twice p q (x ∷ xs) = by_tests (filter_twice p q xs) (p x) (q x) refl refl
    where
      by_tests : filter p (filter q xs) ≡ filter q (filter p xs) → (a b : Bool) → p x ≡ a → q x ≡ b → filter p (filter q (x ∷ xs)) ≡ filter q (filter p (x ∷ xs))
      by_tests rest true true here there =
          ap (filter p) (filter_yes q x xs there) ∙ filter_yes p x (filter q xs) here ∙ ap (λ l. x ∷ l) rest
          ∙ sym (ap (filter q) (filter_yes p x xs here) ∙ filter_yes q x (filter p xs) there)
      by_tests rest true false here there =
          ap (filter p) (filter_no q x xs there) ∙ rest ∙ sym (ap (filter q) (filter_yes p x xs here) ∙ filter_no q x (filter p xs) there)
      by_tests rest false true here there =
          ap (filter p) (filter_yes q x xs there) ∙ filter_no p x (filter q xs) here ∙ rest ∙ sym (ap (filter q) (filter_no p x xs here))
      by_tests rest false false here there =
          ap (filter p) (filter_no q x xs there) ∙ rest ∙ sym (ap (filter q) (filter_no p x xs here))

-- ---- returns

-- the returns to a caller among the effects of a step
abbrev pub returned : Caller → List Effect → List (List ℕ)
returned c [] = []
returned c (made.Call to message purpose ∷ rest) = returned c rest
returned c (made.Answer caller message ∷ rest) = if is_caller c caller then message ∷ returned c rest else returned c rest

-- a call is of a caller
abbrev pub is_from : Caller → HeldCall → Bool
is_from c call = is_caller c call.sender

module _ (c : Caller) where
  pub returned-append : (xs ys : List Effect) → returned c (xs ++ ys) ≡ returned c xs ++ returned c ys
  returned-append [] ys = refl
  returned-append (made.Call to message purpose ∷ xs) ys = returned-append xs ys
  returned-append (made.Answer caller message ∷ xs) ys = by_test (returned-append xs ys) (is_caller c caller)
    where
      by_test : returned c (xs ++ ys) ≡ returned c xs ++ returned c ys → (b : Bool)
          → (if b then message ∷ returned c (xs ++ ys) else returned c (xs ++ ys)) ≡ (if b then message ∷ returned c xs else returned c xs) ++ returned c ys
      by_test rest true = ap (λ l. message ∷ l) rest
      by_test rest false = rest

  pub returns-append : (xs ys : List (ℕ × Effect)) → returns_to c (xs ++ ys) ≡ returns_to c xs ++ returns_to c ys
  returns-append [] ys = refl
  returns-append ((step, made.Call to message purpose) ∷ xs) ys = returns-append xs ys
  returns-append ((step, made.Answer caller message) ∷ xs) ys = by_test (returns-append xs ys) (is_caller c caller)
    where
      by_test : returns_to c (xs ++ ys) ≡ returns_to c xs ++ returns_to c ys → (b : Bool)
          → (if b then (step, message) ∷ returns_to c (xs ++ ys) else returns_to c (xs ++ ys)) ≡ (if b then (step, message) ∷ returns_to c xs else returns_to c xs) ++ returns_to c ys
      by_test rest true = ap (λ l. (step, message) ∷ l) rest
      by_test rest false = rest

  -- those of a step
  pub returns_in : (step : ℕ) (xs : List Effect) → returns_to c (made_in step xs) ≡ map (λ (message : List ℕ). (step, message)) (returned c xs)
  returns_in step [] = refl
  returns_in step (made.Call to message purpose ∷ xs) = returns_in step xs
  returns_in step (made.Answer caller message ∷ xs) = by_test (returns_in step xs) (is_caller c caller)
    where
      by_test : returns_to c (made_in step xs) ≡ map (λ (m : List ℕ). (step, m)) (returned c xs) → (b : Bool)
          → (if b then (step, message) ∷ returns_to c (made_in step xs) else returns_to c (made_in step xs)) ≡ map (λ (m : List ℕ). (step, m)) (if b then message ∷ returned c xs else returned c xs)
      by_test rest true = ap (λ l. (step, message) ∷ l) rest
      by_test rest false = rest

  -- where each effect is a call
  pub none_mapped : {X : Type 0} (f : X → Effect) → ((x : X) (rest : List Effect) → returned c (f x ∷ rest) ≡ returned c rest) → (xs : List X) → returned c (map f xs) ≡ []
  none_mapped f calls [] = refl
  none_mapped f calls (x ∷ xs) = calls x (map f xs) ∙ none_mapped f calls xs

  pub none_flat_mapped : {X : Type 0} (f : X → List Effect) → ((x : X) → returned c (f x) ≡ []) → (xs : List X) → returned c (flat_map f xs) ≡ []
  none_flat_mapped f calls [] = refl
  none_flat_mapped f calls (x ∷ xs) = returned-append (f x) (flat_map f xs) ∙ ap (λ l. l ++ returned c (flat_map f xs)) (calls x) ∙ none_flat_mapped f calls xs

  -- the same return to many
  pub returned_answers : (message : List ℕ) (xs : List Caller) → returned c (answers message xs) ≡ map (λ (x : Caller). message) (filter (is_caller c) xs)
  returned_answers message [] = refl
  returned_answers message (x ∷ xs) = by_test (returned_answers message xs) (is_caller c x)
    where
      by_test : returned c (answers message xs) ≡ map (λ (y : Caller). message) (filter (is_caller c) xs) → (b : Bool)
          → (if b then message ∷ returned c (answers message xs) else returned c (answers message xs)) ≡ map (λ (y : Caller). message) (cond b (x ∷ filter (is_caller c) xs) (filter (is_caller c) xs))
      by_test rest true = ap (λ l. message ∷ l) rest
      by_test rest false = rest

  from_callers : (message : List ℕ) (xs : List HeldCall) → returned c (answers message (callers xs)) ≡ map (λ (x : HeldCall). message) (filter (is_from c) xs)
  from_callers message [] = refl
  from_callers message (x ∷ xs) = by_test (from_callers message xs) (is_from c x)
    where
      by_test : returned c (answers message (callers xs)) ≡ map (λ (y : HeldCall). message) (filter (is_from c) xs) → (b : Bool)
          → (if b then message ∷ returned c (answers message (callers xs)) else returned c (answers message (callers xs))) ≡ map (λ (y : HeldCall). message) (cond b (x ∷ filter (is_from c) xs) (filter (is_from c) xs))
      by_test rest true = ap (λ l. message ∷ l) rest
      by_test rest false = rest

  -- the return to those calls that pass a test
  pub returned_passed : (message : List ℕ) (p : HeldCall → Bool) (held : List HeldCall) → returned c (answers message (callers (filter p held))) ≡ map (λ (x : HeldCall). message) (filter p (filter (is_from c) held))
  returned_passed message p held = from_callers message (filter p held) ∙ ap (map (λ (x : HeldCall). message)) (filter_twice (is_from c) p held)
