-- Lists of which those count that pass a test.
use Rattle.std.proofs.Common.{◌≡◌, ℕ, Bool, true, false, ◌&&◌, cond, if◌then◌else◌, List, [], ◌∷◌, ◌++◌, map, filter, All, refl, ap}
use Rattle.std.specs.List.{flat_map}
use Rattle.std.proofs.lemmas.List.Elements.{All-head, All-tail}
use Rattle.circus_value.specs.declared.caller.Caller.{Caller}
use Rattle.circus_gather.specs.Gathering.{callers}
use Rattle.circus_gather.specs.declared.held.HeldCall.{HeldCall}
use Rattle.circus_member_rules.specs.Rules.{answer, answers}

-- ---- tests

module _ {X : Type 0} where
  -- two tests that agree on what is there
  pub same_passing : (p q : X → Bool) (xs : List X) → All (λ x. p x ≡ q x) xs → filter p xs ≡ filter q xs
  same_passing p q [] all = refl
  same_passing p q (x ∷ xs) all =
      let P : X → Type 0 = λ y. p y ≡ q y in
      (λ j. cond (All-head P x xs all j) (x ∷ same_passing p q xs (All-tail P x xs all) j) (same_passing p q xs (All-tail P x xs all) j))

  -- both tests
  pub passing_both : (p q : X → Bool) (xs : List X) → filter p (filter q xs) ≡ filter (λ x. q x && p x) xs
  passing_both p q [] = refl
  passing_both p q (x ∷ xs) = by_test (passing_both p q xs) (q x)
    where
      by_test : filter p (filter q xs) ≡ filter (λ y. q y && p y) xs → (b : Bool)
          → filter p (cond b (x ∷ filter q xs) (filter q xs)) ≡ cond (b && p x) (x ∷ filter (λ y. q y && p y) xs) (filter (λ y. q y && p y) xs)
      by_test rest true = ap (λ l. cond (p x) (x ∷ l) l) rest
      by_test rest false = rest

module _ {X Y : Type 0} where
  pub passing_through : (p : Y → Bool) (g : X → Y) (xs : List X) → filter p (map g xs) ≡ map g (filter (λ x. p (g x)) xs)
  passing_through p g [] = refl
  passing_through p g (x ∷ xs) = by_test (passing_through p g xs) (p (g x))
    where
      by_test : filter p (map g xs) ≡ map g (filter (λ y. p (g y)) xs) → (b : Bool)
          → cond b (g x ∷ filter p (map g xs)) (filter p (map g xs)) ≡ map g (cond b (x ∷ filter (λ y. p (g y)) xs) (filter (λ y. p (g y)) xs))
      by_test rest true = ap (λ l. g x ∷ l) rest
      by_test rest false = rest

  -- ---- lists for each

  pub same_flat : (f g : X → List Y) (xs : List X) → All (λ x. f x ≡ g x) xs → flat_map f xs ≡ flat_map g xs
  same_flat f g [] all = refl
  same_flat f g (x ∷ xs) all =
      let P : X → Type 0 = λ y. f y ≡ g y in
      (λ j. All-head P x xs all j ++ same_flat f g xs (All-tail P x xs all) j)

  pub none_flat : (f : X → List Y) (xs : List X) → All (λ x. f x ≡ []) xs → flat_map f xs ≡ []
  none_flat f [] all = refl
  none_flat f (x ∷ xs) all =
      let P : X → Type 0 = λ y. f y ≡ [] in
      (λ j. All-head P x xs all j ++ none_flat f xs (All-tail P x xs all) j)

  -- of those that pass
  pub flat_passing : (p : X → Bool) (f : X → List Y) (xs : List X) → flat_map f (filter p xs) ≡ flat_map (λ x. if p x then f x else []) xs
  flat_passing p f [] = refl
  flat_passing p f (x ∷ xs) = by_test (flat_passing p f xs) (p x)
    where
      by_test : flat_map f (filter p xs) ≡ flat_map (λ y. if p y then f y else []) xs → (b : Bool)
          → flat_map f (cond b (x ∷ filter p xs) (filter p xs)) ≡ (if b then f x else []) ++ flat_map (λ y. if p y then f y else []) xs
      by_test rest true = ap (λ l. f x ++ l) rest
      by_test rest false = rest

pub flat_through : {X Y Z : Type 0} (f : Y → List Z) (g : X → Y) (xs : List X) → flat_map f (map g xs) ≡ flat_map (λ x. f (g x)) xs
flat_through f g [] = refl
flat_through f g (x ∷ xs) = ap (λ l. f (g x) ++ l) (flat_through f g xs)

-- ---- the same return to many

pub answers_to : (message : List ℕ) (p : HeldCall → Bool) (held : List HeldCall)
    → answers message (callers (filter p held)) ≡ flat_map (λ (c : HeldCall). if p c then answer message c.sender ∷ [] else []) held
answers_to message p [] = refl
answers_to message p (x ∷ held) = by_test (answers_to message p held) (p x)
  where
    by_test : answers message (callers (filter p held)) ≡ flat_map (λ (c : HeldCall). if p c then answer message c.sender ∷ [] else []) held → (b : Bool)
        → answers message (callers (cond b (x ∷ filter p held) (filter p held))) ≡ (if b then answer message x.sender ∷ [] else []) ++ flat_map (λ (c : HeldCall). if p c then answer message c.sender ∷ [] else []) held
    by_test rest true = ap (λ l. answer message x.sender ∷ l) rest
    by_test rest false = rest

pub answers_all : (message : List ℕ) (xs : List Caller) → answers message xs ≡ flat_map (λ (c : Caller). answer message c ∷ []) xs
answers_all message [] = refl
answers_all message (x ∷ xs) = ap (λ l. answer message x ∷ l) (answers_all message xs)
