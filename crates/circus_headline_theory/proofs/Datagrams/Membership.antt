-- What is in a list.
use Rattle.std.proofs.Common.{◌≡◌, inl, inr, Bool, true, false, cond, List, [], ◌∷◌, ◌++◌, map, filter, All, Option, None, Some, refl, sym, ap, subst, ◌∙◌}
use Rattle.std.proofs.lemmas.List.Elements.{All-head, All-tail}
use Rattle.circus_member_theory.specs.Made.{at_most_one}
use Rattle.circus_world_theory.proofs.Border.Makers.{IsIn}

module _ {X : Type 0} where
  pub in_first : (xs ys : List X) (x : X) → IsIn xs x → IsIn (xs ++ ys) x
  in_first [] ys x at = absurd at
  in_first (y ∷ xs) ys x (inl same) = inl same
  in_first (y ∷ xs) ys x (inr at) = inr (in_first xs ys x at)

  pub in_second : (xs ys : List X) (x : X) → IsIn ys x → IsIn (xs ++ ys) x
  in_second [] ys x at = at
  in_second (y ∷ xs) ys x at = inr (in_second xs ys x at)

  pub all_in : (P : X → Type 0) (xs : List X) (x : X) → All P xs → IsIn xs x → P x
  all_in P [] x all at = absurd at
  all_in P (y ∷ xs) x all (inl same) = subst P same (All-head P y xs all)
  all_in P (y ∷ xs) x all (inr at) = all_in P xs x (All-tail P y xs all) at

  pub in_filter : (test : X → Bool) (xs : List X) (x : X) → IsIn (filter test xs) x → IsIn xs x × (test x ≡ true)
  in_filter test [] x at = absurd at
  in_filter test (y ∷ xs) x at = by_test (in_filter test xs x) (test y) refl at
    where
      by_test : (IsIn (filter test xs) x → IsIn xs x × (test x ≡ true)) → (b : Bool) → test y ≡ b → IsIn (cond b (y ∷ filter test xs) (filter test xs)) x → IsIn (y ∷ xs) x × (test x ≡ true)
      by_test later true is (inl same) = (inl same, ap test (sym same) ∙ is)
      by_test later true is (inr rest) = (let r = later rest in (inr r.0, r.1))
      by_test later false is rest = (let r = later rest in (inr r.0, r.1))

  pub filtered_in : (test : X → Bool) (xs : List X) (x : X) → IsIn xs x → test x ≡ true → IsIn (filter test xs) x
  filtered_in test [] x at is = absurd at
  filtered_in test (y ∷ xs) x (inl same) is = by_test (test y) (ap test same ∙ is)
    where
      by_test : (b : Bool) → b ≡ true → IsIn (cond b (y ∷ filter test xs) (filter test xs)) x
      by_test true passes = inl same
      by_test false passes = absurd cc
  filtered_in test (y ∷ xs) x (inr at) is = by_test (test y) (filtered_in test xs x at is)
    where
      by_test : (b : Bool) → IsIn (filter test xs) x → IsIn (cond b (y ∷ filter test xs) (filter test xs)) x
      by_test true later = inr later
      by_test false later = later

  -- one thing, or none
  pub in_one : (o : Option X) (x : X) → IsIn (at_most_one o) x → o ≡ Some x
  in_one None x at = absurd at
  in_one (Some y) x (inl same) = ap Some same
  in_one (Some y) x (inr at) = absurd at

module _ {X Y : Type 0} where
  pub in_map : (f : X → Y) (xs : List X) (y : Y) → IsIn (map f xs) y → (x : X) × IsIn xs x × (f x ≡ y)
  in_map f [] y at = absurd at
  in_map f (x ∷ xs) y (inl same) = (x, inl refl, same)
  in_map f (x ∷ xs) y (inr at) = (let rest = in_map f xs y at in (rest.0, inr rest.1, rest.2))

  pub mapped_in : (f : X → Y) (xs : List X) (x : X) → IsIn xs x → IsIn (map f xs) (f x)
  mapped_in f [] x at = absurd at
  mapped_in f (z ∷ xs) x (inl same) = inl (ap f same)
  mapped_in f (z ∷ xs) x (inr at) = inr (mapped_in f xs x at)
