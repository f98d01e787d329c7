-- What was said at a place, as the code reads it.
use Rattle.std.proofs.Common.{◌≡◌, ℕ, ◌-◌, ◌*◌, ◌<◌, ◌≤◌, Bool, false, ltb, List, length, get_or, sym, ap, ◌∙◌, arith}
use Rattle.std.specs.Option.{option_map_or}
use Rattle.std.proofs.lemmas.List.Sums.{count_by-le-length}
use Rattle.std.proofs.lemmas.Option.{slice_get-get_or}
use Rattle.std.proofs.lemmas.Bool.Decides.{nat_tests}
use Rattle.circus_collate.specs.declared.giving.Said.{Said}
use Rattle.circus_collate.specs.Giving.{passes_at, first_from, votes, has_majority}

module _ {V : Type 0} where
  -- what was read at a place is what passes there
  pub passes_read : (said : List (Said V)) (passes : Said V → Bool) (place : ℕ) (d : Said V) → place < length said → passes_at said passes place ≡ passes (get_or said place d)
  passes_read said passes place d below = ap (λ o. option_map_or passes o false) (slice_get-get_or said place d below)

  module _ (eq : V → V → Bool) where
    pub votes_le : (said : List (Said V)) (nodes : List ℕ) (value : V) → votes eq said nodes value ≤ length nodes
    unfolding votes
    votes_le said nodes value = count_by-le-length (λ node. option_map_or (eq value) (first_from said node) false) nodes

    less_than_half : (n v : ℕ) → v ≤ n → ltb (n - v) v ≡ ltb n (2 * v)
    less_than_half n v few = grind (arith, nat_tests)

    pub majority_at : (expected : V → List ℕ) (said : List (Said V)) (place : ℕ) (d : Said V) (n v : ℕ) → place < length said
        → n ≡ length (expected (get_or said place d).value) → v ≡ votes eq said (expected (get_or said place d).value) (get_or said place d).value → ltb (n - v) v ≡ has_majority eq expected said place
    unfolding has_majority
    majority_at expected said place d n v below count number =
        let s = get_or said place d in
        less_than_half n v (omega (arith, count, number, votes_le said (expected s.value) s.value))
        ∙ (λ j. ltb (count j) (2 * number j))
        ∙ sym (passes_read said (λ x. ltb (length (expected x.value)) (2 * votes eq said (expected x.value) x.value)) place d below)
