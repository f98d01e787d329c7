-- What more that is said leaves as it was.
use Rattle.std.proofs.Common.{◌≡◌, ℕ, ◌+◌, ◌<◌, ◌≤◌, Bool, true, false, not, ◌&&◌, List, ◌++◌, length, take, find, slice_get, Option, Some, None, option_map, refl, sym, ap, ◌∙◌, arith}
use Rattle.std.specs.Option.{option_map_or, option_or}
use Rattle.std.specs.List.{list_any}
use Rattle.std.specs.Cmp.{IsEquivalence}
use Rattle.std.proofs.lemmas.List.{take-append-le}
use Rattle.std.proofs.lemmas.List.Folds.{find-append}
use Rattle.std.proofs.lemmas.Bool.{false≢true}
use Rattle.circus_value.proofs.PartLemmas.{slice_get-append_left}
use Rattle.circus_value.specs.Among.{is_among}
use Rattle.circus_collate.specs.declared.giving.Said.{Said}
use Rattle.circus_collate.specs.Giving.{is_from, passes_at, first_from, counts, votes, have_equal}
use Rattle.circus_collate.proofs.Counting.{count_by-le, count_by-apart}

-- the parts of a test of two
pub parts_of : (a b : Bool) → (a && b) ≡ true → (a ≡ true) × (b ≡ true)
parts_of true b e = (refl, e)
parts_of false b e = absurd (false≢true e)

-- a test that isn't met
pub is_false : (b : Bool) → (b ≡ true → ⊥) → b ≡ false
is_false true h = absurd (h refl)
is_false false h = refl

module _ {V : Type 0} where
  pub passes_at-append : (said later : List (Said V)) (passes : Said V → Bool) (place : ℕ) → place < length said → passes_at (said ++ later) passes place ≡ passes_at said passes place
  passes_at-append said later passes place below = ap (λ o. option_map_or passes o false) (slice_get-append_left said later place below)

  pub counts-append : (expected : V → List ℕ) (said later : List (Said V)) (place : ℕ) → place < length said → counts expected (said ++ later) place ≡ counts expected said place
  unfolding counts
  counts-append expected said later place below =
      passes_at-append said later (λ s. is_among (expected s.value) s.node && not (list_any (is_from s.node) (take place (said ++ later)))) place below
      ∙ ap (λ before. passes_at said (λ s. is_among (expected s.value) s.node && not (list_any (is_from s.node) before)) place) (take-append-le place said later (omega arith))

  pub first_from-append : (said later : List (Said V)) (node : ℕ) (v : V) → first_from said node ≡ Some v → first_from (said ++ later) node ≡ Some v
  unfolding first_from
  first_from-append said later node v e = ap (option_map (λ (s : Said V). s.value)) (find-append (is_from node) said later) ∙ by (find (is_from node) said) e
    where
      by : (o : Option (Said V)) → option_map (λ (s : Said V). s.value) o ≡ Some v → option_map (λ (s : Said V). s.value) (option_or o (find (is_from node) later)) ≡ Some v
      by None e' = cc
      by (Some s) e' = e'

  module _ (eq : V → V → Bool) where
    pub have_equal-append : (said later : List (Said V)) (one other : ℕ) → one < length said → other < length said → have_equal eq (said ++ later) one other ≡ have_equal eq said one other
    unfolding have_equal
    have_equal-append said later one other below too =
        passes_at-append said later (λ s. passes_at (said ++ later) (λ t. eq s.value t.value) other) one below
        ∙ by (slice_get said one)
      where
        by : (o : Option (Said V)) → option_map_or (λ s. passes_at (said ++ later) (λ t. eq s.value t.value) other) o false ≡ option_map_or (λ s. passes_at said (λ t. eq s.value t.value) other) o false
        by None = refl
        by (Some s) = passes_at-append said later (λ t. eq s.value t.value) other too

    pub votes-append : (said later : List (Said V)) (nodes : List ℕ) (v : V) → votes eq said nodes v ≤ votes eq (said ++ later) nodes v
    unfolding votes
    votes-append said later nodes v =
        count_by-le (λ node. option_map_or (eq v) (first_from said node) false) (λ node. option_map_or (eq v) (first_from (said ++ later) node) false)
        (λ node e. by node (first_from said node) refl e) nodes
      where
        by : (node : ℕ) (o : Option V) → first_from said node ≡ o → option_map_or (eq v) (first_from said node) false ≡ true → option_map_or (eq v) (first_from (said ++ later) node) false ≡ true
        by node None is e = absurd (false≢true (sym (ap (λ o. option_map_or (eq v) o false) is) ∙ e))
        by node (Some w) is e = ap (λ o. option_map_or (eq v) o false) (first_from-append said later node w is) ∙ sym (ap (λ o. option_map_or (eq v) o false) is) ∙ e

    -- equal values have the same votes
    pub votes-congr : IsEquivalence eq → (said : List (Said V)) (nodes : List ℕ) (v w : V) → eq v w ≡ true → votes eq said nodes v ≤ votes eq said nodes w
    unfolding votes
    votes-congr laws said nodes v w same =
        count_by-le (λ node. option_map_or (eq v) (first_from said node) false) (λ node. option_map_or (eq w) (first_from said node) false)
        (λ node. by (first_from said node)) nodes
      where
        by : (o : Option V) → option_map_or (eq v) o false ≡ true → option_map_or (eq w) o false ≡ true
        by None e = e
        by (Some x) e = sym (laws.congr v w x same) ∙ e

    -- two values that are not equal have no more votes together than there are nodes
    pub votes-apart : IsEquivalence eq → (said : List (Said V)) (nodes : List ℕ) (v w : V) → eq v w ≡ false → votes eq said nodes v + votes eq said nodes w ≤ length nodes
    unfolding votes
    votes-apart laws said nodes v w differ =
        count_by-apart (λ node. option_map_or (eq v) (first_from said node) false) (λ node. option_map_or (eq w) (first_from said node) false)
        (λ node. by (first_from said node)) nodes
      where
        by : (o : Option V) → option_map_or (eq v) o false ≡ true → option_map_or (eq w) o false ≡ true → ⊥
        by None e f = false≢true e
        by (Some x) e f = false≢true (sym differ ∙ laws.congr v x w e ∙ laws.symm x w ∙ f)
