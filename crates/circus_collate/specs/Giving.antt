-- Which value is taken from what several nodes said, in order of arrival.
use Rattle.std.specs.Prelude.{◌≡◌, ℕ, zero, suc, ◌+◌, ◌*◌, Bool, true, false, not, ◌&&◌, ◌||◌, ◌==◌, nat_lt, nat_le, if◌then◌else◌, List, length, take, count_by, find, Option, None, Some, is_none, option_map, option_and_then, slice_get}
use Rattle.std.specs.List.{list_any, list_all}
use Rattle.std.specs.Option.{option_map_or}
use Rattle.circus_value.specs.Among.{is_among}
use Rattle.circus_collate.specs.declared.giving.Said.{Said}
use Rattle.circus_collate.specs.declared.kind.Kind.{Kind}
use Rattle.circus_collate.specs.declared.kind.Kind.TheVariants.{First, Majority, Unanimous, AtLeast, Watchdog}

-- the first of the places below a bound that passes
abbrev pub first_place : (ℕ → Bool) → ℕ → Option ℕ
first_place passes zero = None
first_place passes (suc n) = option_map_or Some (first_place passes n) (if passes n then Some n else None)

module _ {V : Type 0} where
  -- it was said by the node
  abbrev pub is_from : ℕ → Said V → Bool
  is_from node s = s.node == node

  -- what was said at a place passes
  abbrev pub passes_at : List (Said V) → (Said V → Bool) → ℕ → Bool
  passes_at said passes place = option_map_or passes (slice_get said place) false

  -- what a node said first
  unfoldable pub first_from : List (Said V) → ℕ → Option V
  first_from said node = option_map (λ (s : Said V). s.value) (find (is_from node) said)

  -- each of the nodes that isn't down has said something
  unfoldable pub all_have_said : List (Said V) → List ℕ → List ℕ → Bool
  all_have_said said down nodes = list_all (λ node. is_among down node || list_any (is_from node) said) nodes

  -- what was said at a place counts: it is the first of its node, which is expected to say that value
  unfoldable pub counts : (V → List ℕ) → List (Said V) → ℕ → Bool
  counts expected said place = passes_at said (λ s. is_among (expected s.value) s.node && not (list_any (is_from s.node) (take place said))) place

  -- the first that arrived
  unfoldable pub first : List (Said V) → Option ℕ
  first said = if passes_at said (λ s. true) 0 then Some 0 else None

  module _ (eq : V → V → Bool) where
    -- how many of the nodes said the value first
    unfoldable pub votes : List (Said V) → List ℕ → V → ℕ
    votes said nodes value = count_by (λ node. option_map_or (eq value) (first_from said node) false) nodes

    -- two places have equal values
    unfoldable pub have_equal : List (Said V) → ℕ → ℕ → Bool
    have_equal said one other = passes_at said (λ s. passes_at said (λ t. eq s.value t.value) other) one

    -- the first place with another value than place 0 has
    unfoldable pub first_difference : List (Said V) → Option ℕ
    first_difference said = first_place (λ place. not (have_equal said 0 place)) (length said)

    -- the same nodes are expected to say equal values
    abbrev pub IsOfEquals : (V → List ℕ) → Type 0
    IsOfEquals expected = (v w : V) → eq v w ≡ true → expected v ≡ expected w

    -- `expected` has the nodes that are expected to say a value
    module _ (expected : V → List ℕ) (said : List (Said V)) where
      -- more than half of those that are expected to say the value at a place said it first
      unfoldable pub has_majority : ℕ → Bool
      has_majority place = passes_at said (λ s. nat_lt (length (expected s.value)) (2 * votes said (expected s.value) s.value)) place

      -- up to a place, so many of those that are expected to say the value there said it first
      unfoldable pub has_number : ℕ → ℕ → Bool
      has_number number place = passes_at said (λ s. nat_le number (votes (take (place + 1) said) (expected s.value) s.value)) place

      -- the first that arrived, where all that arrived are equal and each that is expected to say it and isn't down has said something
      unfoldable pub unanimous : List ℕ → Option ℕ
      unanimous down = if passes_at said (λ s. all_have_said said down (expected s.value)) 0 && is_none (first_difference said) then Some 0 else None

      -- the first that counts of those whose value has a majority
      unfoldable pub majority : Option ℕ
      majority = first_place (λ place. counts expected said place && has_majority place) (length said)

      -- the arrival by which first a value has been said so often
      unfoldable pub reached : ℕ → Option ℕ
      reached number = first_place (λ place. counts expected said place && has_number number place) (length said)

      -- the first that counts of those with that value
      unfoldable pub at_least : ℕ → Option ℕ
      at_least number = option_and_then (λ last. first_place (λ place. counts expected said place && have_equal said last place) (length said)) (reached number)

      -- the place of the value that a collator gives, where it gives one
      abbrev pub place_of_value : Kind → List ℕ → Option ℕ
      place_of_value First down = first said
      place_of_value Watchdog down = first said
      place_of_value Unanimous down = unanimous down
      place_of_value Majority down = majority
      place_of_value (AtLeast number) down = at_least number
