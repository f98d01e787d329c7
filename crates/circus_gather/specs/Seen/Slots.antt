-- Calls in slots, some of which are empty, and where the calls of each index are.
use Rattle.std.specs.Prelude.{◌≡◌, ℕ, suc, Bool, if◌then◌else◌, List, [], ◌∷◌, fold, nat_eq, Option, Some, None, option_and_then, slice_get, slice_set, unwrap_or}
use Rattle.std.specs.Option.{option_map_or}
use Rattle.std.specs.Map.{lookup}
use Rattle.circus_gather.specs.declared.held.HeldCall.{HeldCall}
use Rattle.circus_gather.specs.Gathering.{is_of_index}

module _ {X : Type 0} where
  -- what stands in the slots, in order
  abbrev pub items_in : List (Option X) → List X
  items_in [] = []
  items_in (None ∷ slots) = items_in slots
  items_in (Some x ∷ slots) = x ∷ items_in slots

  -- the slots of those that pass, of which the first has this place
  abbrev pub places_from : (X → Bool) → ℕ → List (Option X) → List ℕ
  places_from p at [] = []
  places_from p at (None ∷ slots) = places_from p (suc at) slots
  places_from p at (Some x ∷ slots) = if p x then at ∷ places_from p (suc at) slots else places_from p (suc at) slots

  -- what stands in the slot at a place
  abbrev pub item_at : List (Option X) → ℕ → Option X
  item_at slots place = option_and_then (λ o. o) (slice_get slots place)

  abbrev pub calls_at : List (Option X) → List ℕ → List X
  calls_at slots [] = []
  calls_at slots (place ∷ places) = option_map_or (λ x. x ∷ calls_at slots places) (item_at slots place) (calls_at slots places)

  -- once the slot at a place is empty
  abbrev pub emptied_one : List (Option X) → ℕ → List (Option X)
  emptied_one slots place = slice_set slots place None

  abbrev pub empty_slots : List (Option X) → List ℕ → List (Option X)
  empty_slots slots places = fold emptied_one slots places

-- the slots of the calls of an index
abbrev pub slots_of_index : List (ℕ × List ℕ) → ℕ → List ℕ
slots_of_index entries index = unwrap_or (lookup (nat_eq index) entries) []

-- the calls of each index are found
abbrev pub AreFound : ℕ → List (Option HeldCall) → List (ℕ × List ℕ) → Type 0
AreFound «module» slots entries = (index : ℕ) → slots_of_index entries index ≡ places_from (is_of_index «module» index) 0 slots
