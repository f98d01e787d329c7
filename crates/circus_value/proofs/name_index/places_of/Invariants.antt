use Rattle.std.proofs.Common.{◌≡◌, ℕ, List, drop, bytes_eq}
use Rattle.std.specs.List.{position_from}
use Rattle.circus_value.specs.Seen.NamePlaces.{place_in}
use Rattle.circus_value.proofs.NameItems.{or_place}
use Rattle.circus_value.proofs.name_index.places_of.Given as goal

-- what is not in the table is among the items that are left
abbrev pub invariant-loop-place : goal.invariant-loop-place
invariant-loop-place g l =
    (name : List ℕ) → or_place (place_in l.places name) (position_from (λ x. bytes_eq (g.T.HasName.name_of x) name) l.place (drop l.place l.items)) ≡ position_from (λ x. bytes_eq (g.T.HasName.name_of x) name) 0 l.items
