use Rattle.std.proofs.Common.{◌≡◌, ℕ, drop, nat_cmp}
use Rattle.std.specs.List.{position_from}
use Rattle.std.specs.BTreeMap.{get}
use Rattle.circus_idl.specs.Shown.{has_number}
use Rattle.circus_idl.proofs.FirstPlace.{or_place}
use Rattle.circus_idl.proofs.errors_by_number.places_of.Given as goal

-- what is not in the map is among the errors that are left
abbrev pub invariant-loop-place : goal.invariant-loop-place
invariant-loop-place l =
    (n : ℕ) → or_place (get nat_cmp l.places n) (position_from (has_number n) l.place (drop l.place l.errors)) ≡ position_from (has_number n) 0 l.errors
