-- Conditions as the search asks them.
use Rattle.std.specs.Prelude.{◌≡◌, ℕ, ◌-◌, ◌<◌, Bool, true, false, ◌&&◌, ◌||◌, not, if◌then◌else◌, nat_eq, List, [], ◌∷◌, length, slice_get, slice_index, Option, Some, None, option_map, All}
use Rattle.std.specs.List.{list_any}
use Rattle.circus_place.specs.declared.condition.Operand.{Operand}
use Rattle.circus_place.specs.declared.condition.Operand.TheVariants.{Attribute, Fixed}
use Rattle.circus_place.specs.declared.relation.Relation.{Relation}
use Rattle.circus_place.specs.declared.test.Test.{Test, Or', And', Not', Related, Differ}
use Rattle.circus_place.specs.Seen.Table.{flag_at, relates}

-- each of the machines has a value, and no two have the same
abbrev pub differs : List Bool → Relation → List ℕ → Bool
differs has same [] = true
differs has same (m ∷ ms) = flag_at has m && not (list_any (relates same m) ms) && differs has same ms

-- the test of a whole choice
abbrev pub passes : Test → List ℕ → Bool
passes (Or' p l q r) choice = passes l choice || passes r choice
passes (And' p l q r) choice = passes l choice && passes r choice
passes (Not' p t) choice = not (passes t choice)
passes (Related first second r) choice = relates r (slice_index choice first) (slice_index choice second)
passes (Differ members has same) choice = differs has same choice

-- one of two, either of which may be known
abbrev pub known_or : Option Bool → Option Bool → Option Bool
known_or (Some true) b = Some true
known_or (Some false) b = b
known_or None (Some true) = Some true
known_or None (Some false) = None
known_or None None = None

-- both of two
abbrev pub known_and : Option Bool → Option Bool → Option Bool
known_and (Some false) b = Some false
known_and (Some true) b = b
known_and None (Some false) = Some false
known_and None (Some true) = None
known_and None None = None

-- a relation of two machines, either of which may be known
abbrev pub known_related : Relation → Option ℕ → Option ℕ → Option Bool
known_related r (Some first) (Some second) = Some (relates r first second)
known_related r _ _ = None

-- what is known of a test where the first members are at these machines
abbrev pub value_so_far : Test → List ℕ → Option Bool
value_so_far (Or' p l q r) ms = known_or (value_so_far l ms) (value_so_far r ms)
value_so_far (And' p l q r) ms = known_and (value_so_far l ms) (value_so_far r ms)
value_so_far (Not' p t) ms = option_map not (value_so_far t ms)
value_so_far (Related first second r) ms = known_related r (slice_get ms first) (slice_get ms second)
value_so_far (Differ members has same) ms =
    if differs has same ms then (if nat_eq (length ms) members then Some true else None) else Some false

abbrev pub is_known_false : Option Bool → Bool
is_known_false (Some b) = not b
is_known_false None = false

-- a test of so many members
abbrev pub IsTestOf : ℕ → Test → Type 0
IsTestOf members (Or' p l q r) = IsTestOf members l × IsTestOf members r
IsTestOf members (And' p l q r) = IsTestOf members l × IsTestOf members r
IsTestOf members (Not' p t) = IsTestOf members t
IsTestOf members (Related first second r) = (first < members) × (second < members)
IsTestOf members (Differ all has same) = all ≡ members

-- a machine for each of so many members, each of so many machines
abbrev pub ArePlaced : ℕ → ℕ → List ℕ → Type 0
ArePlaced members machines choice = (length choice ≡ members) × All (λ m. m < machines) choice

-- the member of whose machine an operand speaks, from 0; a fixed value speaks of any, so of the first
abbrev pub member_of : Operand → ℕ
member_of (Attribute member name) = member - 1
member_of (Fixed c) = 0
