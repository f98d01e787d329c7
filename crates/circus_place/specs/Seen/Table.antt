-- What is looked up while the search goes on.
use Rattle.std.specs.Prelude.{◌≡◌, ℕ, Bool, false, List, [], map, slice_get, Option, Some, unwrap_or, option_map}
use Rattle.std.specs.Borrow.{Bor}
use Rattle.std.specs.Ordering.{nat_cmp}
use Rattle.std.specs.Cmp.Lexicographic.{slice_cmp}
use Rattle.std.specs.BTreeMap.{get_by}
use Rattle.circus_place.specs.declared.placing.Constant.{Constant}
use Rattle.circus_place.specs.declared.placing.Machine.{Machine}
use Rattle.circus_place.specs.declared.condition.Operand.{Operand}
use Rattle.circus_place.specs.declared.condition.Operand.TheVariants.{Attribute, Fixed}
use Rattle.circus_place.specs.Value.{attribute_in}
use Rattle.circus_place.specs.declared.attributes.Attributes.{Attributes}
use Rattle.circus_place.specs.declared.relation.Relation.{Relation}

-- the attribute of a name
abbrev pub constant_at : Attributes → List ℕ → Option Constant
constant_at attributes name = option_map (λ c. c.now) (get_by (λ k. slice_cmp nat_cmp name k.now) attributes.table)

-- the attributes of each machine are in a table
abbrev pub AreTablesOf : List Machine → List Attributes → Type 0
AreTablesOf machines tables =
    (name : List ℕ) → map (λ t. constant_at t name) tables ≡ map (λ m. attribute_in m.attributes name) machines

-- what references point to
abbrev pub pointed_to : List (Option (Bor Constant)) → List (Option Constant)
pointed_to cs = map (option_map (λ c. c.now)) cs

-- what an operand is at each machine, if the member that it speaks of is placed there
abbrev pub values_at : List Attributes → Operand → List (Option Constant)
values_at tables (Attribute member name) = map (λ t. constant_at t name) tables
values_at tables (Fixed c) = map (λ t. Some c) tables

-- the flag at a place
abbrev pub flag_at : List Bool → ℕ → Bool
flag_at flags place = unwrap_or (slice_get flags place) false

-- the relation holds of two machines
abbrev pub relates : Relation → ℕ → ℕ → Bool
relates r first second = flag_at (unwrap_or (slice_get r.rows first) []) second
