-- What tables say of names, and what a sort of the code stands for.
use Rattle.std.specs.Prelude.{ℕ, List, Option, Some, None, option_map}
use Rattle.std.specs.Option.{option_or}
use Rattle.std.specs.Ordering.{nat_cmp}
use Rattle.std.specs.Cmp.Lexicographic.{slice_cmp}
use Rattle.std.specs.BTreeMap.{BTreeMap, get_by}
use Rattle.std.specs.Borrow.{Bor}
use Rattle.circus_value.specs.ShapeTree.{ShapeTree, boolean, text}
use Rattle.circus_value.specs.declared.shape.Shape.{Shape}
use Rattle.circus_value.specs.ShapeOf.{tree_of}
use Rattle.circus_syntax.specs.declared.named.Named.{Named}
use Rattle.circus_syntax.specs.declared.named.TypeName.{TypeName}
use Rattle.circus_resolve.specs.declared.scope.ModuleScope.{ModuleScope as Outer}
use Rattle.circus_resolve.specs.declared.scope.Scope.{Scope as Table}
use Rattle.circus_resolve.specs.declared.scope.Types.{Types}
use Rattle.circus_resolve.specs.declared.scope.Variable.{Variable as Entry}
use Rattle.circus_resolve.specs.declared.scope.Standing.{Standing as Answer}
use Rattle.circus_resolve.specs.declared.scope.Standing.TheVariants as answer
use Rattle.circus_resolve.specs.declared.sort.Sort.{Sort as Given}
use Rattle.circus_resolve.specs.declared.sort.Sort.TheVariants as given
use Rattle.circus_resolve.specs.Scope.{Scope, Variable, Standing, a_type, no_module, no_type, unsaid}
use Rattle.circus_checked.specs.Sorts.{Sort, a_number, of, sort_of}

abbrev pub variable_as : Entry → Variable
variable_as v = record { place = v.place; shape = tree_of v.shape.now }

abbrev pub standing_as : Answer → Standing
standing_as (answer.Type s) = a_type (tree_of s.now)
standing_as answer.NoModule = no_module
standing_as answer.NoType = no_type
standing_as answer.Unsaid = unsaid

abbrev pub sort_as : Given → Sort
sort_as given.Number = a_number
sort_as given.Truth = of boolean
sort_as given.Text = of text
sort_as (given.Of s) = sort_of (tree_of s.now)

-- a type that was found or not
abbrev pub type_or : Option Standing → Standing
type_or None = no_type
type_or (Some s) = s

-- what a table of types says of a name
abbrev pub type_in : Types → List ℕ → Standing
type_in types name = type_or (option_map (λ s. a_type (tree_of s.now)) (get_by (λ k. slice_cmp nat_cmp name k.now) types.table))

-- and one that may be unknown
abbrev pub known_types : Option (List ℕ → Standing) → List ℕ → Standing
known_types None name = unsaid
known_types (Some types) name = types name

-- a module that is imported or not
abbrev pub module_or : Option (List ℕ → Standing) → List ℕ → Standing
module_or None name = no_module
module_or (Some types) name = types name

-- what the tables of a module say of the name of a type
abbrev pub type_named : Outer → Option (List ℕ) → List ℕ → Standing
type_named outer None name = known_types (option_map (λ types. type_in types.now) outer.own) name
type_named outer (Some m) name =
    module_or (option_map (λ types. known_types (option_map (λ known. type_in known.now) types)) (get_by (λ k. slice_cmp nat_cmp m k.now) outer.imported)) name

-- what a table of variables says of a name
abbrev pub variable_in : BTreeMap (Bor (List ℕ)) Entry → List ℕ → Option Variable
variable_in table name = option_map variable_as (get_by (λ k. slice_cmp nat_cmp name k.now) table)

abbrev pub scope_as : Table → Scope
scope_as scope = record {
  variable = λ name. option_or (variable_in scope.variables name) (variable_in scope.outer.now.state name);
  type_named = type_named scope.outer.now;
}

-- what tables of a module say of a type
abbrev pub standing_among : Outer → TypeName → Standing
standing_among outer t = type_named outer (option_map (λ (m : Named). m.name) t.«module») t.name.name

-- a shape that may be unknown
abbrev pub shape_as : Option (Bor Shape) → Option ShapeTree
shape_as shape = option_map (λ (s : Bor Shape). tree_of s.now) shape
