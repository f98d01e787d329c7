-- What the names in a module stand for: types, variables, procedures and errors.
use Rattle.std.specs.Prelude.{ℕ, ◌+◌, cond, bytes_eq, List, [], ◌∷◌, Option, Some, None, slice_get}
use Rattle.circus_value.specs.ShapeTree.{ShapeTree, FieldTrees, boolean, field_trees, no_fields, more_fields}
use Rattle.circus_value.specs.ShapeOf.{tree_of}
use Rattle.circus_value.specs.Among.{is_among}
use Rattle.circus_syntax.specs.declared.named.Named.{Named}
use Rattle.circus_syntax.specs.declared.named.TypeName.{TypeName}
use Rattle.circus_resolve.specs.Scope.{Variable, Standing, a_type, no_module, no_type, unsaid}
use Rattle.circus_resolve.specs.Faults.{place_of_type}
use Rattle.circus_body.specs.Context as body
use Rattle.circus_body.specs.Context.{Reported, Offered, Called, not_imported, a_module, Context}
use Rattle.circus_idl.specs.Meaning.{standing_for}
use Rattle.circus_idl.specs.declared.interface.DeclaredType.{DeclaredType}
use Rattle.circus_idl.specs.declared.interface.DeclaredError.{DeclaredError}
use Rattle.circus_idl.specs.declared.interface.Procedure.{Procedure}
use Rattle.circus_idl.specs.declared.interface.Interface.{Interface}
use Rattle.circus_lang.specs.ModuleTree.{ModuleTree}
use Rattle.circus_check.specs.Naming.{Import, good, forward, interface_called, import_of}
use Rattle.circus_check.specs.Naming as naming

-- ---- types

-- the types of an interface behind others
abbrev pub types_behind : List DeclaredType → (List ℕ → Standing) → List ℕ → Standing
types_behind [] earlier = earlier
types_behind (t ∷ ts) earlier = types_behind ts (standing_for t.name (a_type (tree_of t.shape)) earlier)

abbrev pub types_among : Interface → List ℕ → Standing
types_among i = types_behind i.types (λ _. no_type)

-- of an interface that may be unknown
abbrev pub type_in : Option Interface → List ℕ → Standing
type_in None name = unsaid
type_in (Some i) name = types_among i name

-- of the interface that a module names; a root has none, and so no types
abbrev pub type_by : List Interface → Option Named → List ℕ → Standing
type_by interfaces None name = no_type
type_by interfaces (Some i) name = type_in (interface_called interfaces i) name

abbrev pub type_of : List Interface → Option ModuleTree → List ℕ → Standing
type_of interfaces None name = unsaid
type_of interfaces (Some m) name = type_by interfaces m.interface name

-- of an imported module
abbrev pub type_imported : List Interface → List ModuleTree → Import → List ℕ → Standing
type_imported interfaces modules (good k) name = type_of interfaces (slice_get modules k) name
type_imported interfaces modules forward name = unsaid
type_imported interfaces modules naming.no_module name = unsaid

-- the import of this name
abbrev pub import_named : List ModuleTree → ℕ → List Named → List ℕ → Option Import
import_named modules i [] name = None
import_named modules i (n ∷ ns) name = cond (bytes_eq n.name name) (Some (import_of modules i n)) (import_named modules i ns name)

abbrev pub type_behind : List Interface → List ModuleTree → Option Import → List ℕ → Standing
type_behind interfaces modules None name = no_module
type_behind interfaces modules (Some i) name = type_imported interfaces modules i name

-- what the name of a type stands for in the module of a number
abbrev pub type_named : List Interface → List ModuleTree → ℕ → ModuleTree → Option (List ℕ) → List ℕ → Standing
type_named interfaces modules i m None name = type_by interfaces m.interface name
type_named interfaces modules i m (Some other) name = type_behind interfaces modules (import_named modules i m.imports other) name

-- the place of what is unknown in it
abbrev pub place_unknown : Standing → TypeName → Option ℕ
place_unknown (a_type _) t = None
place_unknown no_module t = Some (place_of_type t)
place_unknown no_type t = Some t.name.at
place_unknown unsaid t = None

-- its shape, and BOOLEAN where there is none
abbrev pub shape_or : Standing → ShapeTree
shape_or (a_type s) = s
shape_or _ = boolean

-- ---- variables

-- fields as variables, the first of which has a place, behind others
abbrev pub variables_behind : ℕ → FieldTrees → (List ℕ → Option Variable) → List ℕ → Option Variable
variables_behind n no_fields earlier = earlier
variables_behind n (more_fields name s fs) earlier =
    variables_behind (n + 1) fs (standing_for name (Some (record { place = n; shape = s })) earlier)

-- how many fields there are
abbrev pub places_behind : ℕ → FieldTrees → ℕ
places_behind n no_fields = n
places_behind n (more_fields _ _ fs) = places_behind (n + 1) fs

-- the state, the arguments and the locals of a procedure
abbrev pub variables_of : FieldTrees → FieldTrees → FieldTrees → List ℕ → Option Variable
variables_of state arguments locals =
    variables_behind (places_behind (places_behind 0 state) arguments) locals
    (variables_behind (places_behind 0 state) arguments (variables_behind 0 state (λ _. None)))

-- ---- procedures and errors

abbrev pub error_of : DeclaredError → Reported
error_of e = record { number = e.number; values = field_trees e.arguments }

-- those of some errors that are of these numbers, behind others
abbrev pub errors_behind : List ℕ → List DeclaredError → (List ℕ → Option Reported) → List ℕ → Option Reported
errors_behind numbers [] earlier = earlier
errors_behind numbers (e ∷ es) earlier =
    errors_behind numbers es (cond (is_among numbers e.number) (standing_for e.name (Some (error_of e)) earlier) earlier)

abbrev pub offered_by : Interface → Procedure → Offered
offered_by i p = record {
  number = p.number;
  arguments = field_trees p.arguments;
  results = field_trees p.results;
  reported = errors_behind p.reports i.errors (λ _. None);
}

-- what procedures of an interface offer, behind others
abbrev pub offered_behind : Interface → List Procedure → (List ℕ → Option Offered) → List ℕ → Option Offered
offered_behind i [] earlier = earlier
offered_behind i (p ∷ ps) earlier = offered_behind i ps (standing_for p.name (Some (offered_by i p)) earlier)

abbrev pub offered_in : Interface → List ℕ → Option Offered
offered_in i = offered_behind i i.procedures (λ _. None)

-- MAIN has no arguments, gives nothing and reports nothing
abbrev pub main_offered : Offered
main_offered = record { number = 0; arguments = no_fields; results = no_fields; reported = λ _. None }

-- the interface that a module implements, where it is known
abbrev pub implemented_by : List Interface → Option Named → Option Interface
implemented_by interfaces None = None
implemented_by interfaces (Some i) = interface_called interfaces i

-- what a procedure of a module offers by its name; where there is no interface, or none that is known, it is MAIN
abbrev pub offered_here : Option Interface → List ℕ → Option Offered
offered_here None name = Some main_offered
offered_here (Some i) name = offered_in i name

abbrev pub called_in : ℕ → Option Interface → Called
called_in k None = body.unsaid
called_in k (Some i) = a_module k (offered_in i)

-- a module without an interface has no procedures to call
abbrev pub called_of : List Interface → ℕ → Option Named → Called
called_of interfaces k None = a_module k (λ _. None)
called_of interfaces k (Some i) = called_in k (interface_called interfaces i)

abbrev pub called_at : List Interface → ℕ → Option ModuleTree → Called
called_at interfaces k None = body.unsaid
called_at interfaces k (Some m) = called_of interfaces k m.interface

abbrev pub called_by : List Interface → List ModuleTree → Option Import → Called
called_by interfaces modules None = not_imported
called_by interfaces modules (Some (good k)) = called_at interfaces k (slice_get modules k)
called_by interfaces modules (Some forward) = body.unsaid
called_by interfaces modules (Some naming.no_module) = body.unsaid

-- what a body of a module may name, whose variables are these and whose procedure is this
abbrev pub context_of : List Interface → List ModuleTree → ℕ → ModuleTree → (List ℕ → Option Variable) → Offered → Context
context_of interfaces modules i m variables own = record {
  scope = record { variable = variables; type_named = type_named interfaces modules i m };
  called = λ name. called_by interfaces modules (import_named modules i m.imports name);
  own = own;
}
