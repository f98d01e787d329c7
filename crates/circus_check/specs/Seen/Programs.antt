-- What a program and a module are to the code that goes over them.
use Rattle.std.specs.Prelude.{◌≡◌, ◌≤◌, ℕ, Bool, List, [], Option, Some, None, map, length, option_map, is_some, slice_get, bytes_eq}
use Rattle.std.specs.List.{AllByRecursion, position_from}
use Rattle.std.specs.Ordering.{nat_cmp}
use Rattle.std.specs.Cmp.Lexicographic.{slice_cmp}
use Rattle.std.specs.BTreeMap.{BTreeMap, get_by}
use Rattle.std.specs.Borrow.{Bor}
use Rattle.circus_syntax.specs.declared.named.Named.{Named}
use Rattle.circus_fault.specs.Least.{faults_if}
use Rattle.circus_type.specs.Inside.{no_name}
use Rattle.circus_resolve.specs.declared.cause.CheckCause.TheVariants.{Missing}
use Rattle.circus_resolve.specs.Faults.{Faults}
use Rattle.circus_resolve.specs.declared.scope.Types.{Types}
use Rattle.circus_body.specs.Seen.Named.{offered_as}
use Rattle.circus_idl.specs.declared.interface.Procedure.{Procedure}
use Rattle.circus_idl.specs.declared.interface.Interface.{Interface}
use Rattle.circus_idl.specs.Obeys.{Obeys}
use Rattle.circus_lang.specs.ModuleTree.{ModuleTree, module_of}
use Rattle.circus_limits.specs.Limits.{most_modules}
use Rattle.circus_check.specs.declared.known.Known.{Known}
use Rattle.circus_check.specs.declared.module.Program.{Program}
use Rattle.circus_check.specs.declared.module.Own.{Own}
use Rattle.circus_check.specs.Naming.{Import, good, forward, no_module, interface_called}
use Rattle.circus_check.specs.Scope.{type_named, main_offered, implemented_by, import_named}
use Rattle.circus_check.specs.Faults.{also_parameters, lacking_of}
use Rattle.circus_check.specs.Seen.Known.{TellsInterface, TellsNothing}
use Rattle.circus_check.specs.Seen.Scoped.{interface_in, standing_in, AreSized}

-- the modules of a program, and its interfaces
abbrev pub modules_in : Program → List ModuleTree
modules_in p = map module_of p.naming.now.modules.now

abbrev pub interfaces_in : Program → List Interface
interfaces_in p = p.naming.now.interfaces.now

-- tables of all interfaces
pub record AreTold (known : List Known) (interfaces : List Interface) : Type 0 where
  pub as_many : length known ≡ length interfaces
  pub each : (n : ℕ) (k : Known) (i : Interface) → slice_get known n ≡ Some k → slice_get interfaces n ≡ Some i → TellsInterface k i

pub record IsProgram (p : Program) : Type 0 where
  pub obey : AllByRecursion Obeys (interfaces_in p)
  pub told : AreTold p.known.now (interfaces_in p)
  pub nothing : TellsNothing p.nothing.now
  pub main : offered_as p.main.now ≡ main_offered

-- the table of an interface that may be unknown
abbrev pub IsTable : Option Interface → Option (Bor Known) → Type 0
IsTable None known = known ≡ None
IsTable (Some i) None = ⊥
IsTable (Some i) (Some known) = TellsInterface known.now i

-- that of the interface that a module names; a root names none, and so has no types
abbrev pub IsTableOf : List Interface → Option Named → Option (Bor Known) → Type 0
IsTableOf interfaces None None = ⊥
IsTableOf interfaces None (Some known) = TellsNothing known.now
IsTableOf interfaces (Some name) known = IsTable (interface_called interfaces name) known

-- that of the interface of a module
abbrev pub IsTableAt : List Interface → Option ModuleTree → Option (Bor Known) → Type 0
IsTableAt interfaces None known = known ≡ None
IsTableAt interfaces (Some m) known = IsTableOf interfaces m.interface known

-- what a table has of an import
abbrev pub IsImported : List Interface → List ModuleTree → Option Import → Option (Option (Bor Known)) → Type 0
IsImported interfaces modules None found = found ≡ None
IsImported interfaces modules (Some i) None = ⊥
IsImported interfaces modules (Some (good k)) (Some known) = IsTableAt interfaces (slice_get modules k) known
IsImported interfaces modules (Some forward) (Some known) = known ≡ None
IsImported interfaces modules (Some no_module) (Some known) = known ≡ None

-- the procedures of an interface that is known, in order
abbrev pub order_of : Option Interface → Option (List Procedure)
order_of None = None
order_of (Some i) = Some i.procedures

-- the names of all their parameters
abbrev pub parameters_in : Option (List Procedure) → List ℕ → Bool
parameters_in None = no_name
parameters_in (Some ps) = also_parameters ps no_name

-- what a module lacks of them
abbrev pub missing_among : Option (List Procedure) → ModuleTree → Faults
missing_among None m = []
missing_among (Some ps) m = faults_if (is_some (lacking_of ps m.procedures)) m.name.at Missing

-- the place of the first procedure of this name
abbrev pub place_named : Option (List Procedure) → List ℕ → Option ℕ
place_named None name = None
place_named (Some ps) name = position_from (λ (p : Procedure). bytes_eq p.name name) 0 ps

abbrev pub list_now : Option (Bor (List Procedure)) → Option (List Procedure)
list_now o = option_map (λ (ps : Bor (List Procedure)). ps.now) o

-- what the names of a module stand for
pub record IsOwn (p : Program) (own : Own) : Type 0 where
  pub few : own.number ≤ most_modules
  pub known : IsTableOf (interfaces_in p) own.text.now.interface own.types.own
  pub imported : (name : List ℕ) → IsImported (interfaces_in p) (modules_in p) (import_named (modules_in p) own.number own.text.now.imports name) (interface_in own.types (Some name))
  pub types : (m : Option (List ℕ)) (name : List ℕ) → standing_in own.types m name ≡ type_named (interfaces_in p) (modules_in p) own.number (module_of own.text.now) m name
  pub sized : AreSized own.types
  pub order : list_now own.order ≡ order_of (implemented_by (interfaces_in p) own.text.now.interface)

-- the types of the imported modules, as statements name them, and as a module has them
abbrev pub types_in : BTreeMap (Bor (List ℕ)) (Option (Bor Types)) → List ℕ → Option (Option Types)
types_in table name = option_map (λ (types : Option (Bor Types)). option_map (λ (t : Bor Types). t.now) types) (get_by (λ k. slice_cmp nat_cmp name k.now) table)

-- the types of an interface that may be unknown
abbrev pub types_now : Option (Bor Known) → Option Types
types_now known = option_map (λ (k : Bor Known). k.now.types) known

abbrev pub types_had : Own → List ℕ → Option (Option Types)
types_had own name = option_map types_now (interface_in own.types (Some name))
