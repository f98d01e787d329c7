-- What the tables of interfaces say of the names of a module.
use Rattle.std.proofs.Common.{◌≡◌, ℕ, ◌<◌, ◌≤◌, List, Option, Some, None, inl, inr, is_none, refl, sym, ◌∙◌, ap, arith, option_map, unwrap_or, length}
use Rattle.std.specs.Prelude.{slice_get, option_copied, MatchOption, nat_lt, bytes_eq}
use Rattle.std.specs.List.{HoldsAt}
use Rattle.std.proofs.lemmas.Bool.{le-ltb}
use Rattle.std.proofs.lemmas.Option.{slice_get_cases, slice_get_within, slice_get_past, slice_get-get_or}
use denote.Ref.{Bor}
use Rattle.circus_syntax.specs.declared.named.Named.{Named}
use Rattle.circus_type.specs.Seen.Measured.{measure_of}
use Rattle.circus_type.proofs.WholeTypes.{sizes_of}
use Rattle.circus_resolve.specs.Scope.{Standing}
use Rattle.circus_resolve.specs.Seen.Scoped.{known_types, module_or}
use Rattle.circus_resolve.specs.Seen.Scoped as resolve
use Rattle.circus_idl.specs.declared.interface.Interface.{Interface}
use Rattle.circus_lang.specs.ModuleTree.{ModuleTree, module_of}
use Rattle.circus_check.specs.declared.known.Known.{Known}
use Rattle.circus_check.specs.declared.module.Program.{Program}
use Rattle.circus_check.specs.declared.module.Own.{Own}
use Rattle.circus_check.specs.declared.type_scope.TypeScope.{TypeScope}
use Rattle.circus_check.specs.Naming.{Import, good, forward, no_module, at_number, interface_named, interface_called}
use Rattle.circus_check.specs.Scope.{type_in, type_by, type_of, type_behind, type_named, import_named, place_unknown, shape_or}
use Rattle.circus_check.specs.Faults.{is_later, unknown_place, forms, parameters_of, missing_faults}
use Rattle.circus_check.specs.Seen.Known.{size_named}
use Rattle.circus_check.specs.Seen.Programs.{AreTold, IsTable, IsTableOf, IsTableAt, IsImported, IsOwn, modules_in, interfaces_in, order_of, parameters_in, missing_among}
use Rattle.circus_check.specs.Seen.Scoped.{interface_in, standing_in, module_name, known_in, size_among, unknown_in, form_in, size_in, AreSized}
use Rattle.circus_check.proofs.Named.{found_there}

-- what a slice has at a place
pub item_read : {X : Type 0} (xs : List X) (n : ℕ) (found : Option (Bor X)) → MatchOption found (length xs ≤ n) (λ (x : Bor X). (n < length xs) × HoldsAt (λ y. x.now ≡ y) xs n) → option_copied found ≡ slice_get xs n
item_read xs n None past = sym (slice_get_past xs n past)
item_read xs n (Some x) (below, holds) = ap Some (holds x.now) ∙ sym (slice_get-get_or xs n x.now below)

-- the table at the number of an interface
pub table_at : (known : List Known) (interfaces : List Interface) (n : ℕ) (found : Option (Bor Known)) → AreTold known interfaces → option_copied found ≡ slice_get known n → IsTable (slice_get interfaces n) found
table_at known interfaces n found told is = by_found (slice_get interfaces n) refl found is
  where
    by_found : (i : Option Interface) → slice_get interfaces n ≡ i → (found : Option (Bor Known)) → option_copied found ≡ slice_get known n → IsTable i found
    by_found None none None is = refl
    by_found None none (Some k) is =
        let below = slice_get_within known n k.now (sym is) in
        elim (slice_get_cases interfaces n).1 [ inl w ↦ absurd (let e = w.2 in cc) | inr w ↦ absurd (omega (arith, told.as_many, below, w.0)) ]
    by_found (Some i) there None is =
        let below = slice_get_within interfaces n i there in
        elim (slice_get_cases known n).1 [ inl w ↦ absurd (let e = w.2 in cc) | inr w ↦ absurd (omega (arith, told.as_many, below, w.0)) ]
    by_found (Some i) there (Some k) is = told.each n k.now i (sym is) there

-- ---- types

abbrev pub types_by : Option (Bor Known) → List ℕ → Standing
types_by known name = known_types (option_map (λ (k : Bor Known). resolve.type_in k.now.types) known) name

-- what a table has of the name of a module
abbrev standing_by : Option (Option (Bor Known)) → List ℕ → Standing
standing_by found name = module_or (option_map (λ (known : Option (Bor Known)). known_types (option_map (λ (k : Bor Known). resolve.type_in k.now.types) known)) found) name

types_in_table : (i : Option Interface) (known : Option (Bor Known)) → IsTable i known → (name : List ℕ) → types_by known name ≡ type_in i name
types_in_table None known is name = ap (λ k. types_by k name) is
types_in_table (Some i) None is name = absurd is
types_in_table (Some i) (Some k) is name = ap (λ (f : List ℕ → Standing). f name) is.types_are

pub types_of_table : (interfaces : List Interface) (interface : Option Named) (known : Option (Bor Known)) → IsTableOf interfaces interface known → (name : List ℕ) → types_by known name ≡ type_by interfaces interface name
types_of_table interfaces None None is name = absurd is
types_of_table interfaces None (Some k) is name = ap (λ (f : List ℕ → Standing). f name) is.types_are
types_of_table interfaces (Some i) known is name = types_in_table (interface_called interfaces i) known is name

types_at_table : (interfaces : List Interface) (m : Option ModuleTree) (known : Option (Bor Known)) → IsTableAt interfaces m known → (name : List ℕ) → types_by known name ≡ type_of interfaces m name
types_at_table interfaces None known is name = ap (λ k. types_by k name) is
types_at_table interfaces (Some m) known is name = types_of_table interfaces m.interface known is name

pub types_imported : (interfaces : List Interface) (modules : List ModuleTree) (import : Option Import) (found : Option (Option (Bor Known))) → IsImported interfaces modules import found → (name : List ℕ) → standing_by found name ≡ type_behind interfaces modules import name
types_imported interfaces modules None found is name = ap (λ f. standing_by f name) is
types_imported interfaces modules (Some i) None is name = absurd is
types_imported interfaces modules (Some (good k)) (Some known) is name = types_at_table interfaces (slice_get modules k) known is name
types_imported interfaces modules (Some forward) (Some known) is name = ap (λ k. types_by k name) is
types_imported interfaces modules (Some no_module) (Some known) is name = ap (λ k. types_by k name) is

-- ---- sizes

abbrev pub IsSized : Option (Bor Known) → Type 0
IsSized None = Unit {0}
IsSized (Some k) = (name : List ℕ) → size_named k.now name ≡ measure_of (shape_or (resolve.type_in k.now.types name))

size_in_table : (i : Option Interface) (known : Option (Bor Known)) → IsTable i known → IsSized known
size_in_table None None is = tt
size_in_table None (Some k) is = absurd (cc)
size_in_table (Some i) None is = tt
size_in_table (Some i) (Some k) is = λ name. (λ j. is.sizes_are j name) ∙ ap (λ (f : List ℕ → Standing). measure_of (shape_or (f name))) (sym is.types_are)

pub size_of_table : (interfaces : List Interface) (interface : Option Named) (known : Option (Bor Known)) → IsTableOf interfaces interface known → IsSized known
size_of_table interfaces None None is = tt
size_of_table interfaces None (Some k) is = λ name. (λ j. is.sizes_are j name) ∙ ap (λ (f : List ℕ → Standing). measure_of (shape_or (f name))) (sym is.types_are)
size_of_table interfaces (Some i) known is = size_in_table (interface_called interfaces i) known is

size_at_table : (interfaces : List Interface) (m : Option ModuleTree) (known : Option (Bor Known)) → IsTableAt interfaces m known → IsSized known
size_at_table interfaces None None is = tt
size_at_table interfaces None (Some k) is = absurd (cc)
size_at_table interfaces (Some m) known is = size_of_table interfaces m.interface known is

pub size_imported : (interfaces : List Interface) (modules : List ModuleTree) (import : Option Import) (found : Option (Option (Bor Known))) → IsImported interfaces modules import found → IsSized (known_in found)
size_imported interfaces modules None None is = tt
size_imported interfaces modules None (Some k) is = absurd (cc)
size_imported interfaces modules (Some i) None is = absurd is
size_imported interfaces modules (Some (good k)) (Some known) is = size_at_table interfaces (slice_get modules k) known is
size_imported interfaces modules (Some forward) (Some None) is = tt
size_imported interfaces modules (Some forward) (Some (Some k)) is = absurd (cc)
size_imported interfaces modules (Some no_module) (Some None) is = tt
size_imported interfaces modules (Some no_module) (Some (Some k)) is = absurd (cc)

pub size_found : (found : Option (Option (Bor Known))) → IsSized (known_in found) → (name : List ℕ) → size_among name (known_in found) ≡ measure_of (shape_or (standing_by found name))
size_found None is name = refl
size_found (Some None) is name = refl
size_found (Some (Some k)) is name = is name

-- ---- places

-- an interface is known exactly where its number is
pub none_called : (interfaces : List Interface) (name : List ℕ) → is_none (at_number interfaces (interface_named interfaces name)) ≡ is_none (interface_named interfaces name)
none_called interfaces name = by_place (interface_named interfaces name) refl
  where
    by_place : (o : Option ℕ) → interface_named interfaces name ≡ o → is_none (at_number interfaces o) ≡ is_none o
    by_place None is = refl
    by_place (Some k) is =
        let found = found_there (λ (i : Interface). bytes_eq i.name name) 0 interfaces k is in
        let e : k ≡ found.place = omega (arith, found.is) in
        ap (λ j. is_none (slice_get interfaces j)) e ∙ ap is_none found.there

-- a name that an earlier module has
pub later_is : (o : Option ℕ) (n : ℕ) → nat_lt (unwrap_or o n) n ≡ is_later o n
later_is None n = le-ltb n n (omega arith)
later_is (Some k) n = refl

-- ---- all names of a module

pub scope_types : (interfaces : List Interface) (modules : List ModuleTree) (i : ℕ) (m : ModuleTree) (scope : TypeScope) → IsTableOf interfaces m.interface scope.own
    → ((name : List ℕ) → IsImported interfaces modules (import_named modules i m.imports name) (interface_in scope (Some name)))
    → (other : Option (List ℕ)) (name : List ℕ) → standing_in scope other name ≡ type_named interfaces modules i m other name
scope_types interfaces modules i m scope own imported None name = types_of_table interfaces m.interface scope.own own name
scope_types interfaces modules i m scope own imported (Some other) name = types_imported interfaces modules (import_named modules i m.imports other) (interface_in scope (Some other)) (imported other) name

pub scope_sized : (interfaces : List Interface) (modules : List ModuleTree) (i : ℕ) (m : ModuleTree) (scope : TypeScope) → IsTableOf interfaces m.interface scope.own
    → ((name : List ℕ) → IsImported interfaces modules (import_named modules i m.imports name) (interface_in scope (Some name)))
    → AreSized scope
scope_sized interfaces modules i m scope own imported t = size_found (interface_in scope (module_name t)) (by_module (module_name t)) t.name.name
  where
    by_module : (o : Option (List ℕ)) → IsSized (known_in (interface_in scope o))
    by_module None = size_of_table interfaces m.interface scope.own own
    by_module (Some other) = size_imported interfaces modules (import_named modules i m.imports other) (interface_in scope (Some other)) (imported other)

module _ (p : Program) (own : Own) (is : IsOwn p own) where
  -- what is unknown in names of types, their shapes and their sizes
  pub unknown_are : unknown_in own.types ≡ unknown_place (interfaces_in p) (modules_in p) own.number (module_of own.text.now)
  unknown_are = λ j t. place_unknown (is.types (module_name t) t.name.name j) t

  pub forms_are : form_in own.types ≡ forms (interfaces_in p) (modules_in p) own.number (module_of own.text.now)
  forms_are = λ j t. shape_or (is.types (module_name t) t.name.name j)

  pub sizes_are : size_in own.types ≡ sizes_of (form_in own.types)
  sizes_are = λ j t. is.sized t j

-- ---- interfaces that may be unknown

pub parameters_are : (i : Option Interface) → parameters_in (order_of i) ≡ parameters_of i
parameters_are None = refl
parameters_are (Some i) = refl

pub missing_are : (i : Option Interface) (m : ModuleTree) → missing_among (order_of i) m ≡ missing_faults i m
missing_are None m = refl
missing_are (Some i) m = refl
