-- What the imports of a module say to its bodies.
use Rattle.std.proofs.Common.{◌≡◌, ℕ, Bool, true, false, cond, List, [], ◌∷◌, ◌++◌, Option, Some, None, refl, sym, ◌∙◌, ap, option_map, nat_cmp}
use Rattle.std.specs.Prelude.{bytes_eq, slice_get, option_copied}
use Rattle.std.specs.Cmp.Lexicographic.{slice_cmp}
use Rattle.std.specs.BTreeMap.{get_by}
use Rattle.std.proofs.lemmas.Slice.Eq.{bytes_eq-Decides}
use denote.Ref.{Bor}
use Rattle.circus_syntax.specs.declared.named.Named.{Named}
use Rattle.circus_resolve.specs.declared.scope.ModuleScope.{ModuleScope}
use Rattle.circus_resolve.specs.declared.scope.Types.{Types}
use Rattle.circus_resolve.specs.Scope.{Standing}
use Rattle.circus_resolve.specs.Seen.Scoped as resolve
use Rattle.circus_resolve.specs.Seen.Scoped.{known_types, module_or}
use Rattle.circus_body.specs.declared.context.OfferedProcedures.{OfferedProcedures}
use Rattle.circus_body.specs.Context.{Called, unsaid, a_module}
use Rattle.circus_body.specs.Seen.Named.{called_or, offered_in}
use Rattle.circus_idl.specs.declared.interface.Interface.{Interface}
use Rattle.circus_lang.specs.ModuleTree.{ModuleTree}
use Rattle.circus_check.specs.declared.known.Known.{Known}
use Rattle.circus_check.specs.declared.type_scope.TypeScope.{TypeScope}
use Rattle.circus_check.specs.Naming.{Import, good, forward, no_module, import_at, import_of, interface_called, module_named}
use Rattle.circus_check.specs.Scope.{import_named, called_by, called_at, called_of, called_in}
use Rattle.circus_check.specs.Seen.Programs.{IsTable, IsTableOf, IsTableAt, IsImported, types_in, types_now}
use Rattle.circus_check.specs.Seen.Scoped.{interface_in, standing_in, known_in}
use Rattle.circus_check.specs.Seen.Surroundings.{number_or, procedures_now}

-- an import of a module is found by its name
pub named_there : (modules : List ModuleTree) (i : ℕ) (before : List Named) (n : Named) (rest : List Named) → import_named modules i (before ++ n ∷ rest) n.name ≡ Some (import_of modules i n)
named_there modules i [] n rest = ap (λ b. cond b (Some (import_of modules i n)) (import_named modules i rest n.name)) ((bytes_eq-Decides n.name n.name).1 refl)
named_there modules i (m ∷ before) n rest = by_test (named_there modules i before n rest) (bytes_eq m.name n.name) refl
  where
    by_test : import_named modules i (before ++ n ∷ rest) n.name ≡ Some (import_of modules i n) → (b : Bool) → bytes_eq m.name n.name ≡ b → cond b (Some (import_of modules i m)) (import_named modules i (before ++ n ∷ rest) n.name) ≡ Some (import_of modules i n)
    by_test later true is = ap (λ (name : List ℕ). Some (import_at modules i (module_named modules name))) ((bytes_eq-Decides m.name n.name).0 is)
    by_test later false is = later

-- ---- types

-- the types of an import, of which there is a table
pub had_is : (interfaces : List Interface) (modules : List ModuleTree) (import : Option Import) (found : Option (Option (Bor Known))) → IsImported interfaces modules import found
    → option_map (λ (i : Import). types_now (known_in found)) import ≡ option_map types_now found
had_is interfaces modules None found is = sym (ap (option_map types_now) is)
had_is interfaces modules (Some i) None is = absurd is
had_is interfaces modules (Some i) (Some known) is = refl

abbrev by_types : Option Types → List ℕ → Standing
by_types types name = known_types (option_map resolve.type_in types) name

by_table : (types : Option (Bor Types)) (name : List ℕ) → known_types (option_map (λ (t : Bor Types). resolve.type_in t.now) types) name ≡ by_types (option_copied types) name
by_table None name = refl
by_table (Some t) name = refl

by_known : (known : Option (Bor Known)) (name : List ℕ) → known_types (option_map (λ (k : Bor Known). resolve.type_in k.now.types) known) name ≡ by_types (types_now known) name
by_known None name = refl
by_known (Some k) name = refl

-- the types of an interface are those of its table
own_types : (types : Option (Bor Types)) (known : Option (Bor Known)) → option_copied types ≡ types_now known → (name : List ℕ)
    → known_types (option_map (λ (t : Bor Types). resolve.type_in t.now) types) name ≡ known_types (option_map (λ (k : Bor Known). resolve.type_in k.now.types) known) name
own_types types known is name = by_table types name ∙ ap (λ t. by_types t name) is ∙ sym (by_known known name)

abbrev by_all : Option (Option Types) → List ℕ → Standing
by_all types name = module_or (option_map by_types types) name

all_tables : (types : Option (Option (Bor Types))) (name : List ℕ)
    → module_or (option_map (λ (ts : Option (Bor Types)). known_types (option_map (λ (t : Bor Types). resolve.type_in t.now) ts)) types) name ≡ by_all (option_map option_copied types) name
all_tables None name = refl
all_tables (Some types) name = by_table types name

all_known : (known : Option (Option (Bor Known))) (name : List ℕ)
    → module_or (option_map (λ (k : Option (Bor Known)). known_types (option_map (λ (t : Bor Known). resolve.type_in t.now.types) k)) known) name ≡ by_all (option_map types_now known) name
all_known None name = refl
all_known (Some known) name = by_known known name

all_types : (types : Option (Option (Bor Types))) (known : Option (Option (Bor Known))) → option_map option_copied types ≡ option_map types_now known → (name : List ℕ)
    → module_or (option_map (λ (ts : Option (Bor Types)). known_types (option_map (λ (t : Bor Types). resolve.type_in t.now) ts)) types) name
    ≡ module_or (option_map (λ (k : Option (Bor Known)). known_types (option_map (λ (t : Bor Known). resolve.type_in t.now.types) k)) known) name
all_types types known is name = all_tables types name ∙ ap (λ t. by_all t name) is ∙ sym (all_known known name)

-- the names of types in the tables of a module
pub around_types : (outer : ModuleScope) (scope : TypeScope) → option_copied outer.own ≡ types_now scope.own → ((name : List ℕ) → types_in outer.imported name ≡ option_map types_now (interface_in scope (Some name)))
    → (m : Option (List ℕ)) (name : List ℕ) → resolve.type_named outer m name ≡ standing_in scope m name
around_types outer scope own imported None name = own_types outer.own scope.own own name
around_types outer scope own imported (Some m) name = all_types (get_by (λ k. slice_cmp nat_cmp m k.now) outer.imported) (interface_in scope (Some m)) (imported m) name

-- ---- calls

-- what a call finds in a table of procedures
abbrev called_now : ℕ → Option OfferedProcedures → Called
called_now number None = unsaid
called_now number (Some p) = a_module number (offered_in p)

by_callee : (number : ℕ) (procedures : Option (Bor OfferedProcedures)) → called_or (Some (record { number = number; procedures = procedures })) ≡ called_now number (option_copied procedures)
by_callee number None = refl
by_callee number (Some p) = refl

called_table : (k : ℕ) (i : Option Interface) (known : Option (Bor Known)) → IsTable i known → called_now k (procedures_now known) ≡ called_in k i
called_table k None known is = ap (λ t. called_now k (procedures_now t)) is
called_table k (Some i) None is = absurd is
called_table k (Some i) (Some t) is = ap (a_module k) is.offers_are

called_table_of : (interfaces : List Interface) (k : ℕ) (interface : Option Named) (known : Option (Bor Known)) → IsTableOf interfaces interface known → called_now k (procedures_now known) ≡ called_of interfaces k interface
called_table_of interfaces k None None is = absurd is
called_table_of interfaces k None (Some t) is = ap (a_module k) is.offers_are
called_table_of interfaces k (Some n) known is = called_table k (interface_called interfaces n) known is

called_table_at : (interfaces : List Interface) (k : ℕ) (m : Option ModuleTree) (known : Option (Bor Known)) → IsTableAt interfaces m known → called_now k (procedures_now known) ≡ called_at interfaces k m
called_table_at interfaces k None known is = ap (λ t. called_now k (procedures_now t)) is
called_table_at interfaces k (Some m) known is = called_table_of interfaces k m.interface known is

called_import : (interfaces : List Interface) (modules : List ModuleTree) (import : Import) (known : Option (Bor Known)) → IsImported interfaces modules (Some import) (Some known) → called_now (number_or import) (procedures_now known) ≡ called_by interfaces modules (Some import)
called_import interfaces modules (good k) known is = called_table_at interfaces k (slice_get modules k) known is
called_import interfaces modules forward known is = ap (λ t. called_now 0 (procedures_now t)) is
called_import interfaces modules no_module known is = ap (λ t. called_now 0 (procedures_now t)) is

-- a callee is what the rules say of its import
pub called_is : (interfaces : List Interface) (modules : List ModuleTree) (import : Import) (found : Option (Option (Bor Known))) (number : ℕ) (procedures : Option (Bor OfferedProcedures)) → IsImported interfaces modules (Some import) found
    → number ≡ number_or import → option_copied procedures ≡ procedures_now (known_in found) → called_or (Some (record { number = number; procedures = procedures })) ≡ called_by interfaces modules (Some import)
called_is interfaces modules import None number procedures is numbered same = absurd is
called_is interfaces modules import (Some known) number procedures is numbered same =
    by_callee number procedures ∙ (λ i. called_now (numbered i) (same i)) ∙ called_import interfaces modules import known is
