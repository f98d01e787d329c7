-- What names stand for in modules in which nothing is wrong.
use Rattle.std.proofs.Common.{◌≡◌, ◌≢◌, ℕ, false, List, [], refl, sym, ◌∙◌, ap, subst, Option, Some, None, ◌⊎◌, inl, inr}
use Rattle.std.specs.Prelude.{slice_get, is_none, option_map, Contains}
use Rattle.std.specs.List.{AllByRecursion}
use Rattle.circus_value.specs.ShapeTree.{ShapeTree}
use Rattle.circus_value.specs.ShapeOf.{tree_of}
use Rattle.circus_syntax.specs.declared.named.Named.{Named}
use Rattle.circus_syntax.specs.declared.named.TypeName.{TypeName}
use Rattle.circus_type.specs.Obeys.{ObeysInside}
use Rattle.circus_fault.proofs.NoFaults.{no_fault}
use Rattle.circus_resolve.specs.Scope.{Standing, a_type, no_type, unsaid}
use Rattle.circus_resolve.specs.Scope as standing
use Rattle.circus_body.specs.Context as body
use Rattle.circus_body.specs.Context.{Offered, Called, not_imported, a_module}
use Rattle.circus_idl.specs.declared.interface.DeclaredType.{DeclaredType}
use Rattle.circus_idl.specs.declared.interface.Interface.{Interface}
use Rattle.circus_idl.specs.Obeys.{Obeys}
use Rattle.circus_lang.specs.ModuleTree.{ModuleTree}
use Rattle.circus_check.specs.Naming.{Import, good, forward, no_module, interface_named, interface_called, at_number}
use Rattle.circus_check.specs.Scope.{types_among, type_in, type_by, type_of, type_imported, type_behind, type_named, import_named, place_unknown, shape_or, offered_in, called_in, called_of, called_at, called_by}
use Rattle.circus_check.specs.Faults.{interface_faults, imports_faults, unknown_place, forms}
use Rattle.circus_check.specs.Faults as faults
use Rattle.circus_check.specs.Meaning.{import_numbers}
use Rattle.circus_check.proofs.Declared.{type_declared, types_said}
use Rattle.circus_check.proofs.Interfaces.{Fits, type_fits}
use Rattle.circus_check.proofs.Named.{at_place, imported}

-- the interface of a name, with its number
pub record KnownInterface (interfaces : List Interface) (name : Named) : Type 0 where
  pub number : ℕ
  pub interface : Interface
  pub named : interface_named interfaces name.name ≡ Some number
  pub there : slice_get interfaces number ≡ Some interface
  pub called : interface_called interfaces name ≡ Some interface

some_there : {X : Type 0} (o : Option X) → is_none o ≡ false → (x : X) × (o ≡ Some x)
some_there None is = absurd (cc)
some_there (Some x) is = (x, refl)

pub known_interface : (interfaces : List Interface) (name : Named) → interface_faults interfaces (Some name) ≡ [] → KnownInterface interfaces name
known_interface interfaces name none =
    let (i, called) = some_there (interface_called interfaces name) (no_fault _ _ _ none) in
    by i called (interface_named interfaces name.name) refl
  where
    by : (i : Interface) → interface_called interfaces name ≡ Some i → (o : Option ℕ) → interface_named interfaces name.name ≡ o → KnownInterface interfaces name
    by i called None named = absurd (let is : None ≡ Some i = ap (at_number interfaces) (sym named) ∙ called in cc)
    by i called (Some k) named = record { number = k; interface = i; named = named; there = ap (at_number interfaces) (sym named) ∙ called; called = called }

module _ (interfaces : List Interface) (obey : AllByRecursion Obeys interfaces) where
  pub called_obeys : (name : Named) (i : Interface) → interface_called interfaces name ≡ Some i → Obeys i
  called_obeys name i is = by (interface_named interfaces name.name) is
    where
      by : (o : Option ℕ) → at_number interfaces o ≡ Some i → Obeys i
      by None is = absurd (cc)
      by (Some k) is = at_place Obeys interfaces k i obey is

  among_fits : (i : Interface) → Obeys i → (name : List ℕ) (s : ShapeTree) → types_among i name ≡ a_type s → Fits s
  among_fits i obeys name s is = by (type_declared i.types (λ _. no_type) name s is)
    where
      by : (no_type ≡ a_type s) ⊎ ((t : DeclaredType) × Contains i.types t × (tree_of t.shape ≡ s)) → Fits s
      by (inl none) = absurd (cc)
      by (inr (t, there, same)) = subst Fits same (type_fits i obeys t there)

  in_fits : (name : Named) (o : Option Interface) → interface_called interfaces name ≡ o → (type : List ℕ) (s : ShapeTree) → type_in o type ≡ a_type s → Fits s
  in_fits name None called type s is = absurd (cc)
  in_fits name (Some i) called type s is = among_fits i (called_obeys name i called) type s is

  by_fits : (o : Option Named) (type : List ℕ) (s : ShapeTree) → type_by interfaces o type ≡ a_type s → Fits s
  by_fits None type s is = absurd (cc)
  by_fits (Some name) type s is = in_fits name (interface_called interfaces name) refl type s is

  of_fits : (o : Option ModuleTree) (type : List ℕ) (s : ShapeTree) → type_of interfaces o type ≡ a_type s → Fits s
  of_fits None type s is = absurd (cc)
  of_fits (Some m) type s is = by_fits m.interface type s is

  imported_fits : (modules : List ModuleTree) (x : Import) (type : List ℕ) (s : ShapeTree) → type_imported interfaces modules x type ≡ a_type s → Fits s
  imported_fits modules (good k) type s is = of_fits (slice_get modules k) type s is
  imported_fits modules forward type s is = absurd (cc)
  imported_fits modules no_module type s is = absurd (cc)

  behind_fits : (modules : List ModuleTree) (o : Option Import) (type : List ℕ) (s : ShapeTree) → type_behind interfaces modules o type ≡ a_type s → Fits s
  behind_fits modules None type s is = absurd (cc)
  behind_fits modules (Some x) type s is = imported_fits modules x type s is

  -- a type of a name is one of an interface
  pub named_fits : (modules : List ModuleTree) (n : ℕ) (m : ModuleTree) (q : Option (List ℕ)) (type : List ℕ) (s : ShapeTree) → type_named interfaces modules n m q type ≡ a_type s → Fits s
  named_fits modules n m None type s is = by_fits m.interface type s is
  named_fits modules n m (Some other) type s is = behind_fits modules (import_named modules n m.imports other) type s is

  -- the shape of a name that is known
  pub known_obeys : (modules : List ModuleTree) (n : ℕ) (m : ModuleTree) (t : TypeName) → unknown_place interfaces modules n m t ≡ None → ObeysInside (forms interfaces modules n m t)
  known_obeys modules n m t none = by (faults.standing_of interfaces modules n m t) refl none
    where
      by : (s : Standing) → faults.standing_of interfaces modules n m t ≡ s → place_unknown s t ≡ None → ObeysInside (shape_or s)
      by (a_type s) is none = (named_fits modules n m (option_map (λ (x : Named). x.name) t.«module») t.name.name s is).inside
      by standing.no_module is none = tt
      by no_type is none = tt
      by unsaid is none = tt

-- ---- what is said

module _ (interfaces : List Interface) (modules : List ModuleTree) (known : (k : ℕ) (m : ModuleTree) → slice_get modules k ≡ Some m → interface_faults interfaces m.interface ≡ []) where
  by_said : (o : Option Named) → interface_faults interfaces o ≡ [] → (type : List ℕ) → type_by interfaces o type ≢ unsaid
  by_said None none type is = absurd (cc)
  by_said (Some name) none type is =
      let k = known_interface interfaces name none in
      types_said k.interface.types (λ _. no_type) type (λ e. absurd (cc)) (ap (λ o. type_in o type) (sym k.called) ∙ is)

  behind_said : (n : ℕ) (m : ModuleTree) → imports_faults modules n m.imports ≡ [] → (other type : List ℕ) → type_behind interfaces modules (import_named modules n m.imports other) type ≢ unsaid
  behind_said n m none other type is = by (import_named modules n m.imports other) refl is
    where
      by : (o : Option Import) → import_named modules n m.imports other ≡ o → type_behind interfaces modules o type ≡ unsaid → ⊥
      by None found said = absurd (cc)
      by (Some x) found said =
          let i = imported modules n m.imports other x none found in
          by_said i.earlier.other.interface (known i.number i.earlier.other i.earlier.there) type
          (ap (λ o. type_of interfaces o type) (sym i.earlier.there) ∙ ap (λ y. type_imported interfaces modules y type) (sym i.is) ∙ said)

  pub named_said : (n : ℕ) (m : ModuleTree) → interface_faults interfaces m.interface ≡ [] → imports_faults modules n m.imports ≡ [] → (q : Option (List ℕ)) (type : List ℕ) → type_named interfaces modules n m q type ≢ unsaid
  named_said n m own none None type is = by_said m.interface own type is
  named_said n m own none (Some other) type is = behind_said n m none other type is

  of_number : (k : ℕ) (o : Option Named) → interface_faults interfaces o ≡ [] → (callee : ℕ) (procedures : List ℕ → Option Offered) → called_of interfaces k o ≡ a_module callee procedures → k ≡ callee
  of_number k None none callee procedures is =
      let nothing : List ℕ → Option Offered = λ _. None in
      let same : a_module k nothing ≡ a_module callee procedures = is in
      cc
  of_number k (Some name) none callee procedures is =
      let i = known_interface interfaces name none in
      let same : a_module k (offered_in i.interface) ≡ a_module callee procedures = ap (called_in k) (sym i.called) ∙ is in
      cc

  never_unsaid : (k : ℕ) (o : Option Named) → interface_faults interfaces o ≡ [] → called_of interfaces k o ≢ body.unsaid
  never_unsaid k None none is = absurd (cc)
  never_unsaid k (Some name) none is =
      let i = known_interface interfaces name none in
      let same : a_module k (offered_in i.interface) ≡ body.unsaid = ap (called_in k) (sym i.called) ∙ is in
      cc

  pub called_said : (n : ℕ) (m : ModuleTree) → imports_faults modules n m.imports ≡ [] → (name : List ℕ) → called_by interfaces modules (import_named modules n m.imports name) ≢ body.unsaid
  called_said n m none name is = by (import_named modules n m.imports name) refl is
    where
      by : (o : Option Import) → import_named modules n m.imports name ≡ o → called_by interfaces modules o ≡ body.unsaid → ⊥
      by None found said = absurd (cc)
      by (Some x) found said =
          let i = imported modules n m.imports name x none found in
          never_unsaid i.number i.earlier.other.interface (known i.number i.earlier.other i.earlier.there)
          (ap (called_at interfaces i.number) (sym i.earlier.there) ∙ ap (λ y. called_by interfaces modules (Some y)) (sym i.is) ∙ said)

  -- what a name that is called leads to
  pub record Callee (n : ℕ) (m : ModuleTree) (callee : ℕ) (procedures : List ℕ → Option Offered) : Type 0 where
    pub other : ModuleTree
    pub there : slice_get modules callee ≡ Some other
    pub among : Contains (import_numbers modules n m.imports) callee
    pub offers : called_of interfaces callee other.interface ≡ a_module callee procedures

  pub callee_is : (n : ℕ) (m : ModuleTree) → imports_faults modules n m.imports ≡ [] → (name : List ℕ) (callee : ℕ) (procedures : List ℕ → Option Offered) → called_by interfaces modules (import_named modules n m.imports name) ≡ a_module callee procedures → Callee n m callee procedures
  callee_is n m none name callee procedures is = by (import_named modules n m.imports name) refl is
    where
      by : (o : Option Import) → import_named modules n m.imports name ≡ o → called_by interfaces modules o ≡ a_module callee procedures → Callee n m callee procedures
      by None found called = absurd (cc)
      by (Some x) found called =
          let i = imported modules n m.imports name x none found in
          let offers = ap (called_at interfaces i.number) (sym i.earlier.there) ∙ ap (λ y. called_by interfaces modules (Some y)) (sym i.is) ∙ called in
          let same = of_number i.number i.earlier.other.interface (known i.number i.earlier.other i.earlier.there) callee procedures offers in
          record {
            other = i.earlier.other;
            there = ap (slice_get modules) (sym same) ∙ i.earlier.there;
            among = subst (Contains (import_numbers modules n m.imports)) same i.among;
            offers = ap (λ k. called_of interfaces k i.earlier.other.interface) (sym same) ∙ offers;
          }
