-- Modules of a plan can be run: their procedures take some arguments, so do those of their imports, and they have some state.
use Rattle.std.specs.List.{AllByRecursion, flat_map}
use Rattle.std.specs.Prelude.{slice_get, unwrap_or}
use Rattle.std.proofs.Common.{◌≡◌, ◌∙◌, ℕ, Bool, true, false, cond, nat_eq, List, [], ◌∷◌, ◌++◌, map, Option, Some, None, option_map, refl, sym, ap, subst, append_assoc, eq-eqb}
use Rattle.std.proofs.lemmas.Bool.{eqb-true}
use Rattle.circus_limits.specs.Limits.{limit_of}
use Rattle.circus_value.specs.declared.shape.Shape.{Shape}
use Rattle.circus_value.specs.ValueTree.{ValueTree}
use Rattle.circus_value.specs.Fits.{all_fit}
use Rattle.circus_type.specs.Obeys.{ObeysWhole}
use Rattle.circus_type.specs.Together.{shapes_of}
use Rattle.circus_idl.specs.declared.interface.DeclaredError.{DeclaredError}
use Rattle.circus_idl.specs.declared.interface.Procedure.{Procedure}
use Rattle.circus_idl.specs.declared.interface.Interface.{Interface}
use Rattle.circus_idl.specs.declared.interface.DeclaredType.{DeclaredType}
use Rattle.circus_idl.specs.Obeys.{Obeys}
use Rattle.circus_value.specs.ShapeOf.{tree_of}
use Rattle.circus_model.specs.Lawful.{procedure_numbered, import_of}
use Rattle.circus_model.specs.declared.signature.Import.{Import}
use Rattle.circus_model.specs.declared.signature.ProcedureShape.{ProcedureShape}
use Rattle.circus_model.specs.declared.signature.Signature.{Signature}
use Rattle.circus_check.specs.Meaning.{ModuleMeant}
use Rattle.circus_check.specs.Resolved.{module_as}
use Rattle.circus_modules.specs.InterfaceSignatures.{procedure_of}
use Rattle.circus_modules.specs.Signatures.{procedures_if, procedures_offered, interface_numbers, signature_of}
use Rattle.circus_modules.specs.Signatures as signatures
use Rattle.circus_modules.specs.Zeros.{zeros}
use Rattle.circus_modules.proofs.States.{zeros_fit_shapes}
use Rattle.circus_config.specs.declared.plan.Plan.{Plan}
use Rattle.circus_config.specs.Program.{IsPlan}
use Rattle.circus_audit.specs.Possible.{declared_by}
use Rattle.circus_audit.proofs.CompletingPlans.{some_interface}

-- some values have these shapes
abbrev pub HasValues : List Shape → Type 0
HasValues shapes = (values : List ValueTree) × (all_fit shapes values ≡ true)

-- a procedure is found by the number of this one, and takes some arguments
abbrev pub IsFound : List ProcedureShape → ProcedureShape → Type 0
IsFound ps p = (q : ProcedureShape) × (procedure_numbered p.number ps ≡ Some q) × HasValues q.arguments

-- an import is the one of its module
pub record IsOffered (imports : List Import) (i : Import) : Type 0 where
  pub found : import_of i.module imports ≡ Some i
  pub procedures : AllByRecursion (IsFound i.procedures) i.procedures

pub record CanPerform (s : Signature) : Type 0 where
  pub procedures : AllByRecursion (IsFound s.procedures) s.procedures
  pub imports : AllByRecursion (IsOffered s.imports) s.imports
  pub state : HasValues s.variables

-- ---- procedures

abbrev TakesSome : ProcedureShape → Type 0
TakesSome p = HasValues p.arguments

first_found : (number : ℕ) (xs : List ProcedureShape) (p : ProcedureShape) (ys : List ProcedureShape) → nat_eq p.number number ≡ true → AllByRecursion TakesSome (xs ++ p ∷ ys) → (q : ProcedureShape) × (procedure_numbered number (xs ++ p ∷ ys) ≡ Some q) × HasValues q.arguments
first_found number [] p ys is all = (p, ap (λ t. cond t (Some p) (procedure_numbered number ys)) is, all.0)
first_found number (x ∷ xs) p ys is all = by_test (nat_eq x.number number) refl (first_found number xs p ys is all.1)
  where
    by_test : (b : Bool) → nat_eq x.number number ≡ b → (q : ProcedureShape) × (procedure_numbered number (xs ++ p ∷ ys) ≡ Some q) × HasValues q.arguments → (q : ProcedureShape) × (procedure_numbered number (x ∷ (xs ++ p ∷ ys)) ≡ Some q) × HasValues q.arguments
    by_test true test later = (x, ap (λ t. cond t (Some x) (procedure_numbered number (xs ++ p ∷ ys))) test, all.0)
    by_test false test later = (later.0, ap (λ t. cond t (Some x) (procedure_numbered number (xs ++ p ∷ ys))) test ∙ later.1, later.2)

all_found : (xs ys : List ProcedureShape) → AllByRecursion TakesSome (xs ++ ys) → AllByRecursion (IsFound (xs ++ ys)) ys
all_found xs [] all = tt
all_found xs (p ∷ ys) all =
    let group = append_assoc xs (p ∷ []) ys in (
      first_found p.number xs p ys (eq-eqb p.number p.number refl) all,
      subst (λ ps. AllByRecursion (IsFound ps) ys) group (all_found (xs ++ p ∷ []) ys (subst (AllByRecursion TakesSome) (sym group) all)),
    )

all_front : {X : Type 0} (P : X → Type 0) (xs ys : List X) → AllByRecursion P (xs ++ ys) → AllByRecursion P xs
all_front P [] ys all = tt
all_front P (x ∷ xs) ys all = (all.0, all_front P xs ys all.1)

all_behind : {X : Type 0} (P : X → Type 0) (xs ys : List X) → AllByRecursion P (xs ++ ys) → AllByRecursion P ys
all_behind P [] ys all = all
all_behind P (x ∷ xs) ys all = all_behind P xs ys all.1

declared_take : (errors : List DeclaredError) (ps : List Procedure) → AllByRecursion ObeysWhole (flat_map (λ (p : Procedure). shapes_of p.arguments ++ shapes_of p.results) ps) → AllByRecursion TakesSome (map (procedure_of errors) ps)
declared_take errors [] all = tt
declared_take errors (p ∷ ps) all =
    let own = shapes_of p.arguments ++ shapes_of p.results in
    let others = flat_map (λ (q : Procedure). shapes_of q.arguments ++ shapes_of q.results) ps in
    let arguments = all_front ObeysWhole (shapes_of p.arguments) (shapes_of p.results) (all_front ObeysWhole own others all) in
    ((zeros p.arguments, zeros_fit_shapes p.arguments arguments), declared_take errors ps (all_behind ObeysWhole own others all))

interface_takes : (i : Interface) → Obeys i → AllByRecursion TakesSome (map (procedure_of i.errors) i.procedures)
interface_takes i obeys =
    let types = map (λ (t : DeclaredType). tree_of t.shape) i.types in
    let errors = flat_map (λ (e : DeclaredError). shapes_of e.arguments) i.errors in
    let procedures = flat_map (λ (p : Procedure). shapes_of p.arguments ++ shapes_of p.results) i.procedures in
    declared_take i.errors i.procedures (all_behind ObeysWhole (types ++ errors) procedures obeys.types)

offered_take : (interfaces : List Interface) (o : Option ℕ) → AllByRecursion Obeys interfaces → AllByRecursion (IsFound (procedures_offered interfaces o)) (procedures_offered interfaces o)
offered_take interfaces None obey = all_found [] (procedures_offered interfaces None) (([], refl), tt)
offered_take interfaces (Some n) obey = by_interface (slice_get interfaces n) refl
  where
    by_interface : (o : Option Interface) → slice_get interfaces n ≡ o → AllByRecursion (IsFound (procedures_if o)) (procedures_if o)
    by_interface (Some i) is = all_found [] (procedures_if (Some i)) (interface_takes i (some_interface interfaces n i obey is))
    by_interface None is = tt

-- ---- imports

module _ (interfaces : List Interface) (numbers : List (Option ℕ)) (obey : AllByRecursion Obeys interfaces) where
  abbrev offered : ℕ → Import
  offered k = signatures.import_of interfaces numbers k

  import_found : (xs : List ℕ) (k : ℕ) (ys : List ℕ) → import_of k (map offered (xs ++ k ∷ ys)) ≡ Some (offered k)
  import_found [] k ys = ap (λ t. cond t (Some (offered k)) (import_of k (map offered ys))) (eq-eqb k k refl)
  import_found (x ∷ xs) k ys = by_test (nat_eq x k) refl (import_found xs k ys)
    where
      by_test : (b : Bool) → nat_eq x k ≡ b → import_of k (map offered (xs ++ k ∷ ys)) ≡ Some (offered k) → import_of k (map offered (x ∷ (xs ++ k ∷ ys))) ≡ Some (offered k)
      by_test true test later = ap (λ t. cond t (Some (offered x)) (import_of k (map offered (xs ++ k ∷ ys)))) test ∙ ap (λ n. Some (offered n)) (eqb-true x k test)
      by_test false test later = ap (λ t. cond t (Some (offered x)) (import_of k (map offered (xs ++ k ∷ ys)))) test ∙ later

  imports_offered : (xs ys : List ℕ) → AllByRecursion (IsOffered (map offered (xs ++ ys))) (map offered ys)
  imports_offered xs [] = tt
  imports_offered xs (k ∷ ys) = (
    record { found = import_found xs k ys; procedures = offered_take interfaces (unwrap_or (slice_get numbers k) None) obey },
    subst (λ ks. AllByRecursion (IsOffered (map offered ks)) (map offered ys)) (append_assoc xs (k ∷ []) ys) (imports_offered (xs ++ k ∷ []) ys),
  )

-- ---- a module of a plan

pub can_perform : (plan : Plan) (number : ℕ) (s : Signature) → IsPlan plan → declared_by plan number ≡ Some s → CanPerform s
can_perform plan number s is declared = by_module (slice_get (map module_as plan.checked.modules) number) refl declared
  where
    by_module : (o : Option ModuleMeant) → slice_get (map module_as plan.checked.modules) number ≡ o → option_map (signature_of (limit_of plan.deployment.format) plan.checked.interfaces (interface_numbers (map module_as plan.checked.modules))) o ≡ Some s → CanPerform s
    by_module None at read = cc
    by_module (Some m) at read =
        let numbers = interface_numbers (map module_as plan.checked.modules) in
        let made : signature_of (limit_of plan.deployment.format) plan.checked.interfaces numbers m ≡ s = cc in
        subst CanPerform made (record {
          procedures = offered_take plan.checked.interfaces m.interface is.obey;
          imports = imports_offered plan.checked.interfaces numbers is.obey [] m.imports;
          state = (zeros m.variables, zeros_fit_shapes m.variables (is.well_formed.each number m at).types);
        })
