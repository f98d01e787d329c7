-- The tree of an interface that obeys the rules means it, and no other.
use Rattle.std.proofs.Common.{◌≡◌, ℕ, List, [], ◌∷◌, ◌++◌, refl, sym, ◌∙◌, ap, ap₂, append-nil, Option, None, unwrap_or}
use Rattle.std.specs.Prelude.{map}
use Rattle.std.specs.List.{AllByRecursion}
use Rattle.circus_value.specs.ShapeTree.{ShapeTree, FieldTree, field_trees, boolean}
use Rattle.circus_value.specs.ShapeOf.{tree_of}
use Rattle.circus_syntax.specs.InterfaceTree.{DeclaredTree, InterfaceTree}
use Rattle.circus_idl.specs.declared.interface.DeclaredType.{DeclaredType}
use Rattle.circus_idl.specs.declared.interface.DeclaredError.{DeclaredError}
use Rattle.circus_idl.specs.declared.interface.Procedure.{Procedure}
use Rattle.circus_idl.specs.declared.interface.Interface.{Interface}
use Rattle.circus_idl.specs.Meaning.{written_groups}
use Rattle.circus_idl.specs.Means.{NamedShape, named_shape, Meant, and_then, fields_meant, reports_meant, numbers_meant, declarations_meant, meant_of, Means}
use Rattle.circus_type.specs.Distinct.{AreDistinct}
use Rattle.circus_idl.specs.Obeys.{Obeys}
use Rattle.circus_idl.proofs.Places.{next}
use Rattle.circus_idl.proofs.PlainTypes.{groups_at}
use Rattle.circus_idl.proofs.PlainWritten.{type_written, groups_written}
use Rattle.circus_value.specs.ShapeOf.{fields_in, shape_in}
use Rattle.circus_value.proofs.ShapeBack.{fields_back, shape_back}
use Rattle.circus_idl.proofs.ObeysParts.{error_names, errors_distinct, TypeObeys, FieldsObey, ErrorObeys, ProcedureObeys, PartsObey, fields_obey}
use Rattle.circus_idl.proofs.ErrorsFound.{errors_after, IsReported, are_reported}
use Rattle.circus_idl.proofs.PlainDeclared.{group_list_is, fields_at, names_at, reports_at, behind_head, behind_arguments, behind_results, types_at, errors_at, procedures_at, declared_at, at_declared, interface_at}

groups_meant : (form : List ℕ → ShapeTree) (fs : List FieldTree) (ps : List ℕ) → FieldsObey fs → written_groups form (groups_at (field_trees fs) ps) ≡ fs
groups_meant form fs ps obey =
    sym (fields_back (written_groups form (groups_at (field_trees fs) ps))) ∙ ap fields_in (groups_written (field_trees fs) ps form (fields_obey fs obey.whole)) ∙ fields_back fs

fields_mean : (form : List ℕ → ShapeTree) (fs : List FieldTree) (ps : List ℕ) → FieldsObey fs → fields_meant form (fields_at fs ps) ≡ fs
fields_mean form [] ps obey = refl
fields_mean form (f ∷ fs) ps obey = ap (written_groups form) (group_list_is (f ∷ fs) (next ps)) ∙ groups_meant form (f ∷ fs) (next ps) obey

names_mean : (errors : List DeclaredError) (ns ps : List ℕ) → AllByRecursion (IsReported errors) ns → numbers_meant (errors_after (λ _. None) errors) (names_at errors ns ps) ≡ ns
names_mean errors [] ps reported = refl
names_mean errors (n ∷ ns) ps reported =
    ap₂ (λ m ms. m ∷ ms) (ap (λ o. unwrap_or o 0) reported.0.found) (names_mean errors ns _ reported.1)

reports_mean : (errors : List DeclaredError) (ns ps : List ℕ) → AllByRecursion (IsReported errors) ns → reports_meant (errors_after (λ _. None) errors) (reports_at errors ns ps) ≡ ns
reports_mean errors [] ps reported = refl
reports_mean errors (n ∷ ns) ps reported = names_mean errors (n ∷ ns) (next (next ps)) reported

types_mean : (ts : List DeclaredType) (ps : List ℕ) (form : List ℕ → ShapeTree) (errors : List ℕ → Option ℕ) (rest : List DeclaredTree) (m : Meant) → AllByRecursion TypeObeys ts
    → ((after : List ℕ → ShapeTree) → declarations_meant after errors rest ≡ m)
    → declarations_meant form errors (types_at ts ps ++ rest) ≡ and_then (record { types = map named_shape ts; errors = []; procedures = [] }) m
types_mean [] ps form errors rest m obey then = then form
types_mean (t ∷ ts) ps form errors rest m obey then =
    ap₂ (λ s others. and_then (record { types = record { name = t.name; shape = s } ∷ []; errors = []; procedures = [] }) others)
    (type_written (tree_of t.shape) _ form obey.0.whole.inside) (types_mean ts _ _ errors rest m obey.1 then)

errors_mean : (es : List DeclaredError) (ps : List ℕ) (form : List ℕ → ShapeTree) (errors : List ℕ → Option ℕ) (rest : List DeclaredTree) (m : Meant) → AllByRecursion ErrorObeys es
    → declarations_meant form (errors_after errors es) rest ≡ m
    → declarations_meant form errors (errors_at es ps ++ rest) ≡ and_then (record { types = []; errors = es; procedures = [] }) m
errors_mean [] ps form errors rest m obey then = then
errors_mean (e ∷ es) ps form errors rest m obey then =
    ap₂ (λ d others. and_then (record { types = []; errors = d ∷ []; procedures = [] }) others)
    (ap (λ fs. record { name = e.name; number = e.number; arguments = fs }) (fields_mean form e.arguments (behind_head ps) obey.0.arguments))
    (errors_mean es _ form _ rest m obey.1 then)

procedure_is : (p : Procedure) (arguments results : List FieldTree) (reports : List ℕ) → arguments ≡ p.arguments → results ≡ p.results → reports ≡ p.reports
    → ◌≡◌ {A = Procedure} (record { name = p.name; number = p.number; arguments = arguments; results = results; reports = reports }) p
procedure_is p arguments results reports a r e = λ i. record { name = p.name; number = p.number; arguments = a i; results = r i; reports = e i }

procedures_mean : (errors : List DeclaredError) (pr : List Procedure) (ps : List ℕ) (form : List ℕ → ShapeTree)
    → AllByRecursion ErrorObeys errors → AreDistinct (error_names errors) → AllByRecursion (ProcedureObeys errors) pr
    → declarations_meant form (errors_after (λ _. None) errors) (procedures_at errors pr ps) ≡ record { types = []; errors = []; procedures = pr }
procedures_mean errors [] ps form are distinct obey = refl
procedures_mean errors (p ∷ pr) ps form are distinct obey =
    ap₂ (λ q others. and_then (record { types = []; errors = []; procedures = q ∷ [] }) others)
    (procedure_is p _ _ _ (fields_mean form p.arguments (behind_head ps) obey.0.arguments)
    (fields_mean form p.results (next (behind_arguments p ps)) obey.0.results)
    (reports_mean errors p.reports (behind_results p ps) (are_reported errors p.reports are distinct obey.0.reports)))
    (procedures_mean errors pr _ form are distinct obey.1)

declared_means : (i : Interface) (ps : List ℕ) → PartsObey i → AreDistinct (error_names i.errors) → declarations_meant (λ _. boolean) (λ _. None) (declared_at i ps) ≡ meant_of i
declared_means i ps obey distinct =
    types_mean i.types ps (λ _. boolean) (λ _. None) _ _ obey.types
    (λ form. errors_mean i.errors _ form (λ _. None) _ _ obey.errors (procedures_mean i.errors i.procedures _ form obey.errors distinct obey.procedures))
    ∙ (λ k. record { types = append-nil (map named_shape i.types) k; errors = append-nil i.errors k; procedures = i.procedures })

-- the tree means the interface
pub interface_means : (i : Interface) (ps : List ℕ) → Obeys i → PartsObey i → Means (interface_at i ps) i
interface_means i ps obeys obey = record {
  name = refl;
  number = refl;
  version = refl;
  declared = sym (declared_means i (at_declared ps) obey (errors_distinct i obeys.names));
}

-- the declared type of a name and a shape
abbrev type_in : NamedShape → DeclaredType
type_in t = record { name = t.name; shape = shape_in t.shape }

types_back : (ts : List DeclaredType) → map type_in (map named_shape ts) ≡ ts
types_back [] = refl
types_back (t ∷ ts) = ap₂ (λ s us. record { name = t.name; shape = s } ∷ us) (shape_back t.shape) (types_back ts)

-- a tree means one interface
pub one_meant : (tree : InterfaceTree) (i j : Interface) → Means tree i → Means tree j → j ≡ i
one_meant tree i j means other =
    let name = other.name ∙ sym means.name in
    let number = other.number ∙ sym means.number in
    let version = other.version ∙ sym means.version in
    let declared = other.declared ∙ sym means.declared in
    let types = sym (types_back j.types) ∙ ap (λ (m : Meant). map type_in m.types) declared ∙ types_back i.types in
    let errors = ap (λ (m : Meant). m.errors) declared in
    let procedures = ap (λ (m : Meant). m.procedures) declared in
    λ k. record { name = name k; number = number k; version = version k; types = types k; errors = errors k; procedures = procedures k }
