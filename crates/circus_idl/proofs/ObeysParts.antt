-- What an interface that obeys the rules says of each of its declarations.
use Rattle.std.proofs.Common.{◌≡◌, ℕ, zero, suc, ◌<◌, ◌≤◌, cond, List, [], ◌∷◌, ◌++◌, length, get_or, sym, ◌∙◌, ap, subst, arith, ◌⊎◌, inl, inr, eq-eqb, ne_eqb}
use Rattle.std.specs.Prelude.{◌≢◌, map, Contains}
use Rattle.std.specs.List.{AllByRecursion, flat_map}
use Rattle.std.proofs.lemmas.Bool.{cases_eq}
use Rattle.circus_value.specs.ShapeTree.{ShapeTree, FieldTree, field_trees}
use Rattle.circus_value.specs.ShapeOf.{tree_of}
use Rattle.circus_idl.specs.declared.interface.DeclaredType.{DeclaredType}
use Rattle.circus_idl.specs.declared.interface.DeclaredError.{DeclaredError}
use Rattle.circus_idl.specs.declared.interface.Procedure.{Procedure}
use Rattle.circus_idl.specs.declared.interface.Interface.{Interface}
use Rattle.circus_type.specs.Distinct.{AreDistinct}
use Rattle.circus_idl.specs.Shown.{error_name}
use Rattle.circus_idl.specs.Whole.{declared_names}
use Rattle.circus_type.specs.Together.{shapes_of, names_of, zero_size_of}
use Rattle.circus_type.specs.Obeys.{IsName, ObeyFields, AreFieldNames, ObeysWhole}
use Rattle.circus_idl.specs.Obeys.{ObeysError, ObeysProcedure, Obeys}

-- the names and types of declared types
abbrev pub type_names : List DeclaredType → List (List ℕ)
type_names ts = map (λ (t : DeclaredType). t.name) ts

abbrev pub type_shapes : List DeclaredType → List ShapeTree
type_shapes ts = map (λ (t : DeclaredType). tree_of t.shape) ts

-- the names and numbers of errors, and the types of their fields
abbrev pub error_names : List DeclaredError → List (List ℕ)
error_names es = map (λ (e : DeclaredError). e.name) es

abbrev pub error_numbers : List DeclaredError → List ℕ
error_numbers es = map (λ (e : DeclaredError). e.number) es

abbrev pub error_shapes : List DeclaredError → List ShapeTree
error_shapes es = flat_map (λ (e : DeclaredError). shapes_of e.arguments) es

-- the names and numbers of procedures, and the types of their fields
abbrev pub procedure_names : List Procedure → List (List ℕ)
procedure_names ps = map (λ (p : Procedure). p.name) ps

abbrev pub procedure_numbers : List Procedure → List ℕ
procedure_numbers ps = map (λ (p : Procedure). p.number) ps

abbrev pub procedure_shapes : List Procedure → List ShapeTree
procedure_shapes ps = flat_map (λ (p : Procedure). shapes_of p.arguments ++ shapes_of p.results) ps

-- each number is that of one of the errors
abbrev pub AreReports : List DeclaredError → List ℕ → Type 0
AreReports errors ns = AllByRecursion (λ n. Contains (error_numbers errors) n) ns

pub record TypeObeys (t : DeclaredType) : Type 0 where
  pub named : IsName t.name
  pub whole : ObeysWhole (tree_of t.shape)

-- the fields of a list
pub record FieldsObey (fields : List FieldTree) : Type 0 where
  pub names : AreFieldNames (names_of fields)
  pub whole : AllByRecursion ObeysWhole (shapes_of fields)

pub record ErrorObeys (e : DeclaredError) : Type 0 where
  pub named : IsName e.name
  pub in_range : e.number ≤ 59999
  pub arguments : FieldsObey e.arguments

pub record ProcedureObeys (errors : List DeclaredError) (p : Procedure) : Type 0 where
  pub named : IsName p.name
  pub in_range : p.number ≤ 65535
  pub arguments : FieldsObey p.arguments
  pub results : FieldsObey p.results
  pub small : zero_size_of p.arguments ≤ 65536
  pub reports : AreReports errors p.reports

all_front : {X : Type 0} (P : X → Type 0) (xs ys : List X) → AllByRecursion P (xs ++ ys) → AllByRecursion P xs
all_front P [] ys all = tt
all_front P (x ∷ xs) ys all = (all.0, all_front P xs ys all.1)

all_back : {X : Type 0} (P : X → Type 0) (xs ys : List X) → AllByRecursion P (xs ++ ys) → AllByRecursion P ys
all_back P [] ys all = all
all_back P (x ∷ xs) ys all = all_back P xs ys all.1

types_parts : (ts : List DeclaredType) → AllByRecursion IsName (type_names ts) → AllByRecursion ObeysWhole (type_shapes ts) → AllByRecursion TypeObeys ts
types_parts [] named whole = tt
types_parts (t ∷ ts) named whole = (record { named = named.0; whole = whole.0 }, types_parts ts named.1 whole.1)

errors_parts : (es : List DeclaredError) → AllByRecursion IsName (error_names es) → AllByRecursion ObeysWhole (error_shapes es) → AllByRecursion ObeysError es → AllByRecursion ErrorObeys es
errors_parts [] named whole obey = tt
errors_parts (e ∷ es) named whole obey = (
  record {
    named = named.0;
    in_range = obey.0.in_range;
    arguments = record { names = obey.0.arguments; whole = all_front ObeysWhole (shapes_of e.arguments) _ whole };
  },
  errors_parts es named.1 (all_back ObeysWhole (shapes_of e.arguments) _ whole) obey.1,
)

procedures_parts : (errors : List DeclaredError) (ps : List Procedure) → AllByRecursion IsName (procedure_names ps) → AllByRecursion ObeysWhole (procedure_shapes ps) → AllByRecursion (ObeysProcedure errors) ps → AllByRecursion (ProcedureObeys errors) ps
procedures_parts errors [] named whole obey = tt
procedures_parts errors (p ∷ ps) named whole obey =
    let own = all_front ObeysWhole (shapes_of p.arguments ++ shapes_of p.results) _ whole in (
      record {
        named = named.0;
        in_range = obey.0.in_range;
        arguments = record { names = obey.0.arguments; whole = all_front ObeysWhole (shapes_of p.arguments) _ own };
        results = record { names = obey.0.results; whole = all_back ObeysWhole (shapes_of p.arguments) _ own };
        small = obey.0.small;
        reports = obey.0.reports;
      },
      procedures_parts errors ps named.1 (all_back ObeysWhole (shapes_of p.arguments ++ shapes_of p.results) _ whole) obey.1,
    )

-- each declaration
pub record PartsObey (i : Interface) : Type 0 where
  pub types : AllByRecursion TypeObeys i.types
  pub errors : AllByRecursion ErrorObeys i.errors
  pub procedures : AllByRecursion (ProcedureObeys i.errors) i.procedures

pub parts_obey : (i : Interface) → Obeys i → PartsObey i
parts_obey i obeys =
    let types = type_names i.types in
    let shapes = type_shapes i.types in
    let named = all_front IsName (types ++ error_names i.errors) _ obeys.declared_named in
    let whole = all_front ObeysWhole (shapes ++ error_shapes i.errors) _ obeys.types in
    record {
      types = types_parts i.types (all_front IsName types _ named) (all_front ObeysWhole shapes _ whole);
      errors = errors_parts i.errors (all_back IsName types _ named) (all_back ObeysWhole shapes _ whole) obeys.errors;
      procedures = procedures_parts i.errors i.procedures (all_back IsName (types ++ error_names i.errors) _ obeys.declared_named)
          (all_back ObeysWhole (shapes ++ error_shapes i.errors) _ obeys.types) obeys.procedures;
    }

distinct_front : {X : Type 0} (xs ys : List X) → AreDistinct (xs ++ ys) → AreDistinct xs
distinct_front [] ys distinct = tt
distinct_front (x ∷ xs) ys distinct = (all_front (λ y. x ≢ y) xs ys distinct.0, distinct_front xs ys distinct.1)

distinct_back : {X : Type 0} (xs ys : List X) → AreDistinct (xs ++ ys) → AreDistinct ys
distinct_back [] ys distinct = distinct
distinct_back (x ∷ xs) ys distinct = distinct_back xs ys distinct.1

-- the names of errors differ as those of all declarations do
pub errors_distinct : (i : Interface) → AreDistinct (declared_names i) → AreDistinct (error_names i.errors)
errors_distinct i distinct =
    distinct_back (type_names i.types) _ (distinct_front (type_names i.types ++ error_names i.errors) _ distinct)

-- the types of fields
pub fields_obey : (fs : List FieldTree) → AllByRecursion ObeysWhole (shapes_of fs) → ObeyFields (field_trees fs)
fields_obey [] whole = tt
fields_obey (f ∷ fs) whole = (whole.0.inside, fields_obey fs whole.1)

-- the error of a number that is one of theirs
pub found_error : (P : DeclaredError → Type 0) (es : List DeclaredError) (n : ℕ) → AllByRecursion P es → Contains (error_numbers es) n → (e : DeclaredError) × P e × (error_name es n ≡ e.name) × (e.number ≡ n)
found_error P [] n all (k, below, is) = absurd (omega arith)
found_error P (e ∷ es) n all (k, below, is) = either (found_error P es n all.1) (cases_eq e.number n)
  where
    further : (k : ℕ) → k < length (error_numbers (e ∷ es)) → get_or (error_numbers (e ∷ es)) k n ≡ n → (e.number ≡ n → ⊥) → Contains (error_numbers es) n
    further zero below is other = absurd (other is)
    further (suc j) below is other = (j, omega arith, is)

    either : (Contains (error_numbers es) n → (d : DeclaredError) × P d × (error_name es n ≡ d.name) × (d.number ≡ n))
        → (e.number ≡ n) ⊎ (e.number ≡ n → ⊥) → (d : DeclaredError) × P d × (error_name (e ∷ es) n ≡ d.name) × (d.number ≡ n)
    either others (inl same) = (e, all.0, ap (λ b. cond b e.name (error_name es n)) (eq-eqb e.number n same), same)
    either others (inr other) =
        let (d, holds, named, same) = others (further k below is other) in
        (d, holds, ap (λ b. cond b e.name (error_name es n)) (ne_eqb e.number n other) ∙ named, same)

-- its name is one
pub error_named : (errors : List DeclaredError) (n : ℕ) → AllByRecursion ErrorObeys errors → Contains (error_numbers errors) n → IsName (error_name errors n)
error_named errors n obey contains =
    let (e, obeys, named, same) = found_error ErrorObeys errors n obey contains in subst IsName (sym named) obeys.named
