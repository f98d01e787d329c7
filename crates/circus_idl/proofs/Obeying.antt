-- An interface whose tree has no fault obeys the rules.
use Rattle.std.proofs.Common.{◌≡◌, ℕ, ◌+◌, ◌≤◌, Bool, true, false, cond, List, [], ◌∷◌, ◌++◌, map, refl, sym, ap, subst, arith, append_assoc, Option, Some, None, unwrap_or, is_none, bytes_eq}
use Rattle.std.specs.Prelude.{Contains, ◌||◌}
use Rattle.std.specs.List.{AllByRecursion, flat_map}
use Rattle.std.proofs.lemmas.List.Sums.{sum_by-append, sum_by-cons}
use Rattle.circus_value.specs.ShapeTree.{ShapeTree, boolean}
use Rattle.circus_value.specs.ShapeOf.{tree_of}
use Rattle.circus_syntax.specs.declared.named.Named.{Named}
use Rattle.circus_syntax.specs.declared.interface_text.ErrorText.{ErrorText}
use Rattle.circus_syntax.specs.declared.interface_text.ProcedureText.{ProcedureText}
use Rattle.circus_syntax.specs.TypeTree.{TypeTree}
use Rattle.circus_syntax.specs.InterfaceTree.{DeclaredTree, a_type, an_error, a_procedure, InterfaceTree}
use Rattle.circus_syntax.specs.Spelling.{IsEach, IsName, IsType, IsDeclared, IsGrammatical}
use Rattle.circus_fault.specs.Least.{faults_if}
use Rattle.circus_fault.specs.Known.{also_number}
use Rattle.circus_fault.proofs.Items.{none_in, contains_first, contains_later}
use Rattle.circus_idl.specs.declared.fault.Cause.TheVariants.{Unknown}
use Rattle.circus_idl.specs.declared.interface.DeclaredType.{DeclaredType}
use Rattle.circus_idl.specs.declared.interface.DeclaredError.{DeclaredError}
use Rattle.circus_idl.specs.declared.interface.Procedure.{Procedure}
use Rattle.circus_idl.specs.declared.interface.Interface.{Interface}
use Rattle.circus_type.specs.Written.{parts}
use Rattle.circus_type.specs.Scale.{written_out}
use Rattle.circus_idl.specs.Meaning.{shape_of_type}
use Rattle.circus_idl.specs.OfTypes.{of_type}
use Rattle.circus_idl.specs.Means.{NamedShape, named_shape, Meant, and_then, fields_meant, numbers_meant, reports_meant, declared_meant, errors_behind, declarations_meant, meant_of, Means}
use Rattle.circus_type.specs.Inside.{also_name}
use Rattle.circus_idl.specs.Inside.{repeated_name, repeated_number, above}
use Rattle.circus_idl.specs.Faults.{Before, nothing, cut_of, whole_faults, fields_faults, fields_parts, together_faults, unknown_errors, reports_faults, declared_faults, behind, declarations_faults, interface_faults}
use Rattle.circus_type.specs.Distinct.{AreDistinct}
use Rattle.circus_type.specs.Together.{shapes_of, parts_of, zero_size_of}
use Rattle.circus_type.specs.Obeys as rule
use Rattle.circus_type.specs.Obeys.{ObeysInside, ObeysWhole}
use Rattle.circus_idl.specs.Obeys.{ObeysError, ObeysProcedure, Obeys}
use Rattle.circus_type.proofs.Items.{all_appended, all_with, distinct_with}
use Rattle.circus_fault.proofs.NoFaults.{no_fault}
use Rattle.circus_type.proofs.NoFaults.{names_apart, numbers_apart, within}
use Rattle.circus_idl.proofs.WholeObeys.{uncut, AreWhole, whole_obeys, fields_whole, together_small}

-- names that stand before nothing yet, and no two of which are equal
record AreNew (earlier : List ℕ → Bool) (names : List (List ℕ)) : Type 0 where
  fresh : AllByRecursion (λ n. earlier n ≡ false) names
  distinct : AreDistinct names
  named : AllByRecursion rule.IsName names

one_more : (earlier : List ℕ → Bool) (xs : List (List ℕ)) (n : Named) (ys : List (List ℕ)) → IsName n → repeated_name earlier n ≡ [] → AreNew (also_name n.name earlier) (xs ++ ys) → AreNew earlier (xs ++ n.name ∷ ys)
one_more earlier xs n ys named clean others =
    let (fresh, apart) = names_apart earlier n.name (xs ++ ys) others.fresh in
    record {
      fresh = all_with (λ m. earlier m ≡ false) xs n.name ys (no_fault _ _ _ clean) fresh;
      distinct = distinct_with xs n.name ys apart others.distinct;
      named = all_with rule.IsName xs n.name ys named others.named;
    }

-- numbers that stand before nothing yet, and no two of which are equal
record AreNewNumbers (earlier : ℕ → Bool) (numbers : List ℕ) : Type 0 where
  fresh : AllByRecursion (λ n. earlier n ≡ false) numbers
  distinct : AreDistinct numbers

one_more_number : (earlier : ℕ → Bool) (value : ℕ) (numbers : List ℕ) → earlier value ≡ false → AreNewNumbers (also_number value earlier) numbers → AreNewNumbers earlier (value ∷ numbers)
one_more_number earlier value numbers fresh others =
    let (fresh_others, apart) = numbers_apart earlier value numbers others.fresh in
    record { fresh = (fresh, fresh_others); distinct = (apart, others.distinct) }

abbrev type_names : Meant → List (List ℕ)
type_names m = map (λ (t : NamedShape). t.name) m.types

abbrev error_names : Meant → List (List ℕ)
error_names m = map (λ (e : DeclaredError). e.name) m.errors

abbrev procedure_names : Meant → List (List ℕ)
procedure_names m = map (λ (p : Procedure). p.name) m.procedures

abbrev type_shapes : Meant → List ShapeTree
type_shapes m = map (λ (t : NamedShape). t.shape) m.types

abbrev error_shapes : Meant → List ShapeTree
error_shapes m = flat_map (λ (e : DeclaredError). shapes_of e.arguments) m.errors

abbrev procedure_shapes : Meant → List ShapeTree
procedure_shapes m = flat_map (λ (p : Procedure). shapes_of p.arguments ++ shapes_of p.results) m.procedures

abbrev error_numbers : List DeclaredError → List ℕ
error_numbers errors = map (λ (e : DeclaredError). e.number) errors

-- what is declared obeys the rules behind what is declared before, where these are all errors
record Follows (all : List DeclaredError) (before : Before ShapeTree) (m : Meant) : Type 0 where
  names : AreNew before.names (type_names m ++ error_names m ++ procedure_names m)
  types : AllByRecursion ObeysWhole (type_shapes m)
  error_types : AllByRecursion ObeysWhole (error_shapes m)
  procedure_types : AllByRecursion ObeysWhole (procedure_shapes m)
  few : before.parts + parts_of (type_shapes m) + parts_of (error_shapes m) + parts_of (procedure_shapes m) ≤ 16384
  errors : AllByRecursion ObeysError m.errors
  error_numbers : AreNewNumbers before.error_numbers (error_numbers m.errors)
  procedures : AllByRecursion (ObeysProcedure all) m.procedures
  procedure_numbers : AreNewNumbers before.procedure_numbers (map (λ (p : Procedure). p.number) m.procedures)

-- what is known of the names that are declared before, where these are all errors
record Linked (all : List DeclaredError) (before : Before ShapeTree) : Type 0 where
  known : (n : List ℕ) → before.types n ≡ true → ObeysInside (before.sizes n)
  reported : (n : List ℕ) (k : ℕ) → before.errors n ≡ Some k → Contains (error_numbers all) k
  few : before.parts ≤ 16384

-- these are errors of the interface
Declares : List DeclaredError → List DeclaredError → Type 0
Declares all errors = (k : ℕ) → Contains (error_numbers errors) k → Contains (error_numbers all) k

module _ (all : List DeclaredError) (before : Before ShapeTree) (linked : Linked all before) where
  -- A type.

  type_linked : (name : Named) (t : TypeTree) → IsType t → whole_faults written_out uncut before.types before.sizes before.parts 1 t ≡ [] → Linked all (behind written_out before (a_type name t))
  type_linked name t good clean =
      let (none, obeys, few) = whole_obeys before.types before.sizes linked.known before.parts 1 t good clean in
      record {
        known = λ n is. known obeys n (bytes_eq name.name n) is;
        reported = linked.reported;
        few = omega (arith, few);
      }
    where
      known : ObeysWhole (shape_of_type before.sizes t) → (n : List ℕ) (b : Bool) → (b || before.types n) ≡ true → ObeysInside (cond b (shape_of_type before.sizes t) (before.sizes n))
      known obeys n true is = obeys.inside
      known obeys n false is = linked.known n is

  type_follows : (name : Named) (t : TypeTree) (m : Meant) → IsName name → IsType t → declared_faults written_out uncut before (a_type name t) ≡ [] → Follows all (behind written_out before (a_type name t)) m → Follows all before (and_then (declared_meant before.sizes before.errors (a_type name t)) m)
  type_follows name t m named good clean rest =
      let (repeated, whole) = none_in (repeated_name before.names name) _ clean in
      let (none, obeys, few) = whole_obeys before.types before.sizes linked.known before.parts 1 t good whole in
      record {
        names = one_more before.names [] name (type_names m ++ error_names m ++ procedure_names m) named repeated rest.names;
        types = (obeys, rest.types);
        error_types = rest.error_types;
        procedure_types = rest.procedure_types;
        few = omega (arith, rest.few, sum_by-cons parts (shape_of_type before.sizes t) (type_shapes m));
        errors = rest.errors;
        error_numbers = rest.error_numbers;
        procedures = rest.procedures;
        procedure_numbers = rest.procedure_numbers;
      }

  -- An error.

  error_fields : (e : ErrorText) → IsDeclared (an_error e) → declared_faults written_out uncut before (an_error e) ≡ []
      → (repeated_name before.names e.name ≡ []) × rule.ObeyFieldList (fields_meant before.sizes e.arguments) × AreWhole before.parts (fields_parts written_out before.sizes before.parts e.arguments) (fields_meant before.sizes e.arguments)
      × (before.error_numbers e.number.value ≡ false) × (e.number.value ≤ 59999)
  error_fields e good clean =
      let (first, high) = none_in (repeated_name before.names e.name ++ fields_faults written_out uncut before.types before.sizes before.parts e.arguments ++ repeated_number before.error_numbers e.number) (above 59999 e.number) clean in
      let (two, number) = none_in (repeated_name before.names e.name ++ fields_faults written_out uncut before.types before.sizes before.parts e.arguments) (repeated_number before.error_numbers e.number) first in
      let (name, fields) = none_in (repeated_name before.names e.name) (fields_faults written_out uncut before.types before.sizes before.parts e.arguments) two in
      let (names, whole) = fields_whole before.types before.sizes linked.known before.parts e.arguments linked.few good.1 fields in
      (name, names, whole, no_fault _ _ _ number, within of_type 59999 e.number high)

  error_linked : (e : ErrorText) → Contains (error_numbers all) e.number.value → fields_parts written_out before.sizes before.parts e.arguments ≤ 16384 → Linked all (behind written_out before (an_error e))
  error_linked e there few = record {
    known = linked.known;
    reported = λ n k. reported n k (bytes_eq e.name.name n);
    few = few;
  }
    where
      reported : (n : List ℕ) (k : ℕ) (b : Bool) → cond b (Some e.number.value) (before.errors n) ≡ Some k → Contains (error_numbers all) k
      reported n k true is = let same : e.number.value ≡ k = cc in subst (Contains (error_numbers all)) same there
      reported n k false is = linked.reported n k is

  error_follows : (e : ErrorText) (m : Meant) → IsDeclared (an_error e) → declared_faults written_out uncut before (an_error e) ≡ [] → Follows all (behind written_out before (an_error e)) m → Follows all before (and_then (declared_meant before.sizes before.errors (an_error e)) m)
  error_follows e m good clean rest =
      let (name, names, whole, number, small) = error_fields e good clean in
      let own = shapes_of (fields_meant before.sizes e.arguments) in
      record {
        names =
            subst (AreNew before.names) (sym (append_assoc (type_names m) (e.name.name ∷ error_names m) (procedure_names m)))
            (one_more before.names (type_names m) e.name (error_names m ++ procedure_names m) good.0 name
            (subst (AreNew (also_name e.name.name before.names)) (append_assoc (type_names m) (error_names m) (procedure_names m)) rest.names));
        types = rest.types;
        error_types = all_appended ObeysWhole own (error_shapes m) whole.types rest.error_types;
        procedure_types = rest.procedure_types;
        few = omega (arith, rest.few, whole.counted_is, sum_by-append parts own (error_shapes m));
        errors = (record { in_range = small; arguments = names }, rest.errors);
        error_numbers = one_more_number before.error_numbers e.number.value (error_numbers m.errors) number rest.error_numbers;
        procedures = rest.procedures;
        procedure_numbers = rest.procedure_numbers;
      }

  -- A procedure.

  reported_number : (o : Option ℕ) → is_none o ≡ false → ((k : ℕ) → o ≡ Some k → Contains (error_numbers all) k) → Contains (error_numbers all) (unwrap_or o 0)
  reported_number None some there = absurd (cc)
  reported_number (Some k) some there = there k refl

  names_reported : (ns : List Named) → unknown_errors before.errors ns ≡ [] → AllByRecursion (Contains (error_numbers all)) (numbers_meant before.errors ns)
  names_reported [] clean = tt
  names_reported (n ∷ ns) clean =
      let (first, rest) = none_in (faults_if (is_none (before.errors n.name)) n.at Unknown) (unknown_errors before.errors ns) clean in
      (reported_number (before.errors n.name) (no_fault _ _ _ first) (linked.reported n.name), names_reported ns rest)

  reports_obey : (ns : Option (List Named)) → reports_faults before.errors ns ≡ [] → AllByRecursion (Contains (error_numbers all)) (reports_meant before.errors ns)
  reports_obey None clean = tt
  reports_obey (Some ns) clean = names_reported ns clean

  -- what a procedure without a fault is
  record IsClean (p : ProcedureText) : Type 0 where
    name : repeated_name before.names p.name ≡ []
    arguments : rule.ObeyFieldList (fields_meant before.sizes p.arguments)
    whole_arguments : AreWhole before.parts (fields_parts written_out before.sizes before.parts p.arguments) (fields_meant before.sizes p.arguments)
    results : rule.ObeyFieldList (fields_meant before.sizes p.results)
    whole_results : AreWhole (fields_parts written_out before.sizes before.parts p.arguments) (fields_parts written_out before.sizes (fields_parts written_out before.sizes before.parts p.arguments) p.results) (fields_meant before.sizes p.results)
    small : zero_size_of (fields_meant before.sizes p.arguments) ≤ 65536
    reports : AllByRecursion (Contains (error_numbers all)) (reports_meant before.errors p.reports)
    number : before.procedure_numbers p.number.value ≡ false
    in_range : p.number.value ≤ 65535

  procedure_clean : (p : ProcedureText) → IsDeclared (a_procedure p) → declared_faults written_out uncut before (a_procedure p) ≡ [] → IsClean p
  procedure_clean p good clean =
      let parts = fields_parts written_out before.sizes before.parts p.arguments in
      let name = repeated_name before.names p.name in
      let together = together_faults written_out uncut before.types before.sizes p.name p.arguments in
      let arguments = fields_faults written_out uncut before.types before.sizes before.parts p.arguments in
      let results = fields_faults written_out uncut before.types before.sizes parts p.results in
      let reports = reports_faults before.errors p.reports in
      let number = repeated_number before.procedure_numbers p.number in
      let (six, high) = none_in (name ++ together ++ arguments ++ results ++ reports ++ number) (above 65535 p.number) clean in
      let (five, no_number) = none_in (name ++ together ++ arguments ++ results ++ reports) number six in
      let (four, no_reports) = none_in (name ++ together ++ arguments ++ results) reports five in
      let (three, no_results) = none_in (name ++ together ++ arguments) results four in
      let (two, no_arguments) = none_in (name ++ together) arguments three in
      let (no_name, no_together) = none_in name together two in
      let (argument_names, whole_arguments) = fields_whole before.types before.sizes linked.known before.parts p.arguments linked.few good.1 no_arguments in
      let (result_names, whole_results) = fields_whole before.types before.sizes linked.known parts p.results whole_arguments.few good.2 no_results in
      record {
        name = no_name;
        arguments = argument_names;
        whole_arguments = whole_arguments;
        results = result_names;
        whole_results = whole_results;
        small = together_small before.types before.sizes linked.known before.parts p.name p.arguments linked.few good.1 no_arguments no_together;
        reports = reports_obey p.reports no_reports;
        number = no_fault _ _ _ no_number;
        in_range = within of_type 65535 p.number high;
      }

  procedure_linked : (p : ProcedureText) → IsClean p → Linked all (behind written_out before (a_procedure p))
  procedure_linked p clean = record { known = linked.known; reported = linked.reported; few = clean.whole_results.few }

  procedure_follows : (p : ProcedureText) (m : Meant) → IsDeclared (a_procedure p) → IsClean p → Follows all (behind written_out before (a_procedure p)) m → Follows all before (and_then (declared_meant before.sizes before.errors (a_procedure p)) m)
  procedure_follows p m good clean rest =
      let arguments = shapes_of (fields_meant before.sizes p.arguments) in
      let results = shapes_of (fields_meant before.sizes p.results) in
      record {
        names = one_more before.names (type_names m ++ error_names m) p.name (procedure_names m) good.0 clean.name rest.names;
        types = rest.types;
        error_types = rest.error_types;
        procedure_types =
            all_appended ObeysWhole (arguments ++ results) (procedure_shapes m) (all_appended ObeysWhole arguments results clean.whole_arguments.types clean.whole_results.types) rest.procedure_types;
        few = omega (arith, rest.few, clean.whole_arguments.counted_is, clean.whole_results.counted_is, sum_by-append parts arguments results, sum_by-append parts (arguments ++ results) (procedure_shapes m));
        errors = rest.errors;
        error_numbers = rest.error_numbers;
        procedures = (
          record { in_range = clean.in_range; arguments = clean.arguments; results = clean.results; small = clean.small; reports = clean.reports },
          rest.procedures,
        );
        procedure_numbers = one_more_number before.procedure_numbers p.number.value (map (λ (q : Procedure). q.number) m.procedures) clean.number rest.procedure_numbers;
      }

-- Declarations one behind the other.

follow : (all : List DeclaredError) (before : Before ShapeTree) (ds : List DeclaredTree) → Linked all before → IsEach IsDeclared ds → declarations_faults written_out uncut before ds ≡ []
    → Declares all (declarations_meant before.sizes before.errors ds).errors → Follows all before (declarations_meant before.sizes before.errors ds)
unfolding Declares
follow all before [] linked good clean declares = record {
  names = record { fresh = tt; distinct = tt; named = tt };
  types = tt;
  error_types = tt;
  procedure_types = tt;
  few = omega (arith, linked.few);
  errors = tt;
  error_numbers = record { fresh = tt; distinct = tt };
  procedures = tt;
  procedure_numbers = record { fresh = tt; distinct = tt };
}
follow all before (a_type name t ∷ ds) linked good clean declares =
    let (own, rest) = none_in (declared_faults written_out uncut before (a_type name t)) (declarations_faults written_out uncut (behind written_out before (a_type name t)) ds) clean in
    let (repeated, whole) = none_in (repeated_name before.names name) (whole_faults written_out uncut before.types before.sizes before.parts 1 t) own in
    type_follows all before linked name t _ good.0.0 good.0.1 own
    (follow all (behind written_out before (a_type name t)) ds (type_linked all before linked name t good.0.1 whole) good.1 rest declares)
follow all before (an_error e ∷ ds) linked good clean declares =
    let (own, rest) = none_in (declared_faults written_out uncut before (an_error e)) (declarations_faults written_out uncut (behind written_out before (an_error e)) ds) clean in
    let fields = error_fields all before linked e good.0 own in
    let others = (declarations_meant before.sizes (errors_behind before.errors (an_error e)) ds).errors in
    error_follows all before linked e _ good.0 own
    (follow all (behind written_out before (an_error e)) ds
    (error_linked all before linked e (declares e.number.value (contains_first e.number.value (error_numbers others))) fields.2.few)
    good.1 rest (λ k there. declares k (contains_later e.number.value (error_numbers others) k there)))
follow all before (a_procedure p ∷ ds) linked good clean declares =
    let (own, rest) = none_in (declared_faults written_out uncut before (a_procedure p)) (declarations_faults written_out uncut (behind written_out before (a_procedure p)) ds) clean in
    let is = procedure_clean all before linked p good.0 own in
    procedure_follows all before linked p _ good.0 is
    (follow all (behind written_out before (a_procedure p)) ds (procedure_linked all before linked p is) good.1 rest declares)

-- The interface.

type_names_are : (types : List DeclaredType) → map (λ (t : NamedShape). t.name) (map named_shape types) ≡ map (λ (t : DeclaredType). t.name) types
type_names_are [] = refl
type_names_are (t ∷ types) = ap (λ ns. t.name ∷ ns) (type_names_are types)

type_shapes_are : (types : List DeclaredType) → map (λ (t : NamedShape). t.shape) (map named_shape types) ≡ map (λ (t : DeclaredType). tree_of t.shape) types
type_shapes_are [] = refl
type_shapes_are (t ∷ types) = ap (λ ss. tree_of t.shape ∷ ss) (type_shapes_are types)

pub meant_obeys : (tree : InterfaceTree) (i : Interface) → IsGrammatical tree → interface_faults (cut_of None) tree ≡ [] → Means tree i → Obeys i
unfolding Declares
meant_obeys tree i good clean means =
    let meant = declarations_meant (λ _. boolean) (λ _. None) tree.declared in
    let (numbers, rest) = none_in (above 4294967295 tree.number ++ above 65535 tree.version) (declarations_faults written_out uncut (nothing written_out) tree.declared) clean in
    let (program, version) = none_in (above 4294967295 tree.number) (above 65535 tree.version) numbers in
    let linked : Linked meant.errors (nothing written_out) = record { known = λ n is. absurd (cc); reported = λ n k is. absurd (cc); few = omega arith } in
    let follows : Follows i.errors (nothing written_out) (meant_of i) =
    subst (λ (m : Meant). Follows m.errors (nothing written_out) m) (sym means.declared) (follow meant.errors (nothing written_out) tree.declared linked good.3 rest (λ k there. there)) in
    let names = ap (λ ns. ns ++ map (λ (e : DeclaredError). e.name) i.errors ++ map (λ (p : Procedure). p.name) i.procedures) (type_names_are i.types) in
    let shapes = type_shapes_are i.types in
    let types : AllByRecursion ObeysWhole (map (λ (t : DeclaredType). tree_of t.shape) i.types) = subst (AllByRecursion ObeysWhole) shapes follows.types in
    record {
      named = subst rule.IsName (sym means.name) good.0;
      number = subst (λ n. n ≤ 4294967295) (sym means.number) (within of_type 4294967295 tree.number program);
      version = subst (λ n. n ≤ 65535) (sym means.version) (within of_type 65535 tree.version version);
      declared_named = subst (AllByRecursion rule.IsName) names follows.names.named;
      names = subst AreDistinct names follows.names.distinct;
      types = all_appended ObeysWhole _ _ (all_appended ObeysWhole _ _ types follows.error_types) follows.procedure_types;
      errors = follows.errors;
      error_numbers = follows.error_numbers.distinct;
      procedures = follows.procedures;
      procedure_numbers = follows.procedure_numbers.distinct;
      parts = omega (
        arith,
        follows.few,
        ap parts_of shapes,
        sum_by-append parts (map (λ (t : DeclaredType). tree_of t.shape) i.types) (error_shapes (meant_of i)),
        sum_by-append parts (map (λ (t : DeclaredType). tree_of t.shape) i.types ++ error_shapes (meant_of i)) (procedure_shapes (meant_of i)),
      );
    }
