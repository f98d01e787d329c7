-- The tree of an interface that obeys the rules has no fault.
use Rattle.std.proofs.Common.{◌≡◌, ℕ, ◌+◌, ◌≤◌, Bool, List, [], ◌∷◌, ◌++◌, refl, sym, ◌∙◌, ap, subst, arith, append_assoc, Option, None, is_none}
use Rattle.std.specs.List.{AllByRecursion}
use Rattle.std.proofs.lemmas.List.Sums.{sum_by-cons, sum_by-append}
use Rattle.circus_value.specs.ShapeOf.{tree_of}
use Rattle.circus_value.specs.ShapeTree.{ShapeTree}
use Rattle.circus_syntax.specs.InterfaceTree.{DeclaredTree}
use Rattle.circus_idl.specs.declared.interface.DeclaredType.{DeclaredType}
use Rattle.circus_idl.specs.declared.interface.DeclaredError.{DeclaredError}
use Rattle.circus_idl.specs.declared.interface.Procedure.{Procedure}
use Rattle.circus_idl.specs.declared.interface.Interface.{Interface}
use Rattle.circus_type.specs.Distinct.{AreDistinct}
use Rattle.circus_type.specs.Written.{parts}
use Rattle.circus_type.specs.Together.{shapes_of, parts_of}
use Rattle.circus_type.specs.Scale.{written_out}
use Rattle.circus_type.specs.Inside.{also_name}
use Rattle.circus_idl.specs.Faults.{Before, nothing, cut_of, behind, fields_faults, fields_parts, unknown_errors, reports_faults, declarations_faults, interface_faults}
use Rattle.circus_idl.specs.Shown.{error_name}
use Rattle.circus_idl.specs.Obeys.{Obeys}
use Rattle.circus_idl.proofs.Places.{next, named_at}
use Rattle.circus_idl.proofs.PlainRules.{AreNew, names_new, numbers_new, none_new, no_fault, none_then, not_above}
use Rattle.circus_idl.proofs.ObeysParts.{type_names, type_shapes, error_names, error_numbers, error_shapes, procedure_names, procedure_numbers, procedure_shapes, TypeObeys, ErrorObeys, ProcedureObeys, PartsObey, errors_distinct}
use Rattle.circus_idl.proofs.ErrorsFound.{errors_after, IsReported, are_reported}
use Rattle.circus_idl.proofs.PlainFields.{whole_counted, whole_clean, fields_clean, fields_counted, together_clean}
use Rattle.circus_idl.proofs.PlainDeclared.{fields_at, names_at, reports_at, behind_head, behind_arguments, behind_results, declared_type_at, declared_error_at, declared_procedure_at, types_at, errors_at, procedures_at, declared_at, at_declared, interface_at}

-- these names are new and distinct, and there is room for so many parts
record Ready (before : Before ShapeTree) (names : List (List ℕ)) (count : ℕ) : Type 0 where
  new : AreNew before.names names
  distinct : AreDistinct names
  room : before.parts + count ≤ 16384

-- behind a declaration of the first of the names
ready_behind : (before after : Before ShapeTree) (name : List ℕ) (names : List (List ℕ)) (count more : ℕ) → Ready before (name ∷ names) (count + more)
    → after.names ≡ also_name name before.names → after.parts ≡ before.parts + count → Ready after names more
ready_behind before after name names count more ready named counted = record {
  new = subst (λ earlier. AreNew earlier names) (sym named) (names_new name names before.names ready.distinct.0 ready.new.1);
  distinct = ready.distinct.1;
  room = let room = ready.room in omega arith;
}

ready_regrouped : (before : Before ShapeTree) (names : List (List ℕ)) (count more : ℕ) → count ≡ more → Ready before names count → Ready before names more
ready_regrouped before names count more same = subst (Ready before names) same

-- a list of declarations with no fault, and others behind it
abbrev IsCleanBehind : List DeclaredTree → Before ShapeTree → Type 0
IsCleanBehind ds before = declarations_faults written_out (cut_of None) before ds ≡ []

-- what types leave as it is
abbrev Unchanged : Type 1
Unchanged = (List ℕ → Option ℕ) → (ℕ → Bool) → (ℕ → Bool) → Type 0

types_clean : (Keeps : Unchanged) (ts : List DeclaredType) (ps : List ℕ) (before : Before ShapeTree) (rest : List DeclaredTree) (names : List (List ℕ)) (count : ℕ)
    → AllByRecursion TypeObeys ts → Ready before (type_names ts ++ names) (parts_of (type_shapes ts) + count)
    → Keeps before.errors before.error_numbers before.procedure_numbers
    → ((after : Before ShapeTree) → Ready after names count → Keeps after.errors after.error_numbers after.procedure_numbers → IsCleanBehind rest after)
    → IsCleanBehind (types_at ts ps ++ rest) before
types_clean Keeps [] ps before rest names count obey ready keeps then = then before (ready_regrouped before names _ _ (omega arith) ready) keeps
types_clean Keeps (t ∷ ts) ps before rest names count obey ready keeps then =
    let place = next (next (next (next ps))) in
    let more = sum_by-cons parts (tree_of t.shape) (type_shapes ts) in
    let room = ready.room in
    let here : before.parts + parts (tree_of t.shape) ≤ 16384 = omega arith in
    let split = ready_regrouped before (t.name ∷ (type_names ts ++ names)) _ (parts (tree_of t.shape) + (parts_of (type_shapes ts) + count)) (omega arith) ready in
    none_then _ _
    (none_then _ _ (no_fault _ _ _ ready.new.0) (whole_clean (tree_of t.shape) place before.types before.sizes before.parts obey.0.whole here))
    (types_clean Keeps ts _ (behind written_out before (declared_type_at t ps)) rest names count obey.1
    (ready_behind before (behind written_out before (declared_type_at t ps)) t.name _ (parts (tree_of t.shape)) _ split refl (whole_counted (tree_of t.shape) place before.sizes before.parts obey.0.whole))
    keeps then)

-- what is known where only errors and procedures are left
record ErrorsReady (before : Before ShapeTree) (es : List DeclaredError) (numbers : List ℕ) (errors : List ℕ → Option ℕ) : Type 0 where
  new : AreNew before.error_numbers (error_numbers es)
  distinct : AreDistinct (error_numbers es)
  procedures : AreNew before.procedure_numbers numbers
  leads : errors_after before.errors es ≡ errors

errors_clean : (es : List DeclaredError) (ps : List ℕ) (before : Before ShapeTree) (rest : List DeclaredTree) (names : List (List ℕ)) (count : ℕ) (numbers : List ℕ) (errors : List ℕ → Option ℕ)
    → AllByRecursion ErrorObeys es → Ready before (error_names es ++ names) (parts_of (error_shapes es) + count) → ErrorsReady before es numbers errors
    → ((after : Before ShapeTree) → Ready after names count → ErrorsReady after [] numbers errors → IsCleanBehind rest after)
    → IsCleanBehind (errors_at es ps ++ rest) before
errors_clean [] ps before rest names count numbers errors obey ready known then = then before (ready_regrouped before names _ _ (omega arith) ready) known
errors_clean (e ∷ es) ps before rest names count numbers errors obey ready known then =
    let place = behind_head ps in
    let own = parts_of (shapes_of e.arguments) in
    let more = sum_by-append parts (shapes_of e.arguments) (error_shapes es) in
    let room = ready.room in
    let here : before.parts + own ≤ 16384 = omega arith in
    let split = ready_regrouped before (e.name ∷ (error_names es ++ names)) _ (own + (parts_of (error_shapes es) + count)) (omega arith) ready in
    none_then _ _
    (none_then _ _
    (none_then _ _
    (none_then _ _ (no_fault _ _ _ ready.new.0) (fields_clean e.arguments place before.types before.sizes before.parts obey.0.arguments here))
    (no_fault _ _ _ known.new.0)) (not_above 59999 _ obey.0.in_range))
    (errors_clean es _ (behind written_out before (declared_error_at e ps)) rest names count numbers errors obey.1
    (ready_behind before (behind written_out before (declared_error_at e ps)) e.name _ own _ split refl (fields_counted e.arguments place before.sizes before.parts obey.0.arguments here))
    (record {
      new = numbers_new e.number _ before.error_numbers known.distinct.0 known.new.1;
      distinct = known.distinct.1;
      procedures = known.procedures;
      leads = known.leads;
    }) then)

names_known : (errors : List DeclaredError) (found : List ℕ → Option ℕ) (ns ps : List ℕ) → errors_after (λ _. None) errors ≡ found → AllByRecursion (IsReported errors) ns → unknown_errors found (names_at errors ns ps) ≡ []
names_known errors found [] ps same reported = refl
names_known errors found (n ∷ ns) ps same reported =
    none_then _ _ (no_fault _ _ _ (ap (λ (find : List ℕ → Option ℕ). is_none (find (error_name errors n))) (sym same) ∙ ap is_none reported.0.found))
    (names_known errors found ns _ same reported.1)

reports_clean : (errors : List DeclaredError) (found : List ℕ → Option ℕ) (ns ps : List ℕ) → errors_after (λ _. None) errors ≡ found → AllByRecursion (IsReported errors) ns → reports_faults found (reports_at errors ns ps) ≡ []
reports_clean errors found [] ps same reported = refl
reports_clean errors found (n ∷ ns) ps same reported = names_known errors found (n ∷ ns) (next (next ps)) same reported

procedures_clean : (errors : List DeclaredError) (pr : List Procedure) (ps : List ℕ) (before : Before ShapeTree)
    → AllByRecursion ErrorObeys errors → AreDistinct (error_names errors)
    → AllByRecursion (ProcedureObeys errors) pr → Ready before (procedure_names pr) (parts_of (procedure_shapes pr))
    → AreNew before.procedure_numbers (procedure_numbers pr) → AreDistinct (procedure_numbers pr) → errors_after (λ _. None) errors ≡ before.errors
    → IsCleanBehind (procedures_at errors pr ps) before
procedures_clean errors [] ps before are distinct obey ready new numbered found = refl
procedures_clean errors (p ∷ pr) ps before are distinct obey ready new numbered found =
    let arguments = parts_of (shapes_of p.arguments) in
    let results = parts_of (shapes_of p.results) in
    let both = sum_by-append parts (shapes_of p.arguments) (shapes_of p.results) in
    let more = sum_by-append parts (shapes_of p.arguments ++ shapes_of p.results) (procedure_shapes pr) in
    let room = ready.room in
    let here : before.parts + arguments ≤ 16384 = omega arith in
    let there : (before.parts + arguments) + results ≤ 16384 = omega arith in
    let counted = fields_counted p.arguments (behind_head ps) before.sizes before.parts obey.0.arguments here in
    let split = ready_regrouped before (p.name ∷ procedure_names pr) _ ((arguments + results) + parts_of (procedure_shapes pr)) (omega arith) ready in
    none_then _ _
    (none_then _ _
    (none_then _ _
    (none_then _ _
    (none_then _ _
    (none_then _ _
    (none_then _ _ (no_fault _ _ _ ready.new.0) (together_clean p.arguments (behind_head ps) before.types before.sizes (named_at p.name ps) obey.0.arguments obey.0.small))
    (fields_clean p.arguments (behind_head ps) before.types before.sizes before.parts obey.0.arguments here))
    (subst (λ n. fields_faults written_out (cut_of None) before.types before.sizes n (fields_at p.results (next (behind_arguments p ps))) ≡ []) (sym counted)
    (fields_clean p.results (next (behind_arguments p ps)) before.types before.sizes (before.parts + arguments) obey.0.results there)))
    (reports_clean errors before.errors p.reports (behind_results p ps) found (are_reported errors p.reports are distinct obey.0.reports)))
    (no_fault _ _ _ new.0)) (not_above 65535 _ obey.0.in_range))
    (procedures_clean errors pr _ (behind written_out before (declared_procedure_at errors p ps)) are distinct obey.1
    (ready_behind before (behind written_out before (declared_procedure_at errors p ps)) p.name _ (arguments + results) _ split refl
    (ap (λ n. fields_parts written_out before.sizes n (fields_at p.results (next (behind_arguments p ps)))) counted
    ∙ fields_counted p.results (next (behind_arguments p ps)) before.sizes (before.parts + arguments) obey.0.results there ∙ omega arith))
    (numbers_new p.number _ before.procedure_numbers numbered.0 new.1) numbered.1 found)

-- before the first declaration
ready_at_first : (i : Interface) → Obeys i
    → Ready (nothing written_out) (type_names i.types ++ (error_names i.errors ++ procedure_names i.procedures)) (parts_of (type_shapes i.types) + (parts_of (error_shapes i.errors) + parts_of (procedure_shapes i.procedures)))
ready_at_first i obeys = record {
  new = none_new _;
  distinct = subst AreDistinct (append_assoc (type_names i.types) (error_names i.errors) (procedure_names i.procedures)) obeys.names;
  room =
      let all = sum_by-append parts (type_shapes i.types ++ error_shapes i.errors) (procedure_shapes i.procedures) in
      let front = sum_by-append parts (type_shapes i.types) (error_shapes i.errors) in
      let room = obeys.parts in omega arith;
}

declared_clean : (i : Interface) (ps : List ℕ) → Obeys i → PartsObey i → IsCleanBehind (declared_at i ps) (nothing written_out)
declared_clean i ps obeys obey =
    let errors = errors_after (λ _. None) i.errors in
    let distinct = errors_distinct i obeys.names in
    types_clean (λ found numbers others. (errors_after found i.errors ≡ errors) × AreNew numbers (error_numbers i.errors) × AreNew others (procedure_numbers i.procedures))
    i.types ps (nothing written_out) _ _ _ obey.types (ready_at_first i obeys) (refl, none_new _, none_new _)
    (λ after ready keeps.
    errors_clean i.errors _ after _ _ _ (procedure_numbers i.procedures) errors obey.errors ready
    (record { new = keeps.1; distinct = obeys.error_numbers; procedures = keeps.2; leads = keeps.0 })
    (λ last prepared known.
    procedures_clean i.errors i.procedures _ last obey.errors distinct obey.procedures prepared known.procedures obeys.procedure_numbers (sym known.leads)))

-- the tree has no fault
pub interface_clean : (i : Interface) (ps : List ℕ) → Obeys i → PartsObey i → interface_faults (cut_of None) (interface_at i ps) ≡ []
interface_clean i ps obeys obey =
    none_then _ _ (none_then _ _ (not_above 4294967295 _ obeys.number) (not_above 65535 _ obeys.version)) (declared_clean i (at_declared ps) obeys obey)
