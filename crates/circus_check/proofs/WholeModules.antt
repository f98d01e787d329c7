-- Modules without a fault, as reading gives them, are well formed as a whole.
use Rattle.std.proofs.Common.{◌≡◌, ◌≢◌, ℕ, zero, suc, ◌+◌, ◌<◌, ◌≤◌, Bool, true, false, List, [], ◌∷◌, ◌++◌, length, map, refl, sym, ◌∙◌, ap, subst, arith, get_or, Option, Some, None, ◌⊎◌, inl, inr}
use Rattle.std.specs.Prelude.{slice_get, is_some, Contains}
use Rattle.std.specs.List.{AllByRecursion, sum_by, flat_map}
use Rattle.std.proofs.lemmas.List.{map-append}
use Rattle.std.proofs.lemmas.List.Sums.{sum_by-cons, sum_by-append}
use Rattle.std.proofs.lemmas.Option.{same_Some, slice_get-get_or, slice_get_within}
use Rattle.circus_value.specs.ShapeTree.{ShapeTree, FieldTree, field_trees}
use Rattle.circus_syntax.specs.declared.named.Named.{Named}
use Rattle.circus_syntax.specs.declared.named.TypeName.{TypeName}
use Rattle.circus_statement.specs.StatementTree.{StatementTree}
use Rattle.circus_fault.proofs.Items.{contains_first, contains_later, of_each}
use Rattle.circus_type.specs.Distinct.{AreDistinct}
use Rattle.circus_type.specs.Inside.{no_name, also_name}
use Rattle.circus_type.specs.Limits.{most_parts}
use Rattle.circus_type.specs.Scale.{written_out}
use Rattle.circus_type.specs.Together.{shapes_of, names_of, parts_of}
use Rattle.circus_type.specs.Written.{parts}
use Rattle.circus_body.specs.Context.{Offered}
use Rattle.circus_body.specs.Regular.{IsReported}
use Rattle.circus_body.specs.Regular as offered
use Rattle.circus_idl.specs.declared.interface.Procedure.{Procedure}
use Rattle.circus_idl.specs.declared.interface.Interface.{Interface}
use Rattle.circus_idl.specs.Obeys.{Obeys}
use Rattle.circus_lang.specs.ModuleTree.{ModuleTree, ProcedureOf}
use Rattle.circus_check.specs.Read.{IsRead}
use Rattle.circus_check.specs.Naming.{is_root}
use Rattle.circus_check.specs.Reach.{reaches, shared_at, imports_of}
use Rattle.circus_check.specs.Scope.{offered_by, main_offered, offered_here, implemented_by}
use Rattle.circus_check.specs.Faults.{interface_faults, variables_parts, also_fields, also_variables, parameters_of, arguments_of, lacking_of, first_missing, unknown_place, forms, fields_of, faults}
use Rattle.circus_check.specs.Faults as faults
use Rattle.circus_check.specs.Meaning.{ModuleMeant, BodyMeant, import_numbers, interface_number, in_order, in_interface_order, body_meant, module_meant, modules_meant}
use Rattle.circus_check.specs.WellFormed.{IsAt, Reaches, Raised, IsBody, AreBodies, IsMain, HasBodies, IsModule, AreWellFormed}
use Rattle.circus_check.specs.WellFormed as w
use Rattle.circus_check.proofs.Alone.{reaches_itself, reaches_through, same_root}
use Rattle.circus_check.proofs.Bodies.{meant_at, TreeAt, tree_at, shapes_are, raised, body_is}
use Rattle.circus_check.proofs.CleanModules.{CleanProcedure, CleanProcedures, CleanModule, all_clean}
use Rattle.circus_check.proofs.CleanVariables.{AreClean, are_clean, parts_counted, state_small}
use Rattle.circus_check.proofs.Declared.{contains_cases, offered_is}
use Rattle.circus_check.proofs.InOrder.{has_body, none_lacks, no_more}
use Rattle.circus_check.proofs.Interfaces.{ArgumentsObey, no_arguments, arguments_obey, procedures_distinct}
use Rattle.circus_check.proofs.Named.{at_place, distinct_by_place, names_differ, IsEarlier, imports_are_earlier}
use Rattle.circus_check.proofs.NamesApart.{state_apart}
use Rattle.circus_check.proofs.ReadModules.{ProcedureIsRead, HasShape, ModuleIsRead, is_read}
use Rattle.circus_check.proofs.Standings.{KnownInterface, known_interface, called_obeys, known_obeys}

all_map : {X : Type 0} (P Q : X → Type 0) (xs : List X) → ((x : X) → P x → Q x) → AllByRecursion P xs → AllByRecursion Q xs
all_map P Q [] each all = tt
all_map P Q (x ∷ xs) each all = (each x all.0, all_map P Q xs each all.1)

not_some : {X : Type 0} (o : Option X) → is_some o ≡ false → o ≡ None
not_some None is = refl
not_some (Some x) is = absurd (cc)

module _ (interfaces : List Interface) (modules : List ModuleTree) (obey : AllByRecursion Obeys interfaces) (read : AllByRecursion IsRead modules) (none : faults interfaces modules ≡ []) where
  abbrev meant : List ModuleMeant
  meant = modules_meant interfaces modules 0 modules

  clean : (n : ℕ) (m : ModuleTree) → slice_get modules n ≡ Some m → CleanModule interfaces modules n m
  clean n m is = (all_clean interfaces modules none).1 n m is

  known : (k : ℕ) (m : ModuleTree) → slice_get modules k ≡ Some m → interface_faults interfaces m.interface ≡ []
  known k m is = (clean k m is).implements

  -- ---- one module

  module _ (n : ℕ) (m : ModuleTree) (there : slice_get modules n ≡ Some m) where
    abbrev form : TypeName → ShapeTree
    form = forms interfaces modules n m

    abbrev state : List FieldTree
    state = fields_of form m.variables

    -- the parts of a procedure's locals
    abbrev weight : ProcedureOf StatementTree → ℕ
    weight q = parts_of (shapes_of (fields_of form q.body.variables))

    its : CleanModule interfaces modules n m
    its = clean n m there

    own : ModuleIsRead m
    own = is_read m (at_place IsRead modules n m read there)

    state_clean : AreClean (unknown_place interfaces modules n m) form 0 (parameters_of (faults.interface interfaces modules n m)) m.variables
    state_clean = are_clean (unknown_place interfaces modules n m) form (known_obeys interfaces obey modules n m) 0 (parameters_of (faults.interface interfaces modules n m)) m.variables own.variables its.state

    -- a procedure of the module, where it stands
    record Stands (q : ProcedureOf StatementTree) : Type 0 where
      before : ℕ
      earlier : List ℕ → Bool
      clean : CleanProcedure interfaces modules n m before earlier q
      is_read : ProcedureIsRead q
      state_few : parts_of (shapes_of state) ≤ before
      locals : AreClean (unknown_place interfaces modules n m) form before (also_fields (arguments_of (faults.offer_of interfaces modules n m q)) (also_variables m.variables no_name)) q.body.variables
      few : before + weight q ≤ most_parts

    one_stands : (before : ℕ) (earlier : List ℕ → Bool) (q : ProcedureOf StatementTree) → before ≤ most_parts → parts_of (shapes_of state) ≤ before → CleanProcedure interfaces modules n m before earlier q → ProcedureIsRead q → Stands q
    one_stands before earlier q few state_few one given =
        let locals = are_clean (unknown_place interfaces modules n m) form (known_obeys interfaces obey modules n m) before (also_fields (arguments_of (faults.offer_of interfaces modules n m q)) (also_variables m.variables no_name)) q.body.variables given.variables one.locals in
        record { before = before; earlier = earlier; clean = one; is_read = given; state_few = state_few; locals = locals; few = omega (arith, locals.few few, parts_counted form before q.body.variables) }

    more_parts : (before : ℕ) (q : ProcedureOf StatementTree) → before ≤ variables_parts written_out form before q.body.variables
    more_parts before q = omega (arith, parts_counted form before q.body.variables)

    stands : (before : ℕ) (earlier : List ℕ → Bool) (ps : List (ProcedureOf StatementTree)) → before ≤ most_parts → parts_of (shapes_of state) ≤ before → CleanProcedures interfaces modules n m before earlier ps → AllByRecursion ProcedureIsRead ps
        → (q : ProcedureOf StatementTree) → Contains ps q → Stands q
    unfolding one_stands
    stands before earlier [] few state_few each all q (k, below, is) = absurd (omega arith)
    stands before earlier (p ∷ ps) few state_few each all q among =
        let first = one_stands before earlier p few state_few each.0 all.0 in
        by first (λ later. stands (variables_parts written_out form before p.body.variables) (also_name p.name.name earlier) ps (first.locals.few few) (omega (arith, state_few, more_parts before p)) each.1 all.1 q later) (contains_cases p ps q among)
      where
        by : Stands p → (Contains ps q → Stands q) → (p ≡ q) ⊎ Contains ps q → Stands q
        by first later (inl same) = subst Stands same first
        by first later (inr among) = later among

    together_few : (before : ℕ) (earlier : List ℕ → Bool) (ps : List (ProcedureOf StatementTree)) → before ≤ most_parts → parts_of (shapes_of state) ≤ before → CleanProcedures interfaces modules n m before earlier ps → AllByRecursion ProcedureIsRead ps
        → before + sum_by weight ps ≤ most_parts
    unfolding one_stands
    together_few before earlier [] few state_few each all = omega (arith, few)
    together_few before earlier (p ∷ ps) few state_few each all =
        let first = one_stands before earlier p few state_few each.0 all.0 in
        omega (
          arith,
          sum_by-cons weight p ps,
          parts_counted form before p.body.variables,
          together_few (variables_parts written_out form before p.body.variables) (also_name p.name.name earlier) ps (first.locals.few few) (omega (arith, state_few, more_parts before p)) each.1 all.1,
        )

    abbrev first : ℕ
    first = variables_parts written_out form 0 m.variables

    first_few : first ≤ most_parts
    first_few = state_clean.few (omega arith)

    first_is : first ≡ parts_of (shapes_of state)
    first_is = omega (arith, parts_counted form 0 m.variables)

    standing : (q : ProcedureOf StatementTree) → Contains m.procedures q → Stands q
    standing q among = stands first no_name m.procedures first_few (omega (arith, first_is)) its.procedures own.procedures q among

    all_few : parts_of (shapes_of state) + sum_by weight m.procedures ≤ most_parts
    all_few = omega (arith, first_is, together_few first no_name m.procedures first_few (omega (arith, first_is)) its.procedures own.procedures)

    bodies_parts : (qs : List (ProcedureOf StatementTree)) → parts_of (shapes_of (flat_map (λ (b : BodyMeant). b.locals) (map (body_meant interfaces modules n m) qs))) ≡ sum_by weight qs
    bodies_parts [] = refl
    bodies_parts (q ∷ qs) =
        let locals = fields_of form q.body.variables in
        let rest = flat_map (λ (b : BodyMeant). b.locals) (map (body_meant interfaces modules n m) qs) in
        ap parts_of (map-append (λ (f : FieldTree). f.shape) locals rest) ∙ omega (arith, sum_by-append parts (shapes_of locals) (shapes_of rest), bodies_parts qs, sum_by-cons weight q qs)

    -- a body of a procedure whose offer is known
    its_body : (q : ProcedureOf StatementTree) (o : Offered) (arguments : List FieldTree) (Raises : ℕ → List ShapeTree → Type 0) → Stands q → faults.offer_of interfaces modules n m q ≡ Some o → o.arguments ≡ field_trees arguments → ArgumentsObey arguments
        → ((x y : List ℕ) → Contains (names_of state) x → Contains (names_of arguments) y → x ≢ y) → ((number : ℕ) (values : List ShapeTree) → IsReported o number values → Raises number values)
        → IsBody interfaces meant (module_meant interfaces modules n m) arguments (offered.shapes_of o.results) Raises (body_meant interfaces modules n m q)
    its_body q o arguments Raises s offered arguments_are obeyed apart raises =
        let named : arguments_of (faults.offer_of interfaces modules n m q) ≡ field_trees arguments = ap arguments_of offered ∙ arguments_are in
        let locals = subst (λ fs. AreClean (unknown_place interfaces modules n m) form s.before (also_fields fs (also_variables m.variables no_name)) q.body.variables) named s.locals in
        body_is interfaces modules obey known n m its.imports its.implements s.before s.earlier q o arguments Raises s.clean s.is_read.bytes (parameters_of (faults.interface interfaces modules n m)) state_clean locals offered arguments_are obeyed s.state_few s.few apart raises

    -- ---- a root

    has_main : m.interface ≡ None → (p : ProcedureOf StatementTree) → m.procedures ≡ p ∷ [] → IsMain interfaces meant (module_meant interfaces modules n m) (module_meant interfaces modules n m).bodies
    has_main no_interface p alone =
        let here : Contains m.procedures p = subst (λ ps. Contains ps p) (sym alone) (contains_first p []) in
        let offered : faults.offer_of interfaces modules n m p ≡ Some main_offered = ap (λ o. offered_here (implemented_by interfaces o) p.name.name) no_interface in
        let body = its_body p main_offered [] (λ _ _. ⊥) (standing p here) offered refl no_arguments (λ x y in_state (k, below, is). absurd (omega arith)) (λ number values reported. (let none : None ≡ Some reported.error = reported.found in absurd (cc))) in
        subst (IsMain interfaces meant (module_meant interfaces modules n m)) (sym bodies) body
      where
        bodies : (module_meant interfaces modules n m).bodies ≡ body_meant interfaces modules n m p ∷ []
        bodies = ap (λ o. map (body_meant interfaces modules n m) (in_interface_order (implemented_by interfaces o) m.procedures)) no_interface ∙ ap (map (body_meant interfaces modules n m)) alone

    -- ---- a module

    module _ (name : Named) (named : m.interface ≡ Some name) (k : KnownInterface interfaces name) where
      implemented : faults.interface interfaces modules n m ≡ Some k.interface
      implemented = ap (implemented_by interfaces) named ∙ k.called

      obeys : Obeys k.interface
      obeys = called_obeys interfaces obey name k.interface k.called

      fresh : AllByRecursion (λ x. parameters_of (Some k.interface) x ≡ false) (names_of state)
      fresh = subst (λ o. AllByRecursion (λ x. parameters_of o x ≡ false) (names_of state)) implemented state_clean.fresh

      procedure_body : (p : Procedure) (q : ProcedureOf StatementTree) → Contains k.interface.procedures p → Contains m.procedures q → q.name.name ≡ p.name
          → IsBody interfaces meant (module_meant interfaces modules n m) p.arguments (shapes_of p.results) (Raised interfaces meant k.interface p) (body_meant interfaces modules n m q)
      procedure_body p q among there same =
          let offered =
          ap (λ o. offered_here o q.name.name) implemented ∙ ap (λ x. offered_here (Some k.interface) x) same
          ∙ offered_is k.interface k.interface.procedures (λ _. None) p (procedures_distinct k.interface obeys) among in
          subst (λ results. IsBody interfaces meant (module_meant interfaces modules n m) p.arguments results (Raised interfaces meant k.interface p) (body_meant interfaces modules n m q)) (shapes_are p.results)
          (its_body q (offered_by k.interface p) p.arguments (Raised interfaces meant k.interface p) (standing q there) offered refl (arguments_obey k.interface obeys p among) (state_apart k.interface p state among fresh) (raised interfaces modules k.interface p))

      bodies_are : (ps : List Procedure) → ((p : Procedure) → Contains ps p → Contains k.interface.procedures p) → lacking_of ps m.procedures ≡ None
          → AreBodies interfaces meant (module_meant interfaces modules n m) k.interface ps (map (body_meant interfaces modules n m) (in_order ps m.procedures))
      bodies_are [] among complete = tt
      bodies_are (p ∷ ps) among complete =
          let (has, rest) = none_lacks p ps m.procedures complete in
          let b = has_body m.procedures p.name has in
          let others = bodies_are ps (λ q later. among q (contains_later p ps q later)) rest in
          subst (λ qs. AreBodies interfaces meant (module_meant interfaces modules n m) k.interface (p ∷ ps) (map (body_meant interfaces modules n m) (qs ++ in_order ps m.procedures))) (sym b.alone)
          (procedure_body p b.body (among p (contains_first p ps)) b.there b.named, others)

      bodies : (module_meant interfaces modules n m).bodies ≡ map (body_meant interfaces modules n m) (in_order k.interface.procedures m.procedures)
      bodies = ap (λ o. map (body_meant interfaces modules n m) (in_interface_order o m.procedures)) implemented

      nothing_lacks : lacking_of k.interface.procedures m.procedures ≡ None
      nothing_lacks = not_some (lacking_of k.interface.procedures m.procedures) (ap (λ o. is_some (first_missing o m.procedures)) (sym implemented) ∙ its.complete)

      has_bodies : AreBodies interfaces meant (module_meant interfaces modules n m) k.interface k.interface.procedures (module_meant interfaces modules n m).bodies
      has_bodies = subst (AreBodies interfaces meant (module_meant interfaces modules n m) k.interface k.interface.procedures) (sym bodies) (bodies_are k.interface.procedures (λ p among. among) nothing_lacks)

      in_order_few : sum_by weight (in_interface_order (faults.interface interfaces modules n m) m.procedures) ≤ sum_by weight m.procedures
      in_order_few = subst (λ o. sum_by weight (in_interface_order o m.procedures) ≤ sum_by weight m.procedures) (sym implemented) (no_more weight k.interface.procedures m.procedures (procedures_distinct k.interface obeys))

    -- ---- either

    by_shape : (b : Bool) → HasShape b m.interface m.procedures
        → HasBodies interfaces meant (module_meant interfaces modules n m) b (interface_number interfaces m.interface) × (sum_by weight (in_interface_order (faults.interface interfaces modules n m) m.procedures) ≤ sum_by weight m.procedures)
    by_shape true (no_interface, p, alone) = (
      subst (HasBodies interfaces meant (module_meant interfaces modules n m) true) (ap (interface_number interfaces) (sym no_interface)) (has_main no_interface p alone),
      subst (λ o. sum_by weight (in_interface_order (implemented_by interfaces o) m.procedures) ≤ sum_by weight m.procedures) (sym no_interface) (omega arith),
    )
    by_shape false (name, named) =
        let k = known_interface interfaces name (ap (interface_faults interfaces) (sym named) ∙ its.implements) in (
          subst (HasBodies interfaces meant (module_meant interfaces modules n m) false) (sym (ap (interface_number interfaces) named ∙ k.named)) (k.interface, k.there, has_bodies name named k),
          in_order_few name named k,
        )

    is_module : IsModule interfaces meant n (module_meant interfaces modules n m)
    is_module =
        let shape = by_shape m.root own.shape in
        record {
          imports = all_map (IsEarlier modules n) _ (import_numbers modules n m.imports) earlier (imports_are_earlier modules n m.imports its.imports);
          types = state_clean.whole;
          small = state_small (unknown_place interfaces modules n m) form (parameters_of (faults.interface interfaces modules n m)) m state_clean.plain its.small;
          parts = (
              let bodies = flat_map (λ (b : BodyMeant). b.locals) (module_meant interfaces modules n m).bodies in
              omega (arith, ap parts_of (map-append (λ (f : FieldTree). f.shape) state bodies), sum_by-append parts (shapes_of state) (shapes_of bodies), bodies_parts (in_interface_order (faults.interface interfaces modules n m) m.procedures), shape.1, all_few)
              );
          bodies = shape.0;
        }
      where
        earlier : (k : ℕ) → IsEarlier modules n k → (k < n) × (other : ModuleMeant) × IsAt meant k other × (other.root ≡ false)
        earlier k e = let same : 0 + k ≡ k = omega arith in (e.below, module_meant interfaces modules k e.other, meant_at interfaces modules 0 modules k e.other e.there ∙ ap (λ j. Some (module_meant interfaces modules j e.other)) same, e.no_root)

  -- ---- all of them

  same_length : (i : ℕ) (ms : List ModuleTree) → length (modules_meant interfaces modules i ms) ≡ length ms
  same_length i [] = refl
  same_length i (m ∷ ms) = omega (arith, same_length (suc i) ms)

  same_names : (i : ℕ) (ms : List ModuleTree) → map (λ (m : ModuleMeant). m.name) (modules_meant interfaces modules i ms) ≡ map (λ (m : ModuleTree). m.name.name) ms
  same_names i [] = refl
  same_names i (m ∷ ms) = ap (λ ns. m.name.name ∷ ns) (same_names (suc i) ms)

  mapped_at : (ms : List ModuleTree) (k : ℕ) (x : List ℕ) → slice_get (map (λ (m : ModuleTree). m.name.name) ms) k ≡ Some x → (m : ModuleTree) × (slice_get ms k ≡ Some m) × (m.name.name ≡ x)
  mapped_at [] k x is = absurd (cc)
  mapped_at (m ∷ ms) zero x is = (m, refl, same_Some m.name.name x is)
  mapped_at (m ∷ ms) (suc k) x is = mapped_at ms k x is

  names_distinct : AreDistinct (map (λ (m : ModuleTree). m.name.name) modules)
  names_distinct = distinct_by_place _ (λ i j x y less is js.
      let (m, there, m_is) = mapped_at modules i x is in
      let (o, also_there, o_is) = mapped_at modules j y js in
      λ same. names_differ modules (λ k p at. (clean k p at).first) i j m o less there also_there (m_is ∙ same ∙ sym o_is))

  none_shared : (k : ℕ) → k < length modules → shared_at modules k ≡ None
  none_shared k below = by modules below refl
    where
      not_shared : (m : ModuleTree) → slice_get modules k ≡ Some m → shared_at modules k ≡ None
      not_shared m is = not_some (shared_at modules k) (clean k m is).alone

      by : (ms : List ModuleTree) → k < length ms → ms ≡ modules → shared_at modules k ≡ None
      by [] within is = absurd (omega arith)
      by (m ∷ ms) within is = not_shared (get_or (m ∷ ms) k m) (ap (λ xs. slice_get xs k) (sym is) ∙ slice_get-get_or (m ∷ ms) k m within)

  reached : (n j : ℕ) → Reaches interfaces meant n j → reaches modules n j ≡ true
  reached _ _ (w.itself n) = reaches_itself modules n
  reached _ _ (w.through n k j m at among rest) =
      let t = tree_at interfaces modules 0 modules n m at in
      let e = imports_are_earlier modules n t.tree.imports (clean n t.tree t.there).imports in
      let number : 0 + n ≡ n = omega arith in
      let same : m.imports ≡ import_numbers modules n t.tree.imports = ap (λ (x : ModuleMeant). x.imports) t.is ∙ ap (λ i. import_numbers modules i t.tree.imports) number in
      let there = subst (λ ks. Contains ks k) same among in
      reaches_through modules n k j (subst (λ o. Contains (import_numbers modules n (imports_of o)) k) (sym t.there) there) (of_each (IsEarlier modules n) (import_numbers modules n t.tree.imports) k e there).below (reached k j rest)

  root_at : (r : ℕ) (m : ModuleMeant) → IsAt meant r m → m.root ≡ true → (r < length modules) × (is_root (slice_get modules r) ≡ true)
  root_at r m at root =
      let t = tree_at interfaces modules 0 modules r m at in
      (slice_get_within modules r t.tree t.there, ap is_root t.there ∙ ap (λ (x : ModuleMeant). x.root) (sym t.is) ∙ root)

  pub well_formed : AreWellFormed interfaces meant
  well_formed = record {
    few = omega (arith, same_length 0 modules, (all_clean interfaces modules none).0);
    names = subst AreDistinct (sym (same_names 0 modules)) names_distinct;
    each = λ n m at. each n m (tree_at interfaces modules 0 modules n m at);
    alone = λ j r s m o m_at o_at m_root o_root m_reaches o_reaches.
        let (r_below, r_root) = root_at r m m_at m_root in
        let (s_below, s_root) = root_at s o o_at o_root in
        same_root modules (length modules) r s j none_shared r_below s_below r_root s_root (reached r j m_reaches) (reached s j o_reaches);
  }
    where
      each : (n : ℕ) (m : ModuleMeant) → TreeAt interfaces modules 0 modules n m → IsModule interfaces meant n m
      each n m t = let e : 0 + n ≡ n = omega arith in subst (IsModule interfaces meant n) (sym (t.is ∙ ap (λ k. module_meant interfaces modules k t.tree) e)) (is_module n t.tree t.there)
