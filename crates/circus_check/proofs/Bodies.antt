-- The bodies of modules in which nothing is wrong are well formed.
use Rattle.std.proofs.Common.{◌≡◌, ◌≢◌, ℕ, zero, suc, ◌+◌, ◌≤◌, Bool, List, [], ◌∷◌, ◌++◌, refl, sym, ◌∙◌, ap, subst, arith, Option, Some, None, ◌⊎◌, inl, inr}
use Rattle.std.specs.Prelude.{slice_get, Contains}
use Rattle.std.specs.List.{AllByRecursion}
use Rattle.std.proofs.lemmas.Option.{same_Some}
use Rattle.circus_value.specs.ShapeTree.{ShapeTree, FieldTree, field_trees}
use Rattle.circus_syntax.specs.declared.named.Named.{Named}
use Rattle.circus_syntax.specs.declared.named.TypeName.{TypeName}
use Rattle.circus_statement.specs.StatementTree as s
use Rattle.circus_statement.specs.StatementTree.{StatementTree}
use Rattle.circus_checked.specs.StatementTree as c
use Rattle.circus_checked.specs.WellTyped.{AreTyped}
use Rattle.circus_type.specs.Inside.{no_name}
use Rattle.circus_type.specs.Limits.{most_parts}
use Rattle.circus_type.specs.Together.{shapes_of, names_of, parts_of}
use Rattle.circus_type.proofs.Items.{all_appended}
use Rattle.circus_resolve.specs.Scope.{Variable}
use Rattle.circus_resolve.specs.Regular.{IsRegular}
use Rattle.circus_body.specs.Context.{Offered, Reported, Context, a_module}
use Rattle.circus_body.specs.Faults.{all_faults}
use Rattle.circus_body.specs.Meaning.{all_do}
use Rattle.circus_body.specs.Regular.{IsWholeContext, IsReported, StatementsAreOfBytes}
use Rattle.circus_body.specs.Regular as offered
use Rattle.circus_body.proofs.WellTyped.{well_typed}
use Rattle.circus_idl.specs.declared.interface.DeclaredError.{DeclaredError}
use Rattle.circus_idl.specs.declared.interface.Procedure.{Procedure}
use Rattle.circus_idl.specs.declared.interface.Interface.{Interface}
use Rattle.circus_idl.specs.Obeys.{Obeys}
use Rattle.circus_lang.specs.ModuleTree.{ModuleTree, ProcedureOf}
use Rattle.circus_check.specs.Scope.{variables_of, offered_by, offered_in, called_in, called_of, error_of, context_of}
use Rattle.circus_check.specs.Faults.{interface_faults, imports_faults, arguments_of, own_of, unknown_place, forms, fields_of, also_variables, context}
use Rattle.circus_check.specs.Faults as faults
use Rattle.circus_check.specs.Meaning.{ModuleMeant, import_numbers, interface_number, body_meant, module_meant, modules_meant}
use Rattle.circus_check.specs.WellFormed.{Implements, Raised, Offers, IsBody}
use Rattle.circus_check.specs.WellFormed as checked
use Rattle.circus_check.proofs.CleanModules.{CleanProcedure}
use Rattle.circus_check.proofs.CleanVariables.{AreClean}
use Rattle.circus_check.proofs.Declared.{procedure_declared, error_declared}
use Rattle.circus_check.proofs.Endings.{all_end_meant}
use Rattle.circus_check.proofs.Interfaces.{Fits, ArgumentsObey, all_fit}
use Rattle.circus_check.proofs.Named.{at_place}
use Rattle.circus_check.proofs.NamesApart.{all_apart}
use Rattle.circus_check.proofs.PlacesFound.{shapes_together, together, place_found}
use Rattle.circus_check.proofs.RegularShapes.{is_regular}
use Rattle.circus_check.proofs.Standings.{KnownInterface, known_interface, named_fits, named_said, called_said, Callee, callee_is}
use Rattle.circus_check.proofs.TypedMore.{all_typed_more}

-- the shapes of fields, as a procedure offers them
pub shapes_are : (fs : List FieldTree) → offered.shapes_of (field_trees fs) ≡ shapes_of fs
shapes_are [] = refl
shapes_are (f ∷ fs) = ap (λ ss. f.shape ∷ ss) (shapes_are fs)

-- ---- modules by their numbers

module _ (interfaces : List Interface) (modules : List ModuleTree) where
  pub meant_at : (i : ℕ) (ms : List ModuleTree) (n : ℕ) (m : ModuleTree) → slice_get ms n ≡ Some m → slice_get (modules_meant interfaces modules i ms) n ≡ Some (module_meant interfaces modules (i + n) m)
  meant_at i [] n m is = absurd (cc)
  meant_at i (x ∷ ms) zero m is =
      let e : i ≡ i + 0 = omega arith in
      ap (λ (y : ModuleTree). Some (module_meant interfaces modules i y)) (same_Some x m is) ∙ ap (λ k. Some (module_meant interfaces modules k m)) e
  meant_at i (x ∷ ms) (suc n) m is =
      let e : suc i + n ≡ i + suc n = omega arith in
      meant_at (suc i) ms n m is ∙ ap (λ k. Some (module_meant interfaces modules k m)) e

  pub record TreeAt (i : ℕ) (ms : List ModuleTree) (n : ℕ) (mm : ModuleMeant) : Type 0 where
    pub tree : ModuleTree
    pub there : slice_get ms n ≡ Some tree
    pub is : mm ≡ module_meant interfaces modules (i + n) tree

  pub tree_at : (i : ℕ) (ms : List ModuleTree) (n : ℕ) (mm : ModuleMeant) → slice_get (modules_meant interfaces modules i ms) n ≡ Some mm → TreeAt i ms n mm
  tree_at i [] n mm is = absurd (cc)
  tree_at i (x ∷ ms) zero mm is =
      let e : i ≡ i + 0 = omega arith in
      record { tree = x; there = refl; is = sym (same_Some (module_meant interfaces modules i x) mm is) ∙ ap (λ k. module_meant interfaces modules k x) e }
  tree_at i (x ∷ ms) (suc n) mm is =
      let t = tree_at (suc i) ms n mm is in
      let e : suc i + n ≡ i + suc n = omega arith in
      record { tree = t.tree; there = t.there; is = t.is ∙ ap (λ k. module_meant interfaces modules k t.tree) e }

  abbrev pub all_meant : List ModuleMeant
  all_meant = modules_meant interfaces modules 0 modules

  pub implements : (k : ℕ) (m : ModuleTree) (name : Named) → slice_get modules k ≡ Some m → m.interface ≡ Some name → (known : KnownInterface interfaces name) → Implements interfaces all_meant k known.interface
  implements k m name there named known = record {
    «module» = module_meant interfaces modules k m;
    number = known.number;
    there = (let e : 0 + k ≡ k = omega arith in meant_at 0 modules k m there ∙ ap (λ j. Some (module_meant interfaces modules j m)) e);
    named = ap (interface_number interfaces) named ∙ known.named;
    found = known.there;
  }

  -- ---- what a body may call, and what it raises

  pub raised : (i : Interface) (p : Procedure) (number : ℕ) (values : List ShapeTree) → IsReported (offered_by i p) number values → Raised interfaces all_meant i p number values
  raised i p number values reported = by (error_declared p.reports i.errors (λ _. None) reported.name reported.error reported.found)
    where
      by : (None ≡ Some reported.error) ⊎ ((e : DeclaredError) × Contains i.errors e × Contains p.reports e.number × (error_of e ≡ reported.error)) → Raised interfaces all_meant i p number values
      by (inl none) = absurd (cc)
      by (inr (e, there, reports, same)) =
          let is : e.number ≡ number = ap (λ (r : Reported). r.number) same ∙ reported.numbered in
          record {
            error = e;
            declared = there;
            numbered = is;
            reported = subst (Contains p.reports) is reports;
            shapes = sym (shapes_are e.arguments) ∙ ap (λ (r : Reported). offered.shapes_of r.values) same ∙ reported.shapes;
          }

  module _ (obey : AllByRecursion Obeys interfaces) (known : (k : ℕ) (m : ModuleTree) → slice_get modules k ≡ Some m → interface_faults interfaces m.interface ≡ []) (n : ℕ) (m : ModuleTree) (clean : imports_faults modules n m.imports ≡ []) (own_known : interface_faults interfaces m.interface ≡ []) where
    record Asked (callee procedure : ℕ) (o : Offered) : Type 0 where
      interface : Interface
      asked : Procedure
      among : Contains (import_numbers modules n m.imports) callee
      offers : Offers interfaces all_meant callee procedure interface asked
      is : offered_by interface asked ≡ o

    asked_is : (variables : List ℕ → Option Variable) (own : Offered) (callee procedure : ℕ) (o : Offered) → offered.IsOffered (context_of interfaces modules n m variables own) callee procedure o → Asked callee procedure o
    asked_is variables own callee procedure o is = by (callee_is interfaces modules known n m clean is.named callee is.procedures is.called)
      where
        declared : (other : ModuleTree) → slice_get modules callee ≡ Some other → Contains (import_numbers modules n m.imports) callee → (name : Named) → other.interface ≡ Some name → (k : KnownInterface interfaces name)
            → (None ≡ Some o) ⊎ ((p : Procedure) × Contains k.interface.procedures p × (offered_by k.interface p ≡ o)) → Asked callee procedure o
        declared other at among name implemented k (inl none) = absurd (cc)
        declared other at among name implemented k (inr (p, there, same)) = record {
          interface = k.interface;
          asked = p;
          among = among;
          offers = record { implemented = implements callee other name at implemented k; declared = there; numbered = ap (λ (x : Offered). x.number) same ∙ is.numbered };
          is = same;
        }

        there : (other : ModuleTree) → slice_get modules callee ≡ Some other → Contains (import_numbers modules n m.imports) callee → (x : Option Named) → other.interface ≡ x → called_of interfaces callee x ≡ a_module callee is.procedures → Asked callee procedure o
        there other at among None implemented offers =
            let nothing : List ℕ → Option Offered = λ _. None in
            let called : a_module callee nothing ≡ a_module callee is.procedures = offers in
            let same : nothing ≡ is.procedures = cc in
            let none : nothing is.name ≡ Some o = ap (λ (f : List ℕ → Option Offered). f is.name) same ∙ is.found in
            absurd (cc)
        there other at among (Some name) implemented offers =
            let k = known_interface interfaces name (ap (interface_faults interfaces) (sym implemented) ∙ known callee other at) in
            let called : a_module callee (offered_in k.interface) ≡ a_module callee is.procedures = ap (called_in callee) (sym k.called) ∙ offers in
            let same : offered_in k.interface ≡ is.procedures = cc in
            declared other at among name implemented k (procedure_declared k.interface k.interface.procedures (λ _. None) is.name o (ap (λ (f : List ℕ → Option Offered). f is.name) same ∙ is.found))

        by : Callee interfaces modules known n m callee is.procedures → Asked callee procedure o
        by callee_of = there callee_of.other callee_of.there callee_of.among callee_of.other.interface refl callee_of.offers

    takes : (variables : List ℕ → Option Variable) (own : Offered) (callee procedure : ℕ) (arguments gives : List ShapeTree) → offered.ContextTakes (context_of interfaces modules n m variables own) callee procedure arguments gives
        → checked.ImportTakes interfaces all_meant (import_numbers modules n m.imports) callee procedure arguments gives
    takes variables own callee procedure arguments gives (o, is, takes_is, gives_is) =
        let a = asked_is variables own callee procedure o is in
        (a.among, a.interface, a.asked, a.offers, sym (shapes_are a.asked.arguments) ∙ ap (λ (x : Offered). offered.shapes_of x.arguments) a.is ∙ takes_is, sym (shapes_are a.asked.results) ∙ ap (λ (x : Offered). offered.shapes_of x.results) a.is ∙ gives_is)

    reports : (variables : List ℕ → Option Variable) (own : Offered) (callee procedure number : ℕ) (values : List ShapeTree) → offered.ContextReports (context_of interfaces modules n m variables own) callee procedure number values
        → checked.ImportReports interfaces all_meant (import_numbers modules n m.imports) callee procedure number values
    reports variables own callee procedure number values (o, is, reported) =
        let a = asked_is variables own callee procedure o is in
        (a.among, a.interface, a.asked, a.offers, raised a.interface a.asked number values (subst (λ (x : Offered). IsReported x number values) (sym a.is) reported))

    -- ---- the whole of what it may name

    whole_context : (state arguments locals : List FieldTree) (own : Offered) → AllByRecursion Fits (shapes_together state arguments locals)
        → IsWholeContext (shapes_together state arguments locals) (context_of interfaces modules n m (variables_of (field_trees state) (field_trees arguments) (field_trees locals)) own)
    whole_context state arguments locals own fit = record {
      scope = record {
        found = λ name v is. place_found state arguments locals name v is;
        regular = λ name v is. regular v (at_place Fits (shapes_together state arguments locals) v.place v.shape fit (place_found state arguments locals name v is));
        said = λ q type. named_said interfaces modules known n m own_known clean q type;
        types = λ q type shape is. (let fits = named_fits interfaces obey modules n m q type shape is in is_regular shape fits.inside (omega (arith, fits.few)));
      };
      said = λ name. called_said interfaces modules known n m clean name;
    }
      where
        regular : (v : Variable) → Fits v.shape → IsRegular v.shape
        regular v fits = is_regular v.shape fits.inside (omega (arith, fits.few))

    -- a body, of what its procedure offers
    pub body_is : (before : ℕ) (earlier : List ℕ → Bool) (q : ProcedureOf StatementTree) (o : Offered) (arguments : List FieldTree) (Raises : ℕ → List ShapeTree → Type 0)
        → CleanProcedure interfaces modules n m before earlier q → StatementsAreOfBytes (s.statement_trees q.body.statements)
        → (earlier_names : List ℕ → Bool) → AreClean (unknown_place interfaces modules n m) (forms interfaces modules n m) 0 earlier_names m.variables
        → AreClean (unknown_place interfaces modules n m) (forms interfaces modules n m) before (faults.also_fields (field_trees arguments) (also_variables m.variables no_name)) q.body.variables
        → faults.offer_of interfaces modules n m q ≡ Some o → o.arguments ≡ field_trees arguments → ArgumentsObey arguments
        → parts_of (shapes_of (fields_of (forms interfaces modules n m) m.variables)) ≤ before → before + parts_of (shapes_of (fields_of (forms interfaces modules n m) q.body.variables)) ≤ most_parts
        → ((x y : List ℕ) → Contains (names_of (fields_of (forms interfaces modules n m) m.variables)) x → Contains (names_of arguments) y → x ≢ y)
        → ((number : ℕ) (values : List ShapeTree) → IsReported o number values → Raises number values)
        → IsBody interfaces all_meant (module_meant interfaces modules n m) arguments (offered.shapes_of o.results) Raises (body_meant interfaces modules n m q)
    body_is before earlier q o arguments Raises own bytes earlier_names state_clean locals_clean offered_is arguments_are obeyed state_few few apart raises = record {
      names = all_apart forms_here m.variables arguments locals state_clean.distinct obeyed.names locals_clean.distinct apart locals_clean.fresh;
      locals = locals_clean.whole;
      ends = all_end_meant (context interfaces modules n m q) (s.statement_trees q.body.statements) ∙ own.ends;
      typed = typed;
    }
      where
        forms_here : TypeName → ShapeTree
        forms_here = forms interfaces modules n m

        state : List FieldTree
        state = fields_of forms_here m.variables

        locals : List FieldTree
        locals = fields_of forms_here q.body.variables

        statements : s.StatementTrees
        statements = s.statement_trees q.body.statements

        variables : List ℕ → Option Variable
        variables = variables_of (field_trees state) (field_trees arguments) (field_trees locals)

        here : Context
        here = context_of interfaces modules n m variables o

        context_is : context interfaces modules n m q ≡ here
        context_is = λ i. context_of interfaces modules n m (variables_of (field_trees state) ((ap arguments_of offered_is ∙ arguments_are) i) (field_trees locals)) (own_of (offered_is i))

        fit : AllByRecursion Fits (shapes_together state arguments locals)
        fit =
            all_appended Fits (shapes_of state ++ shapes_of arguments) (shapes_of locals)
            (all_appended Fits (shapes_of state) (shapes_of arguments) (all_fit (shapes_of state) state_clean.whole (omega (arith, state_few, few))) obeyed.fit)
            (all_fit (shapes_of locals) locals_clean.whole (omega (arith, few)))

        whole : IsWholeContext (shapes_together state arguments locals) here
        whole = whole_context state arguments locals o fit

        none : all_faults here statements ≡ []
        none = ap (λ k. all_faults k statements) (sym context_is) ∙ own.body

        in_context : AreTyped (shapes_together state arguments locals) (offered.ContextTakes here) (offered.ContextReports here) (offered.shapes_of o.results) (IsReported o) (c.statement_trees (all_do here statements))
        in_context = well_typed (shapes_together state arguments locals) here whole statements bytes none

        typed : AreTyped (shapes_of (state ++ arguments ++ locals)) (checked.ImportTakes interfaces all_meant (import_numbers modules n m.imports)) (checked.ImportReports interfaces all_meant (import_numbers modules n m.imports)) (offered.shapes_of o.results) Raises (c.statement_trees (all_do (context interfaces modules n m q) statements))
        typed =
            subst (λ ss. AreTyped ss (checked.ImportTakes interfaces all_meant (import_numbers modules n m.imports)) (checked.ImportReports interfaces all_meant (import_numbers modules n m.imports)) (offered.shapes_of o.results) Raises (c.statement_trees (all_do (context interfaces modules n m q) statements))) (sym (together state arguments locals))
            (subst (λ k. AreTyped (shapes_together state arguments locals) (checked.ImportTakes interfaces all_meant (import_numbers modules n m.imports)) (checked.ImportReports interfaces all_meant (import_numbers modules n m.imports)) (offered.shapes_of o.results) Raises (c.statement_trees (all_do k statements))) (sym context_is)
            (all_typed_more (shapes_together state arguments locals) (offered.ContextTakes here) (checked.ImportTakes interfaces all_meant (import_numbers modules n m.imports)) (offered.ContextReports here) (checked.ImportReports interfaces all_meant (import_numbers modules n m.imports)) (offered.shapes_of o.results) (IsReported o) Raises
            (takes variables o) (reports variables o) raises (c.statement_trees (all_do here statements)) in_context))
