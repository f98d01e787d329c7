-- Statements without a fault mean such as are well formed.
use Rattle.std.proofs.Common.{◌≡◌, ℕ, suc, ◌+◌, ◌==◌, List, [], ◌∷◌, ◌++◌, length, map, Option, Some, None, refl, sym, ap, subst, ◌∙◌, arith}
use Rattle.std.specs.Prelude.{is_none, option_map}
use Rattle.std.specs.List.{AllByRecursion}
use Rattle.std.proofs.lemmas.Bool.Decides.{Decides-eqb}
use Rattle.circus_value.specs.ShapeTree.{ShapeTree, FieldTrees, no_fields, more_fields}
use Rattle.circus_value.specs.ShapeTree as shape
use Rattle.circus_syntax.specs.declared.named.Named.{Named}
use Rattle.circus_expression.specs.ExpressionTree.{ExpressionTree, PlaceTree, expression_trees}
use Rattle.circus_statement.specs.StatementTree.{StatementTree, StatementTrees, HandlerTrees, CallOf, IntoOf}
use Rattle.circus_statement.specs.StatementTree as s
use Rattle.circus_checked.specs.ExpressionTree as ce
use Rattle.circus_checked.specs.StatementTree as c
use Rattle.circus_checked.specs.Sorts.{a_truth, sort_of, Has, FieldsHave, Holds}
use Rattle.circus_checked.specs.Sorts as h
use Rattle.circus_checked.specs.WellTyped.{EachGives, EachTakes, Take, IsTyped, AreTyped, AreHandlers}
use Rattle.circus_checked.specs.WellTyped as w
use Rattle.circus_fault.proofs.Items.{none_in}
use Rattle.circus_resolve.specs.declared.cause.CheckCause.TheVariants.{Unknown}
use Rattle.circus_resolve.specs.Passing.{is_truth, goes_into}
use Rattle.circus_resolve.specs.Faults.{for_fields, field_at, field_count, each_faults, expression_faults, place_faults, place_shape, sort, place_of, wanted_faults, wanted_for, wanted_alike}
use Rattle.circus_resolve.specs.Meaning.{meant, place_meant, each_meant}
use Rattle.circus_resolve.specs.Regular.{IsOfBytes, AreOfBytes}
use Rattle.circus_resolve.proofs.Passed.{no_fault, passed, same_sort, some_found}
use Rattle.circus_resolve.proofs.Resolving.{count_is}
use Rattle.circus_resolve.proofs.WellSorted.{truth_has, behind, at_place, well_sorted, well_counted, place_well}
use Rattle.circus_body.specs.Context.{Reported, Offered, Called, not_imported, unsaid, a_module, Context}
use Rattle.circus_body.specs.Faults as f
use Rattle.circus_body.specs.Meaning.{bound_of, item_kind, module_number, procedure_number, error_number, places_meant, into_meant, handled_meant, does, all_do, all_handle}
use Rattle.circus_body.specs.Regular.{IsWholeContext, PlaceIsOfBytes, PlacesAreOfBytes, HandledIsRead, IntoIsOfBytes, StatementIsOfBytes, StatementsAreOfBytes, HandlersAreOfBytes, shapes_of, IsOffered, IsReported, ContextTakes, ContextReports}

-- as many as are wanted
counted : (fs : FieldTrees) (n at : ℕ) → f.number_faults (for_fields fs) n at ≡ [] → n ≡ field_count fs
counted fs n at none = (Decides-eqb n (field_count fs)).0 (passed (n == field_count fs) at none)

module _ (variables : List ShapeTree) where
  -- the values of fields are those of their shapes
  each_gives : (xs : List ce.ExpressionTree) (fs : FieldTrees) → FieldsHave variables (ce.expression_trees xs) fs → EachGives variables xs (shapes_of fs)
  each_gives [] no_fields h.no_values = w.no_values
  each_gives [] (more_fields name t fs) has = elim has [ ]
  each_gives (x ∷ xs) no_fields has = elim has [ ]
  each_gives (x ∷ xs) (more_fields name t fs) (h.more_values a es n u gs has rest) = w.more_values x xs t (shapes_of fs) has (each_gives xs fs rest)

  -- a sequence is appended to
  sequence_is : (u : ShapeTree) (at : ℕ) → f.sequence_faults (Some u) at ≡ [] → (n : ℕ) × (t : ShapeTree) × (u ≡ shape.sequence n t)
  sequence_is (shape.sequence n t) at none = (n, t, refl)
  sequence_is _ at none = absurd (cc)

  module _ (context : Context) (whole : IsWholeContext variables context) where
    abbrev results : List ShapeTree
    results = shapes_of context.own.results

    abbrev Typed : StatementTree → Type 0
    Typed t = IsTyped variables (ContextTakes context) (ContextReports context) results (IsReported context.own) (does context t)

    abbrev AllTyped : StatementTrees → Type 0
    AllTyped ss = AreTyped variables (ContextTakes context) (ContextReports context) results (IsReported context.own) (c.statement_trees (all_do context ss))

    abbrev HandlersTyped : Offered → ℕ → ℕ → HandlerTrees → Type 0
    HandlersTyped o callee procedure hs = AreHandlers variables (ContextTakes context) (ContextReports context) results (IsReported context.own) callee procedure (c.handler_trees (all_handle context (Some o) hs))

    -- ---- a condition, a list, and places

    condition : (a : ExpressionTree) → IsOfBytes a → f.faults_of_condition context a ≡ [] → Has variables (meant context.scope a) a_truth
    condition a bytes none =
        let (inside, own) = none_in (expression_faults context.scope a) (wanted_faults is_truth (sort context.scope a) (place_of a)) none in
        let (t, is, has) = well_sorted variables context.scope whole.scope a bytes inside in
        truth_has variables (meant context.scope a) t (place_of a) (ap (λ o. wanted_faults is_truth o (place_of a)) (sym is) ∙ own) has

    stored_in : (u : ShapeTree) (a : ExpressionTree) → IsOfBytes a → expression_faults context.scope a ≡ [] → wanted_for (Some u) (sort context.scope a) (place_of a) ≡ [] → Has variables (meant context.scope a) (sort_of u)
    stored_in u a bytes inside own =
        let (t, is, has) = well_sorted variables context.scope whole.scope a bytes inside in
        subst (Has variables (meant context.scope a)) (sym (same_sort (sort_of u) t (passed (goes_into u t) (place_of a) (ap (λ o. wanted_faults (goes_into u) o (place_of a)) (sym is) ∙ own)))) has

    list_gives : (fs : FieldTrees) (at : ℕ) (es : List ExpressionTree) → AreOfBytes (expression_trees es) → f.list_faults context (for_fields fs) at es ≡ []
        → EachGives variables (each_meant context.scope (for_fields fs) 0 (expression_trees es)) (shapes_of fs)
    list_gives fs at es bytes none =
        let (number, each) = none_in (f.number_faults (for_fields fs) (length es) at) (each_faults context.scope (for_fields fs) 0 (expression_trees es)) none in
        each_gives (each_meant context.scope (for_fields fs) 0 (expression_trees es)) fs
        (well_counted variables context.scope whole.scope fs (expression_trees es) bytes each (sym (count_is es) ∙ counted fs (length es) at number))

    places_take : (all : FieldTrees) (n : ℕ) (fs : FieldTrees) → behind variables n all ≡ fs → (ps : List PlaceTree) → AllByRecursion PlaceIsOfBytes ps → f.places_faults context (for_fields all) n ps ≡ [] → length ps ≡ field_count fs
        → EachTakes variables (map (place_meant context.scope) ps) (shapes_of fs)
    places_take all n no_fields is [] bytes none same = w.no_places
    places_take all n (more_fields name t fs) is [] bytes none same = absurd (omega (arith, same))
    places_take all n no_fields is (p ∷ ps) bytes none same = absurd (omega (arith, same))
    places_take all n (more_fields name t fs) is (p ∷ ps) bytes none same =
        let (here, next) = at_place variables all n name t fs is in
        let one : n + 1 ≡ suc n = omega arith in
        let alikes = λ (o q : Option ShapeTree). wanted_alike (option_map sort_of o) (option_map sort_of q) p.name.at in
        let (front, rest) = none_in (place_faults context.scope p ++ alikes (field_at all n) (place_shape context.scope p)) (f.places_faults context (for_fields all) (n + 1) ps) none in
        let (inside, own) = none_in (place_faults context.scope p) (alikes (field_at all n) (place_shape context.scope p)) front in
        let (u, u_is, holds) = place_well variables context.scope whole.scope p bytes.0 inside in
        let like = same_sort (sort_of t) (sort_of u) (passed _ p.name.at ((λ i. alikes (sym here i) (sym u_is i)) ∙ own)) in
        w.more_places (place_meant context.scope p) (map (place_meant context.scope) ps) u t (shapes_of fs) holds (sym like)
        (places_take all (n + 1) fs (ap (λ k. behind variables k all) one ∙ next) ps bytes.1 rest (omega (arith, same)))

    into_takes : (fs : FieldTrees) (at : ℕ) (o : Option (List PlaceTree)) → PlacesAreOfBytes o → f.into_faults context (for_fields fs) at o ≡ [] → Take variables (places_meant context o) (shapes_of fs)
    into_takes fs at None bytes none = w.dropped (shapes_of fs)
    into_takes fs at (Some ps) bytes none =
        let (number, each) = none_in (f.number_faults (for_fields fs) (length ps) at) (f.places_faults context (for_fields fs) 0 ps) none in
        w.taken (map (place_meant context.scope) ps) (shapes_of fs) (places_take fs 0 fs refl ps bytes each (counted fs (length ps) at number))

    results_take : (fs : FieldTrees) (o : Option (IntoOf PlaceTree)) → IntoIsOfBytes o → f.results_faults context (for_fields fs) o ≡ [] → Take variables (into_meant context o) (shapes_of fs)
    results_take fs None bytes none = w.dropped (shapes_of fs)
    results_take fs (Some i) bytes none = into_takes fs i.at (Some i.places) bytes none

    -- ---- calls and errors

    offered : (k : Called) (q : CallOf ExpressionTree PlaceTree) → context.called q.«module».name ≡ k → f.called_faults k q.«module» q.procedure ≡ []
        → (o : Offered) × (f.offered_by k q.procedure.name ≡ Some o) × IsOffered context (module_number k) o.number o
    offered not_imported q is none = absurd (cc)
    offered unsaid q is none = absurd (whole.said q.«module».name is)
    offered (a_module n procedures) q is none =
        let (o, found) = some_found (procedures q.procedure.name) (no_fault (is_none (procedures q.procedure.name)) q.procedure.at Unknown none) in
        (o, found, record { named = q.«module».name; name = q.procedure.name; procedures = procedures; called = is; found = found; numbered = refl })

    reported : (o : Offered) (name : Named) → f.error_faults (Some o) name ≡ [] → (x : Reported) × (f.reported_by (Some o) name ≡ Some x) × IsReported o x.number (shapes_of x.values)
    reported o name none =
        let (x, found) = some_found (o.reported name.name) (no_fault (is_none (o.reported name.name)) name.at Unknown none) in
        (x, found, record { name = name.name; error = x; found = found; numbered = refl; shapes = refl })

    one_handler : (callee : ℕ) (o : Offered) → IsOffered context callee o.number o → (at : ℕ) (error : Option Named) (places : Option (List PlaceTree)) (ss : c.StatementTrees) (hs : c.HandlerTrees)
        → HandledIsRead error places → f.handled_faults context (Some o) at error places ≡ []
        → AreTyped variables (ContextTakes context) (ContextReports context) results (IsReported context.own) ss
        → AreHandlers variables (ContextTakes context) (ContextReports context) results (IsReported context.own) callee o.number hs
        → AreHandlers variables (ContextTakes context) (ContextReports context) results (IsReported context.own) callee o.number (c.more_handlers (handled_meant (Some o) error) (places_meant context places) ss hs)
    one_handler callee o is_offered at None places ss hs read none typed others =
        subst (λ (ps : Option (List PlaceTree)). AreHandlers variables (ContextTakes context) (ContextReports context) results (IsReported context.own) callee o.number (c.more_handlers None (places_meant context ps) ss hs)) (sym read)
        (w.other callee o.number ss hs typed others)
    one_handler callee o is_offered at (Some name) places ss hs read none typed others =
        let values = λ (x : Option Reported). f.into_faults context (f.values_of x) at places in
        let (error, into) = none_in (f.error_faults (Some o) name) (values (f.reported_by (Some o) name)) none in
        let (x, x_is, is_reported) = reported o name error in
        subst (λ y. AreHandlers variables (ContextTakes context) (ContextReports context) results (IsReported context.own) callee o.number (c.more_handlers (Some (error_number y)) (places_meant context places) ss hs)) (sym x_is)
        (w.named callee o.number x.number (places_meant context places) ss hs (shapes_of x.values) (o, is_offered, is_reported) (into_takes x.values at places read (ap values (sym x_is) ∙ into)) typed others)

    -- ---- statements

    mutual
      typed : (t : StatementTree) → StatementIsOfBytes t → f.faults context t ≡ [] → Typed t
      typed (s.assign at p a) bytes none =
          let (front, own) = none_in (place_faults context.scope p ++ expression_faults context.scope a) (wanted_for (place_shape context.scope p) (sort context.scope a) (place_of a)) none in
          let (place, inside) = none_in (place_faults context.scope p) (expression_faults context.scope a) front in
          let (u, u_is, holds) = place_well variables context.scope whole.scope p bytes.0 place in
          w.assign (place_meant context.scope p) (meant context.scope a) u holds (stored_in u a bytes.1 inside (ap (λ o. wanted_for o (sort context.scope a) (place_of a)) (sym u_is) ∙ own))
      typed (s.only_then at a ss) bytes none =
          let (test, then) = none_in (f.faults_of_condition context a) (f.all_faults context ss) none in
          w.branch (meant context.scope a) (c.statement_trees (all_do context ss)) c.no_statements (condition a bytes.0 test) (all_typed ss bytes.1 then) w.none
      typed (s.then_else at a ss others) bytes none =
          let (front, else) = none_in (f.faults_of_condition context a ++ f.all_faults context ss) (f.all_faults context others) none in
          let (test, then) = none_in (f.faults_of_condition context a) (f.all_faults context ss) front in
          w.branch (meant context.scope a) (c.statement_trees (all_do context ss)) (c.statement_trees (all_do context others)) (condition a bytes.0 test) (all_typed ss bytes.1.0 then) (all_typed others bytes.1.1 else)
      typed (s.while at a ss) bytes none =
          let (test, body) = none_in (f.faults_of_condition context a) (f.all_faults context ss) none in
          w.repeat (meant context.scope a) (c.statement_trees (all_do context ss)) (condition a bytes.0 test) (all_typed ss bytes.1 body)
      typed (s.append at a p) bytes none =
          let value = wanted_for (f.item_shape (place_shape context.scope p)) (sort context.scope a) (place_of a) in
          let (front, own) = none_in (expression_faults context.scope a ++ place_faults context.scope p ++ f.sequence_faults (place_shape context.scope p) p.name.at) value none in
          let (more, sequence) = none_in (expression_faults context.scope a ++ place_faults context.scope p) (f.sequence_faults (place_shape context.scope p) p.name.at) front in
          let (inside, place) = none_in (expression_faults context.scope a) (place_faults context.scope p) more in
          let (u, u_is, holds) = place_well variables context.scope whole.scope p bytes.1 place in
          let (n, t, is) = sequence_is u p.name.at (ap (λ o. f.sequence_faults o p.name.at) (sym u_is) ∙ sequence) in
          let shape_is : place_shape context.scope p ≡ Some (shape.sequence n t) = u_is ∙ ap Some is in
          subst (λ o. IsTyped variables (ContextTakes context) (ContextReports context) results (IsReported context.own) (c.append (meant context.scope a) (place_meant context.scope p) (bound_of o) (item_kind (f.item_shape o)))) (sym shape_is)
          (w.append (meant context.scope a) (place_meant context.scope p) n t (subst (Holds variables (place_meant context.scope p)) is holds)
          (stored_in t a bytes.0 inside (ap (λ o. wanted_for (f.item_shape o) (sort context.scope a) (place_of a)) (sym shape_is) ∙ own)))
      typed (s.call at q hs) bytes none =
          let callee = f.called_faults (context.called q.«module».name) q.«module» q.procedure in
          let arguments = λ (o : Option Offered). f.list_faults context (f.arguments_of o) q.procedure.at q.arguments in
          let gives = λ (o : Option Offered). f.results_faults context (f.results_of o) q.into in
          let asks = f.faults_of_call context q in
          let (ask, handlers) = none_in (callee ++ arguments asks ++ gives asks) (f.handlers_faults context asks hs) none in
          let (front, into) = none_in (callee ++ arguments asks) (gives asks) ask in
          let (called, list) = none_in callee (arguments asks) front in
          let (o, o_is, is_offered) = offered (context.called q.«module».name) q refl called in
          subst (λ x. IsTyped variables (ContextTakes context) (ContextReports context) results (IsReported context.own)
          (c.call (module_number (context.called q.«module».name)) (procedure_number x) (each_meant context.scope (f.arguments_of x) 0 (expression_trees q.arguments)) (into_meant context q.into) (c.handler_trees (all_handle context x hs)))) (sym o_is)
          (w.call (module_number (context.called q.«module».name)) o.number (each_meant context.scope (for_fields o.arguments) 0 (expression_trees q.arguments)) (into_meant context q.into) (c.handler_trees (all_handle context (Some o) hs))
          (shapes_of o.arguments) (shapes_of o.results) (o, is_offered, refl, refl)
          (list_gives o.arguments q.procedure.at q.arguments bytes.0 (ap arguments (sym o_is) ∙ list)) (results_take o.results q.into bytes.1.0 (ap gives (sym o_is) ∙ into))
          (handlers_typed (module_number (context.called q.«module».name)) o is_offered hs bytes.1.1 (ap (λ x. f.handlers_faults context x hs) (sym o_is) ∙ handlers)))
      typed (s.return at es) bytes none = w.give (each_meant context.scope (for_fields context.own.results) 0 (expression_trees es)) (list_gives context.own.results at es bytes none)
      typed (s.raise at name es) bytes none =
          let values = λ (x : Option Reported). f.list_faults context (f.values_of x) name.at es in
          let (error, list) = none_in (f.error_faults (Some context.own) name) (values (f.reported_by (Some context.own) name)) none in
          let (x, x_is, is_reported) = reported context.own name error in
          subst (λ y. IsTyped variables (ContextTakes context) (ContextReports context) results (IsReported context.own) (c.raise (error_number y) (each_meant context.scope (f.values_of y) 0 (expression_trees es)))) (sym x_is)
          (w.raise x.number (each_meant context.scope (for_fields x.values) 0 (expression_trees es)) (shapes_of x.values) is_reported (list_gives x.values name.at es bytes (ap values (sym x_is) ∙ list)))

      all_typed : (ss : StatementTrees) → StatementsAreOfBytes ss → f.all_faults context ss ≡ [] → AllTyped ss
      all_typed s.no_statements bytes none = w.none
      all_typed (s.more_statements t ss) bytes none =
          let (own, rest) = none_in (f.faults context t) (f.all_faults context ss) none in
          w.more (does context t) (c.statement_trees (all_do context ss)) (typed t bytes.0 own) (all_typed ss bytes.1 rest)

      handlers_typed : (callee : ℕ) (o : Offered) → IsOffered context callee o.number o → (hs : HandlerTrees) → HandlersAreOfBytes hs → f.handlers_faults context (Some o) hs ≡ [] → HandlersTyped o callee o.number hs
      handlers_typed callee o is_offered s.no_handlers bytes none = w.nothing callee o.number
      handlers_typed callee o is_offered (s.more_handlers x ss hs) bytes none =
          let handled = f.handled_faults context (Some o) x.at x.error x.places in
          let all = f.all_faults context ss in
          let rest = f.handlers_faults context (Some o) hs in
          let (front, others) = none_in (f.last_faults x hs ++ handled ++ all) rest none in
          let (more, body) = none_in (f.last_faults x hs ++ handled) all front in
          let (last, own) = none_in (f.last_faults x hs) handled more in
          one_handler callee o is_offered x.at x.error x.places (c.statement_trees (all_do context ss)) (c.handler_trees (all_handle context (Some o) hs)) bytes.0 own
          (all_typed ss bytes.1.0 body) (handlers_typed callee o is_offered hs bytes.1.1 others)

  -- what has no fault is well formed
  pub well_typed : (context : Context) → IsWholeContext variables context → (ss : StatementTrees) → StatementsAreOfBytes ss → f.all_faults context ss ≡ []
      → AreTyped variables (ContextTakes context) (ContextReports context) (shapes_of context.own.results) (IsReported context.own) (c.statement_trees (all_do context ss))
  well_typed context whole ss bytes none = all_typed context whole ss bytes none
