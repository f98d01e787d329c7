-- The faults of statements, every one at the place where it stands.
use Rattle.std.specs.Prelude.{ℕ, ◌+◌, true, not, ◌==◌, List, [], ◌∷◌, ◌++◌, length, Option, Some, None, is_none, option_map}
use Rattle.circus_value.specs.ShapeTree.{ShapeTree, FieldTrees, sequence}
use Rattle.circus_syntax.specs.declared.named.Named.{Named}
use Rattle.circus_expression.specs.ExpressionTree.{ExpressionTree, PlaceTree, expression_trees}
use Rattle.circus_statement.specs.StatementTree.{StatementTree, StatementTrees, HandlerTrees, CallOf, IntoOf, HandledOf, assign, only_then, then_else, while, append, call, return, raise, no_statements, more_statements, no_handlers, more_handlers}
use Rattle.circus_fault.specs.Least.{faults_if}
use Rattle.circus_resolve.specs.declared.cause.CheckCause.TheVariants.{Unknown, Mistyped}
use Rattle.circus_checked.specs.Sorts.{sort_of}
use Rattle.circus_resolve.specs.Passing.{is_truth}
use Rattle.circus_resolve.specs.Faults.{Faults, Slots, alike, for_fields, slot_at, field_count, each_faults, expression_faults, place_faults, place_shape, sort, place_of, wanted_faults, wanted_for, wanted_alike}
use Rattle.circus_body.specs.Context.{Reported, Offered, Called, not_imported, unsaid, a_module, Context}

-- ---- calls

-- the procedure that is called, where it is known
abbrev pub offered_by : Called → List ℕ → Option Offered
offered_by (a_module _ procedures) name = procedures name
offered_by _ name = None

abbrev pub called_faults : Called → Named → Named → Faults
called_faults not_imported m procedure = faults_if true m.at Unknown
called_faults unsaid m procedure = []
called_faults (a_module _ procedures) m procedure = faults_if (is_none (procedures procedure.name)) procedure.at Unknown

-- what is wanted of values, where it is known
abbrev pub fields_or_none : Option FieldTrees → Slots
fields_or_none None = alike None
fields_or_none (Some fs) = for_fields fs

abbrev pub arguments_of : Option Offered → Slots
arguments_of o = fields_or_none (option_map (λ (p : Offered). p.arguments) o)

abbrev pub results_of : Option Offered → Slots
results_of o = fields_or_none (option_map (λ (p : Offered). p.results) o)

-- an error that the procedure reports
abbrev pub reported_by : Option Offered → Named → Option Reported
reported_by None name = None
reported_by (Some o) name = o.reported name.name

abbrev pub values_of : Option Reported → Slots
values_of e = fields_or_none (option_map (λ (r : Reported). r.values) e)

-- an error that a known procedure doesn't report
abbrev pub error_faults : Option Offered → Named → Faults
error_faults None name = []
error_faults (Some o) name = faults_if (is_none (o.reported name.name)) name.at Unknown

-- the error that a handler is for; OTHER is for whichever it is
abbrev pub handled_error_faults : Option Offered → Option Named → Faults
handled_error_faults o None = []
handled_error_faults o (Some name) = error_faults o name

abbrev pub handled_values : Option Offered → Option Named → Slots
handled_values o None = alike None
handled_values o (Some name) = values_of (reported_by o name)

-- so many items where so many are wanted
abbrev pub number_faults : Slots → ℕ → ℕ → Faults
number_faults (alike _) n at = []
number_faults (for_fields fs) n at = faults_if (not (n == field_count fs)) at Mistyped

-- APPEND takes a sequence
abbrev pub sequence_faults : Option ShapeTree → ℕ → Faults
sequence_faults None at = []
sequence_faults (Some (sequence _ _)) at = []
sequence_faults (Some _) at = faults_if true at Mistyped

-- the shape of its items
abbrev pub item_shape : Option ShapeTree → Option ShapeTree
item_shape (Some (sequence _ s)) = Some s
item_shape _ = None

-- OTHER stands last
abbrev pub last_faults : HandledOf PlaceTree → HandlerTrees → Faults
last_faults h no_handlers = []
last_faults h (more_handlers _ _ _) = faults_if (is_none h.error) h.at Mistyped

module _ (context : Context) where
  -- the expressions of a list, where their number is told at the place
  abbrev pub list_faults : Slots → ℕ → List ExpressionTree → Faults
  list_faults slots at es = number_faults slots (length es) at ++ each_faults context.scope slots 0 (expression_trees es)

  -- places that values go to, from one on
  abbrev pub places_faults : Slots → ℕ → List PlaceTree → Faults
  places_faults slots n [] = []
  places_faults slots n (p ∷ ps) =
      place_faults context.scope p ++ wanted_alike (option_map sort_of (slot_at slots n)) (option_map sort_of (place_shape context.scope p)) p.name.at
      ++ places_faults slots (n + 1) ps

  -- those of INTO, or of a handler, where their number is told at the place
  abbrev pub into_faults : Slots → ℕ → Option (List PlaceTree) → Faults
  into_faults slots at None = []
  into_faults slots at (Some ps) = number_faults slots (length ps) at ++ places_faults slots 0 ps

  -- a condition
  abbrev pub faults_of_condition : ExpressionTree → Faults
  faults_of_condition e = expression_faults context.scope e ++ wanted_faults is_truth (sort context.scope e) (place_of e)

  -- what a handler handles, and where the values of that go
  abbrev pub handled_faults : Option Offered → ℕ → Option Named → Option (List PlaceTree) → Faults
  handled_faults o at error ps = handled_error_faults o error ++ into_faults (handled_values o error) at ps

  -- a call without its handlers
  abbrev pub faults_of_call : CallOf ExpressionTree PlaceTree → Option Offered
  faults_of_call c = offered_by (context.called c.«module».name) c.procedure.name

  abbrev pub results_faults : Slots → Option (IntoOf PlaceTree) → Faults
  results_faults slots None = []
  results_faults slots (Some i) = into_faults slots i.at (Some i.places)

  abbrev pub ask_faults : CallOf ExpressionTree PlaceTree → Faults
  ask_faults c =
      called_faults (context.called c.«module».name) c.«module» c.procedure
      ++ list_faults (arguments_of (faults_of_call c)) c.procedure.at c.arguments ++ results_faults (results_of (faults_of_call c)) c.into

  abbrev mutual
    pub faults : StatementTree → Faults
    faults (assign _ p e) = place_faults context.scope p ++ expression_faults context.scope e ++ wanted_for (place_shape context.scope p) (sort context.scope e) (place_of e)
    faults (only_then _ e ss) = faults_of_condition e ++ all_faults ss
    faults (then_else _ e ss others) = faults_of_condition e ++ all_faults ss ++ all_faults others
    faults (while _ e ss) = faults_of_condition e ++ all_faults ss
    faults (append _ e p) =
        expression_faults context.scope e ++ place_faults context.scope p ++ sequence_faults (place_shape context.scope p) p.name.at
        ++ wanted_for (item_shape (place_shape context.scope p)) (sort context.scope e) (place_of e)
    faults (call _ c hs) = ask_faults c ++ handlers_faults (faults_of_call c) hs
    faults (return at es) = list_faults (results_of (Some context.own)) at es
    faults (raise _ name es) = error_faults (Some context.own) name ++ list_faults (values_of (reported_by (Some context.own) name)) name.at es

    pub all_faults : StatementTrees → Faults
    all_faults no_statements = []
    all_faults (more_statements s ss) = faults s ++ all_faults ss

    pub handlers_faults : Option Offered → HandlerTrees → Faults
    handlers_faults o no_handlers = []
    handlers_faults o (more_handlers h ss hs) = last_faults h hs ++ handled_faults o h.at h.error h.places ++ all_faults ss ++ handlers_faults o hs
