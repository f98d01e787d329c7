-- What statements mean: trees without names. Where something is unknown the tree stands for nothing.
use Rattle.std.specs.Prelude.{ℕ, List, [], ◌∷◌, map, Option, Some, None}
use Rattle.circus_value.specs.ShapeTree.{ShapeTree, sequence}
use Rattle.circus_syntax.specs.declared.named.Named.{Named}
use Rattle.circus_expression.specs.ExpressionTree.{PlaceTree, expression_trees}
use Rattle.circus_statement.specs.StatementTree.{StatementTree, StatementTrees, HandlerTrees, IntoOf, assign, only_then, then_else, while, append, call, return, raise, no_statements, more_statements, no_handlers, more_handlers}
use Rattle.circus_checked.specs.declared.kinds.NumberKind.{NumberKind}
use Rattle.circus_checked.specs.declared.expression.CheckedPlace.{CheckedPlace}
use Rattle.circus_checked.specs.StatementTree as c
use Rattle.circus_checked.specs.Sorts.{kind_of}
use Rattle.circus_resolve.specs.Faults.{place_shape}
use Rattle.circus_resolve.specs.Meaning.{meant, place_meant, each_meant}
use Rattle.circus_body.specs.Context.{Reported, Offered, Called, a_module, Context}
use Rattle.circus_body.specs.Faults.{faults_of_call, arguments_of, results_of, reported_by, values_of, item_shape}

-- the most items of a sequence
abbrev pub bound_of : Option ShapeTree → ℕ
bound_of (Some (sequence n _)) = n
bound_of _ = 0

-- the kind of its items, where these are numbers
abbrev pub item_kind : Option ShapeTree → Option NumberKind
item_kind None = None
item_kind (Some s) = kind_of s

abbrev pub module_number : Called → ℕ
module_number (a_module n _) = n
module_number _ = 0

abbrev pub procedure_number : Option Offered → ℕ
procedure_number None = 0
procedure_number (Some o) = o.number

abbrev pub error_number : Option Reported → ℕ
error_number None = 0
error_number (Some e) = e.number

-- the error that is handled, or every other one
abbrev pub handled_meant : Option Offered → Option Named → Option ℕ
handled_meant o None = None
handled_meant o (Some name) = Some (error_number (reported_by o name))

module _ (context : Context) where
  abbrev pub places_meant : Option (List PlaceTree) → List CheckedPlace
  places_meant None = []
  places_meant (Some ps) = map (place_meant context.scope) ps

  abbrev pub into_meant : Option (IntoOf PlaceTree) → List CheckedPlace
  into_meant None = []
  into_meant (Some i) = places_meant (Some i.places)

  abbrev mutual
    pub does : StatementTree → c.StatementTree
    does (assign _ p e) = c.assign (place_meant context.scope p) (meant context.scope e)
    does (only_then _ e ss) = c.branch (meant context.scope e) (c.statement_trees (all_do ss)) c.no_statements
    does (then_else _ e ss others) = c.branch (meant context.scope e) (c.statement_trees (all_do ss)) (c.statement_trees (all_do others))
    does (while _ e ss) = c.repeat (meant context.scope e) (c.statement_trees (all_do ss))
    does (append _ e p) =
        c.append (meant context.scope e) (place_meant context.scope p) (bound_of (place_shape context.scope p)) (item_kind (item_shape (place_shape context.scope p)))
    does (call _ q hs) =
        c.call (module_number (context.called q.«module».name)) (procedure_number (faults_of_call context q))
        (each_meant context.scope (arguments_of (faults_of_call context q)) 0 (expression_trees q.arguments)) (into_meant q.into) (c.handler_trees (all_handle (faults_of_call context q) hs))
    does (return _ es) = c.give (each_meant context.scope (results_of (Some context.own)) 0 (expression_trees es))
    does (raise _ name es) =
        c.raise (error_number (reported_by (Some context.own) name)) (each_meant context.scope (values_of (reported_by (Some context.own) name)) 0 (expression_trees es))

    pub all_do : StatementTrees → List c.StatementTree
    all_do no_statements = []
    all_do (more_statements s ss) = does s ∷ all_do ss

    pub all_handle : Option Offered → HandlerTrees → List c.HandlerTree
    all_handle o no_handlers = []
    all_handle o (more_handlers h ss hs) = record { error = handled_meant o h.error; places = places_meant h.places; statements = all_do ss } ∷ all_handle o hs
