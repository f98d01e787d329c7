-- Statements as every program has them, once it is read, and what procedures take, give and report in a context.
use Rattle.std.specs.Prelude.{◌≡◌, ◌≢◌, ℕ, List, [], ◌∷◌, Option, Some, None}
use Rattle.std.specs.List.{AllByRecursion}
use Rattle.circus_value.specs.ShapeTree.{ShapeTree, FieldTrees, no_fields, more_fields}
use Rattle.circus_syntax.specs.declared.named.Named.{Named}
use Rattle.circus_expression.specs.ExpressionTree.{PlaceTree, expression_trees, suffix_trees}
use Rattle.circus_statement.specs.StatementTree.{StatementTree, StatementTrees, HandlerTrees, IntoOf, assign, only_then, then_else, while, append, call, return, raise, no_statements, more_statements, no_handlers, more_handlers}
use Rattle.circus_resolve.specs.Regular.{IsWhole, IsOfBytes, AreOfBytes, SuffixesAreOfBytes}
use Rattle.circus_body.specs.Context.{Reported, Offered, unsaid, a_module, Context}

abbrev pub PlaceIsOfBytes : PlaceTree → Type 0
PlaceIsOfBytes p = SuffixesAreOfBytes (suffix_trees p.suffixes)

abbrev pub PlacesAreOfBytes : Option (List PlaceTree) → Type 0
PlacesAreOfBytes None = Unit {0}
PlacesAreOfBytes (Some ps) = AllByRecursion PlaceIsOfBytes ps

-- OTHER has no places
abbrev pub HandledIsRead : Option Named → Option (List PlaceTree) → Type 0
HandledIsRead None places = places ≡ None
HandledIsRead (Some _) places = PlacesAreOfBytes places

abbrev pub IntoIsOfBytes : Option (IntoOf PlaceTree) → Type 0
IntoIsOfBytes None = Unit {0}
IntoIsOfBytes (Some i) = AllByRecursion PlaceIsOfBytes i.places

abbrev mutual
  -- the texts in it are of bytes
  pub StatementIsOfBytes : StatementTree → Type 0
  StatementIsOfBytes (assign _ p e) = PlaceIsOfBytes p × IsOfBytes e
  StatementIsOfBytes (only_then _ e ss) = IsOfBytes e × StatementsAreOfBytes ss
  StatementIsOfBytes (then_else _ e ss others) = IsOfBytes e × (StatementsAreOfBytes ss × StatementsAreOfBytes others)
  StatementIsOfBytes (while _ e ss) = IsOfBytes e × StatementsAreOfBytes ss
  StatementIsOfBytes (append _ e p) = IsOfBytes e × PlaceIsOfBytes p
  StatementIsOfBytes (call _ c hs) = AreOfBytes (expression_trees c.arguments) × (IntoIsOfBytes c.into × HandlersAreOfBytes hs)
  StatementIsOfBytes (return _ es) = AreOfBytes (expression_trees es)
  StatementIsOfBytes (raise _ _ es) = AreOfBytes (expression_trees es)

  pub StatementsAreOfBytes : StatementTrees → Type 0
  StatementsAreOfBytes no_statements = Unit {0}
  StatementsAreOfBytes (more_statements s ss) = StatementIsOfBytes s × StatementsAreOfBytes ss

  pub HandlersAreOfBytes : HandlerTrees → Type 0
  HandlersAreOfBytes no_handlers = Unit {0}
  HandlersAreOfBytes (more_handlers h ss hs) = HandledIsRead h.error h.places × (StatementsAreOfBytes ss × HandlersAreOfBytes hs)

-- a context over the shapes of the variables, in which what each module implements is known that is imported
pub record IsWholeContext (variables : List ShapeTree) (context : Context) : Type 0 where
  pub scope : IsWhole variables context.scope
  pub said : (name : List ℕ) → context.called name ≢ unsaid

-- the shapes of fields
abbrev pub shapes_of : FieldTrees → List ShapeTree
shapes_of no_fields = []
shapes_of (more_fields _ s fs) = s ∷ shapes_of fs

-- a module of this number offers the procedure under this number
pub record IsOffered (context : Context) (callee procedure : ℕ) (o : Offered) : Type 0 where
  pub named : List ℕ
  pub name : List ℕ
  pub procedures : List ℕ → Option Offered
  pub called : context.called named ≡ a_module callee procedures
  pub found : procedures name ≡ Some o
  pub numbered : o.number ≡ procedure

-- a procedure reports the error of this number, which has values of these shapes
pub record IsReported (o : Offered) (number : ℕ) (values : List ShapeTree) : Type 0 where
  pub name : List ℕ
  pub error : Reported
  pub found : o.reported name ≡ Some error
  pub numbered : error.number ≡ number
  pub shapes : shapes_of error.values ≡ values

-- what the procedure of a number of the module of a number takes and gives, and what its errors have
abbrev pub ContextTakes : Context → ℕ → ℕ → List ShapeTree → List ShapeTree → Type 0
ContextTakes context callee procedure arguments gives = (o : Offered) × IsOffered context callee procedure o × (shapes_of o.arguments ≡ arguments) × (shapes_of o.results ≡ gives)

abbrev pub ContextReports : Context → ℕ → ℕ → ℕ → List ShapeTree → Type 0
ContextReports context callee procedure number values = (o : Offered) × IsOffered context callee procedure o × IsReported o number values
