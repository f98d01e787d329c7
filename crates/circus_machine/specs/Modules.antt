-- Modules whose procedures have bodies: which bodies these may be, and what a module's executions do.
use Rattle.std.specs.Prelude.{ℕ, ◌≡◌, ◌==◌, List, [], ◌∷◌, ◌++◌, map, position, find, Option, Some, None, slice_get}
use Rattle.circus_value.specs.ShapeOf.{tree_of}
use Rattle.circus_value.specs.ShapeTree.{ShapeTree}
use Rattle.circus_value.specs.ValueTree.{ValueTree}
use Rattle.circus_value.specs.declared.shape.Shape.{Shape}
use Rattle.circus_value.specs.declared.outcome.Outcome.{Outcome}
use Rattle.circus_value.specs.declared.outcome.Outcome.TheVariants.{Raised}
use Rattle.circus_model.specs.LanguageError.{number_of}
use Rattle.circus_model.specs.declared.language_error.LanguageError.TheVariants.{Unhandled}
use Rattle.circus_model.specs.declared.signature.ErrorShape.{ErrorShape}
use Rattle.circus_model.specs.declared.signature.Import.{Import}
use Rattle.circus_model.specs.declared.signature.ProcedureShape.{ProcedureShape}
use Rattle.circus_model.specs.declared.signature.Signature.{Signature}
use Rattle.circus_model.specs.Behaviour.{Behaviour}
use Rattle.circus_model.specs.Lawful.{procedure_numbered, import_of}
use Rattle.circus_model.specs.NextTurn.{NextTurn, ends}
use Rattle.circus_checked.specs.StatementTree.{statement_trees}
use Rattle.circus_checked.specs.WellTyped.{AreTyped}
use Rattle.circus_machine.specs.Bodies.{next_turn}
use Rattle.circus_evaluate.specs.Typed.{Hold}
use Rattle.circus_machine.specs.declared.body.Body.{Body}

abbrev pub trees : List Shape → List ShapeTree
trees shapes = map tree_of shapes

-- ---- what bodies may name

-- an imported module has this procedure
pub record IsImported (imports : List Import) (callee procedure : ℕ) (p : ProcedureShape) : Type 0 where
  pub import : Import
  pub named : import_of callee imports ≡ Some import
  pub numbered : procedure_numbered procedure import.procedures ≡ Some p

-- which takes and gives values of these shapes
pub record SignatureTakes (imports : List Import) (callee procedure : ℕ) (arguments results : List ShapeTree) : Type 0 where
  pub shape : ProcedureShape
  pub imported : IsImported imports callee procedure shape
  pub takes : trees shape.arguments ≡ arguments
  pub gives : trees shape.results ≡ results

-- one of the errors has this number, and values of these shapes
pub record SignatureRaises (errors : List ErrorShape) (number : ℕ) (values : List ShapeTree) : Type 0 where
  pub error : ErrorShape
  pub numbered : find (λ e. e.number == number) errors ≡ Some error
  pub has : trees error.arguments ≡ values

-- a procedure of an imported module reports it
pub record SignatureReports (imports : List Import) (callee procedure number : ℕ) (values : List ShapeTree) : Type 0 where
  pub shape : ProcedureShape
  pub imported : IsImported imports callee procedure shape
  pub raises : SignatureRaises shape.errors number values

-- ---- which bodies a module may have

-- its statements are well formed, where its local variables have some shapes that their first values fit
pub record IsBodyOf (signature : Signature) (p : ProcedureShape) (body : Body) : Type 0 where
  pub locals : List ShapeTree
  pub hold : Hold locals body.locals
  pub typed : AreTyped (trees signature.variables ++ (trees p.arguments ++ locals)) (SignatureTakes signature.imports) (SignatureReports signature.imports) (trees p.results) (SignatureRaises p.errors) (statement_trees body.statements)

-- one for each of these procedures, in order
abbrev pub AreBodiesOf : Signature → List ProcedureShape → List Body → Type 0
AreBodiesOf signature [] [] = Unit {0}
AreBodiesOf signature [] (_ ∷ _) = ⊥
AreBodiesOf signature (_ ∷ _) [] = ⊥
AreBodiesOf signature (p ∷ procedures) (body ∷ bodies) = IsBodyOf signature p body × AreBodiesOf signature procedures bodies

-- ---- what its executions do

-- the place of the first procedure with a number
abbrev pub place_of : ℕ → List ProcedureShape → Option ℕ
place_of number procedures = position (λ p. p.number == number) procedures

abbrev pub body_at : Option ℕ → List Body → Option Body
body_at None bodies = None
body_at (Some place) bodies = slice_get bodies place

-- what an execution of a body does next; one without a body raises
abbrev pub turn_by : ℕ → Option Body → List ValueTree → List ValueTree → List Outcome → NextTurn
turn_by limit None state arguments replies = ends (Raised (number_of Unhandled) []) state
turn_by limit (Some body) state arguments replies = next_turn limit body.statements body.locals state arguments replies

-- the body of a procedure stands in its place
abbrev pub turn_with : Signature → List Body → List ValueTree → ℕ → List ValueTree → List Outcome → NextTurn
turn_with signature bodies state procedure arguments replies = turn_by signature.limit (body_at (place_of procedure signature.procedures) bodies) state arguments replies

-- the module
abbrev pub behaves : Signature → List ValueTree → List Body → Behaviour
behaves signature first bodies = record { declared = signature; turn = turn_with signature bodies; first = first }
