-- Which statements are well formed, by the shapes of the variables and by what procedures take, give and report.
use Rattle.std.specs.Prelude.{◌≡◌, ℕ, List, [], ◌∷◌, Some, None}
use Rattle.circus_value.specs.ShapeTree.{ShapeTree, sequence}
use Rattle.circus_checked.specs.declared.expression.CheckedPlace.{CheckedPlace}
use Rattle.circus_checked.specs.ExpressionTree.{ExpressionTree}
use Rattle.circus_checked.specs.StatementTree.{StatementTree, StatementTrees, HandlerTrees, no_statements, more_statements, no_handlers, more_handlers}
use Rattle.circus_checked.specs.StatementTree as statement
use Rattle.circus_checked.specs.Sorts.{of, a_truth, sort_of, kind_of, Has, Holds}

module _ (variables : List ShapeTree) where
  -- each expression gives a value of its shape
  pub data EachGives : List ExpressionTree → List ShapeTree → Type 0 where
    no_values : EachGives [] []
    more_values : (e : ExpressionTree) (es : List ExpressionTree) (s : ShapeTree) (shapes : List ShapeTree) → Has variables e (of s) → EachGives es shapes → EachGives (e ∷ es) (s ∷ shapes)

  -- values of these shapes are stored in these places, where a number may be of another kind
  pub data EachTakes : List CheckedPlace → List ShapeTree → Type 0 where
    no_places : EachTakes [] []
    more_places : (p : CheckedPlace) (ps : List CheckedPlace) (t s : ShapeTree) (shapes : List ShapeTree) → Holds variables p t → sort_of t ≡ sort_of s → EachTakes ps shapes → EachTakes (p ∷ ps) (s ∷ shapes)

  -- or they are dropped
  pub data Take : List CheckedPlace → List ShapeTree → Type 0 where
    dropped : (shapes : List ShapeTree) → Take [] shapes
    taken : (ps : List CheckedPlace) (shapes : List ShapeTree) → EachTakes ps shapes → Take ps shapes

  -- what the procedure of a number of the module of a number takes and gives, and which values its errors have; and what the
  -- statements' own procedure gives and raises
  module _ (Takes : ℕ → ℕ → List ShapeTree → List ShapeTree → Type 0) (Reports : ℕ → ℕ → ℕ → List ShapeTree → Type 0) (results : List ShapeTree) (Raises : ℕ → List ShapeTree → Type 0) where
    mutual
      pub data IsTyped : StatementTree → Type 0 where
        assign : (p : CheckedPlace) (e : ExpressionTree) (t : ShapeTree) → Holds variables p t → Has variables e (sort_of t) → IsTyped (statement.assign p e)
        append : (e : ExpressionTree) (p : CheckedPlace) (bound : ℕ) (t : ShapeTree) → Holds variables p (sequence bound t) → Has variables e (sort_of t) → IsTyped (statement.append e p bound (kind_of t))
        branch : (e : ExpressionTree) (ss others : StatementTrees) → Has variables e a_truth → AreTyped ss → AreTyped others → IsTyped (statement.branch e ss others)
        repeat : (e : ExpressionTree) (body : StatementTrees) → Has variables e a_truth → AreTyped body → IsTyped (statement.repeat e body)
        call : (callee procedure : ℕ) (es : List ExpressionTree) (into : List CheckedPlace) (handlers : HandlerTrees) (arguments gives : List ShapeTree)
            → Takes callee procedure arguments gives → EachGives es arguments → Take into gives → AreHandlers callee procedure handlers → IsTyped (statement.call callee procedure es into handlers)
        give : (es : List ExpressionTree) → EachGives es results → IsTyped (statement.give es)
        raise : (number : ℕ) (es : List ExpressionTree) (values : List ShapeTree) → Raises number values → EachGives es values → IsTyped (statement.raise number es)

      pub data AreTyped : StatementTrees → Type 0 where
        none : AreTyped no_statements
        more : (s : StatementTree) (ss : StatementTrees) → IsTyped s → AreTyped ss → AreTyped (more_statements s ss)

      -- handlers of the errors of a procedure
      pub data AreHandlers : ℕ → ℕ → HandlerTrees → Type 0 where
        nothing : (callee procedure : ℕ) → AreHandlers callee procedure no_handlers
        other : (callee procedure : ℕ) (ss : StatementTrees) (hs : HandlerTrees) → AreTyped ss → AreHandlers callee procedure hs → AreHandlers callee procedure (more_handlers None [] ss hs)
        named : (callee procedure number : ℕ) (places : List CheckedPlace) (ss : StatementTrees) (hs : HandlerTrees) (values : List ShapeTree)
            → Reports callee procedure number values → Take places values → AreTyped ss → AreHandlers callee procedure hs → AreHandlers callee procedure (more_handlers (Some number) places ss hs)
