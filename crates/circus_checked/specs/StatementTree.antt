-- What a checked statement is to a contract: a plain tree.
use Rattle.std.specs.Prelude.{ℕ, List, [], ◌∷◌, Option}
use Rattle.circus_checked.specs.declared.kinds.NumberKind.{NumberKind}
use Rattle.circus_checked.specs.declared.expression.CheckedPlace.{CheckedPlace}
use Rattle.circus_checked.specs.ExpressionTree.{ExpressionTree}

mutual
  pub data StatementTree : Type 0 where
    assign : CheckedPlace → ExpressionTree → StatementTree
    -- where the condition holds, and where it doesn't
    branch : ExpressionTree → StatementTrees → StatementTrees → StatementTree
    repeat : ExpressionTree → StatementTrees → StatementTree
    -- an item, the sequence, its bound, and the kind of its items where these are numbers
    append : ExpressionTree → CheckedPlace → ℕ → Option NumberKind → StatementTree
    -- module, procedure, arguments, where the results go, handlers
    call : ℕ → ℕ → List ExpressionTree → List CheckedPlace → HandlerTrees → StatementTree
    give : List ExpressionTree → StatementTree
    raise : ℕ → List ExpressionTree → StatementTree

  -- statements in order
  pub data StatementTrees : Type 0 where
    no_statements : StatementTrees
    more_statements : StatementTree → StatementTrees → StatementTrees

  -- handlers in order: the error, or none for every other one; where its values go; what is done
  pub data HandlerTrees : Type 0 where
    no_handlers : HandlerTrees
    more_handlers : Option ℕ → List CheckedPlace → StatementTrees → HandlerTrees → HandlerTrees

-- a handler by itself
pub record HandlerTree : Type 0 where
  pub error : Option ℕ
  pub places : List CheckedPlace
  pub statements : List StatementTree

-- the statements of a list
abbrev pub statement_trees : List StatementTree → StatementTrees
statement_trees [] = no_statements
statement_trees (s ∷ ss) = more_statements s (statement_trees ss)

-- the handlers of a list
abbrev pub handler_trees : List HandlerTree → HandlerTrees
handler_trees [] = no_handlers
handler_trees (h ∷ hs) = more_handlers h.error h.places (statement_trees h.statements) (handler_trees hs)
