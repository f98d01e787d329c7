-- What a statement is to a contract: a plain tree over its expressions and its places.
use Rattle.std.specs.Prelude.{ℕ, List, [], ◌∷◌, Option}
use Rattle.circus_syntax.specs.declared.named.Named.{Named}
use Rattle.circus_expression.specs.ExpressionTree.{ExpressionTree, PlaceTree}

-- the places that results go to, with the place of the word INTO
pub record IntoOf (P : Type 0) : Type 0 where
  pub at : ℕ
  pub places : List P

-- a call, without its handlers
pub record CallOf (E P : Type 0) : Type 0 where
  pub «module» : Named
  pub procedure : Named
  pub arguments : List E
  pub into : Option (IntoOf P)

-- what a handler handles: an error, or every other one; and where its values go
pub record HandledOf (P : Type 0) : Type 0 where
  pub at : ℕ
  pub error : Option Named
  pub places : Option (List P)

mutual
  -- the place of a statement and what it is
  pub data StatementOf (E P : Type 0) : Type 0 where
    assign : ℕ → P → E → StatementOf E P
    only_then : ℕ → E → StatementsOf E P → StatementOf E P
    then_else : ℕ → E → StatementsOf E P → StatementsOf E P → StatementOf E P
    while : ℕ → E → StatementsOf E P → StatementOf E P
    append : ℕ → E → P → StatementOf E P
    call : ℕ → CallOf E P → HandlersOf E P → StatementOf E P
    return : ℕ → List E → StatementOf E P
    raise : ℕ → Named → List E → StatementOf E P

  -- statements in order
  pub data StatementsOf (E P : Type 0) : Type 0 where
    no_statements : StatementsOf E P
    more_statements : StatementOf E P → StatementsOf E P → StatementsOf E P

  -- handlers in order
  pub data HandlersOf (E P : Type 0) : Type 0 where
    no_handlers : HandlersOf E P
    more_handlers : HandledOf P → StatementsOf E P → HandlersOf E P → HandlersOf E P

abbrev pub StatementTree : Type 0
StatementTree = StatementOf ExpressionTree PlaceTree

abbrev pub StatementTrees : Type 0
StatementTrees = StatementsOf ExpressionTree PlaceTree

abbrev pub HandlerTrees : Type 0
HandlerTrees = HandlersOf ExpressionTree PlaceTree

-- a handler by itself
pub record HandlerTree : Type 0 where
  pub handled : HandledOf PlaceTree
  pub statements : List StatementTree

-- the statements of a list
abbrev pub statement_trees : List StatementTree → StatementTrees
statement_trees [] = no_statements
statement_trees (s ∷ ss) = more_statements s (statement_trees ss)

-- the handlers of a list
abbrev pub handler_trees : List HandlerTree → HandlerTrees
handler_trees [] = no_handlers
handler_trees (h ∷ hs) = more_handlers h.handled (statement_trees h.statements) (handler_trees hs)
