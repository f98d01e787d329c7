-- Bodies as flat lists of instructions with jumps, and what the machine does at each.
use Rattle.std.specs.Prelude.{◌≡◌, ℕ, suc, ◌+◌, ◌-◌, ◌≤◌, max, if◌then◌else◌, List, [], ◌∷◌, ◌++◌, length, Option, Some, None, slice_get}
use Rattle.circus_value.specs.ValueTree.{ValueTree}
use Rattle.circus_value.specs.declared.outcome.Outcome.{Outcome}
use Rattle.circus_value.specs.declared.outcome.Outcome.TheVariants.{Returned, Raised}
use Rattle.circus_checked.specs.declared.kinds.NumberKind.{NumberKind}
use Rattle.circus_checked.specs.declared.expression.CheckedPlace.{CheckedPlace}
use Rattle.circus_checked.specs.ExpressionTree.{ExpressionTree}
use Rattle.circus_checked.specs.StatementTree.{StatementTree, StatementTrees, HandlerTrees, no_statements, more_statements, no_handlers, more_handlers}
use Rattle.circus_checked.specs.StatementTree as statement
use Rattle.circus_machine.specs.Meaning.{Going, Flow, goes_on, ends, asks, then_does, does, test_condition, make_call, fill_places, raise_again, catches}

-- what catches an error: the error, or none for every other one; where its values go; how far behind the ask it goes on
pub record Catch : Type 0 where
  pub error : Option ℕ
  pub places : List CheckedPlace
  pub offset : ℕ

pub data Act : Type 0 where
  assign : CheckedPlace → ExpressionTree → Act
  append : ExpressionTree → CheckedPlace → ℕ → Option NumberKind → Act
  -- where the condition doesn't hold, so far behind it
  unless : ExpressionTree → ℕ → Act
  -- so far behind it
  jump : ℕ → Act
  -- where the condition holds, so far before it
  again : ExpressionTree → ℕ → Act
  -- module, procedure, arguments, where the results go, what catches errors, and how far behind it the code of the handlers ends
  ask : ℕ → ℕ → List ExpressionTree → List CheckedPlace → List Catch → ℕ → Act
  give : List ExpressionTree → Act
  raise : ℕ → List ExpressionTree → Act

-- how far behind an ask the farthest of these goes on
abbrev pub reach : List Catch → ℕ
reach [] = 0
reach (h ∷ hs) = max h.offset (reach hs)

-- how far behind it an instruction may lead at most
abbrev pub farthest : Act → ℕ
farthest (unless e k) = k
farthest (jump k) = k
farthest (ask callee procedure es places table skip) = max skip (reach table)
farthest _ = 0

-- each instruction leads within the code, or to its end
abbrev pub LeadsWithin : List Act → Type 0
LeadsWithin [] = Unit {0}
LeadsWithin (a ∷ more) = (farthest a ≤ length more) × LeadsWithin more

abbrev mutual
  pub code_of : StatementTree → List Act
  code_of (statement.assign p e) = assign p e ∷ []
  code_of (statement.append e p bound k) = append e p bound k ∷ []
  code_of (statement.branch e ss others) =
      unless e (length (codes_of ss) + 1) ∷ (codes_of ss ++ jump (length (codes_of others)) ∷ codes_of others)
  code_of (statement.repeat e body) = jump (length (codes_of body)) ∷ (codes_of body ++ again e (length (codes_of body)) ∷ [])
  code_of (statement.call callee procedure es places handlers) =
      ask callee procedure es places (table_of 0 handlers) (length (handlers_code handlers)) ∷ handlers_code handlers
  code_of (statement.give es) = give es ∷ []
  code_of (statement.raise error es) = raise error es ∷ []

  pub codes_of : StatementTrees → List Act
  codes_of no_statements = []
  codes_of (more_statements s ss) = code_of s ++ codes_of ss

  -- each handler, and a jump behind all of them
  pub handlers_code : HandlerTrees → List Act
  handlers_code no_handlers = []
  handlers_code (more_handlers e places ss hs) = codes_of ss ++ jump (length (handlers_code hs)) ∷ handlers_code hs

  -- the handlers, the first of which begins so far behind the ask
  pub table_of : ℕ → HandlerTrees → List Catch
  table_of at no_handlers = []
  table_of at (more_handlers e places ss hs) =
      record { error = e; places = places; offset = at } ∷ table_of (at + (length (codes_of ss) + 1)) hs

module _ (limit states : ℕ) where
  -- what catches an error that an ask at a place was answered with
  abbrev pub catch_place : ℕ → List Catch → ℕ → List ValueTree → Going → Flow (ℕ × Going)
  catch_place at [] error values c = raise_again error c.variables
  catch_place at (h ∷ hs) error values c =
      if catches h.error error then then_does (fill_places limit states h.places values c) (λ d. goes_on (suc at + h.offset, d)) else catch_place at hs error values c

  -- where the machine goes on behind an ask that got this reply
  abbrev pub reply_place : ℕ → List CheckedPlace → List Catch → ℕ → Outcome → Going → Flow (ℕ × Going)
  reply_place at places table skip (Returned results) c = then_does (fill_places limit states places results c) (λ d. goes_on (suc at + skip, d))
  reply_place at places table skip (Raised error values) c = catch_place at table error values c

  -- where the machine goes on behind an instruction at a place
  abbrev pub act : Act → ℕ → Going → Flow (ℕ × Going)
  act (assign p e) at c = then_does (does limit states (statement.assign p e) c) (λ d. goes_on (suc at, d))
  act (append e p bound k) at c = then_does (does limit states (statement.append e p bound k) c) (λ d. goes_on (suc at, d))
  act (unless e k) at c = then_does (test_condition limit states e c) (λ x. goes_on (if x.0 then suc at else suc at + k, x.1))
  act (jump k) at c = goes_on (suc at + k, c)
  act (again e k) at c = then_does (test_condition limit states e c) (λ x. goes_on (if x.0 then at - k else suc at, x.1))
  act (ask callee procedure es places table skip) at c =
      then_does (make_call limit states callee procedure es c) (λ x. reply_place at places table skip x.0 x.1)
  act (give es) at c = then_does (does limit states (statement.give es) c) (λ d. goes_on (suc at, d))
  act (raise error es) at c = then_does (does limit states (statement.raise error es) c) (λ d. goes_on (suc at, d))

  -- the machine with this code, at a place, comes to a flow
  pub data Comes (code : List Act) (flow : Flow Going) : ℕ → Going → Type 0 where
    behind_all : (at : ℕ) (c : Going) → slice_get code at ≡ None → flow ≡ goes_on c → Comes code flow at c
    further : (at : ℕ) (c : Going) (a : Act) (next : ℕ) (d : Going) → slice_get code at ≡ Some a → act a at c ≡ goes_on (next, d) → Comes code flow next d → Comes code flow at c
    ended : (at : ℕ) (c : Going) (a : Act) (outcome : Outcome) (variables : List ValueTree) → slice_get code at ≡ Some a → act a at c ≡ ends outcome variables → flow ≡ ends outcome variables → Comes code flow at c
    asked : (at : ℕ) (c : Going) (a : Act) (callee procedure : ℕ) (arguments : List ValueTree) (d : Going) → slice_get code at ≡ Some a → act a at c ≡ asks callee procedure arguments d → flow ≡ asks callee procedure arguments d → Comes code flow at c

  -- the machine goes on so, and comes to this flow
  abbrev pub Follows : List Act → Flow Going → Flow (ℕ × Going) → Type 0
  Follows code flow (goes_on x) = Comes code flow x.0 x.1
  Follows code flow (ends outcome variables) = flow ≡ ends outcome variables
  Follows code flow (asks callee procedure arguments c) = flow ≡ asks callee procedure arguments c
