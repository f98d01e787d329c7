-- What statements do, and with them what an execution does next.
use Rattle.std.specs.Prelude.{ℕ, zero, suc, ◌+◌, Bool, true, ◌==◌, nat_le, nat_lt, if◌then◌else◌, List, [], ◌∷◌, ◌++◌, take, Option, Some, None, Ok, Err}
use Rattle.circus_value.specs.ValueTree.{ValueTree}
use Rattle.circus_value.specs.ExternalSize.{size_of_values}
use Rattle.circus_value.specs.declared.outcome.Outcome.{Outcome}
use Rattle.circus_value.specs.declared.outcome.Outcome.TheVariants.{Returned, Raised}
use Rattle.circus_model.specs.declared.language_error.LanguageError.{LanguageError}
use Rattle.circus_model.specs.declared.language_error.LanguageError.TheVariants.{TooLong, StepLimit, CallLimit, Unhandled}
use Rattle.circus_model.specs.LanguageError as language
use Rattle.circus_limits.specs.Limits.{most_asks}
use Rattle.circus_model.specs.NextTurn.{NextTurn}
use Rattle.circus_model.specs.NextTurn as next_turn
use Rattle.circus_checked.specs.declared.expression.CheckedPlace.{CheckedPlace}
use Rattle.circus_checked.specs.ExpressionTree.{ExpressionTree, expression_trees}
use Rattle.circus_checked.specs.StatementTree.{StatementTree, StatementTrees, HandlerTrees, assign, branch, repeat, append, call, give, raise, no_statements, more_statements, no_handlers, more_handlers}
use Rattle.circus_evaluate.specs.Got.{Got, Raising, and_then, got_of, truth_of}
use Rattle.circus_evaluate.specs.Evaluating.{evaluate, evaluate_all}
use Rattle.circus_machine.specs.Storing.{stored_over, appended_over, store_at}

-- the steps that an execution has
abbrev pub most_steps : ℕ
most_steps = 1000000

-- an execution that goes on: its variables, the steps and the replies that are left, the asks that it has made
pub record Going : Type 0 where
  pub variables : List ValueTree
  pub steps : ℕ
  pub replies : List Outcome
  pub asks : ℕ

-- what comes of a part of an execution that gives an X where it goes on
pub data Flow (X : Type 0) : Type 0 where
  goes_on : X → Flow X
  -- the execution ends, with these variables
  ends : Outcome → List ValueTree → Flow X
  -- it asks, and no reply is left: module, procedure, arguments, and the execution as it asks
  asks : ℕ → ℕ → List ValueTree → Going → Flow X

-- one part behind another
abbrev pub then_does : {X Y : Type 0} → Flow X → (X → Flow Y) → Flow Y
then_does (goes_on x) f = f x
then_does (ends outcome variables) f = ends outcome variables
then_does (asks callee procedure arguments c) f = asks callee procedure arguments c

-- the language raises an error
abbrev pub fails : {X : Type 0} → LanguageError → List ValueTree → Flow X
fails error variables = ends (Raised (language.number_of error) []) variables

-- a value, or the end by the error that was raised in its place
abbrev pub value_or_end : {X : Type 0} → Raising X → Going → Flow X
value_or_end (Ok x) c = goes_on x
value_or_end (Err error) c = fails error c.variables

-- a step more, if one is left of so many
abbrev pub step_of : ℕ → Going → Flow Going
step_of zero c = fails StepLimit c.variables
step_of (suc n) c = goes_on (record c { steps = n })

abbrev pub count_step : Going → Flow Going
count_step c = step_of c.steps c

-- once the variables are these
abbrev pub with_variables : Going → List ValueTree → Going
with_variables c variables = record c { variables = variables }

-- an ask takes the first of these replies
abbrev pub takes : ℕ → ℕ → List ValueTree → List Outcome → Going → Flow (Outcome × Going)
takes callee procedure arguments [] c = asks callee procedure arguments c
takes callee procedure arguments (reply ∷ replies) c = goes_on (reply, record c { replies = replies; asks = c.asks + 1 })

-- no handler catches the error: one of the language is raised again
abbrev pub raise_again : {X : Type 0} → ℕ → List ValueTree → Flow X
raise_again error variables =
    if language.is_language_error error then ends (Raised error []) variables else fails Unhandled variables

-- a handler is for this error
abbrev pub catches : Option ℕ → ℕ → Bool
catches None error = true
catches (Some e) error = e == error

module _ (limit states : ℕ) where
  -- values that leave the execution together
  abbrev pub leave_together : List ExpressionTree → List ValueTree → Raising (List ValueTree)
  leave_together es variables =
      and_then (evaluate_all limit variables (expression_trees es)) (λ ts. if nat_le (size_of_values ts) limit then Ok ts else Err TooLong)

  -- a value is stored
  abbrev pub assign_value : CheckedPlace → (ValueTree → Raising ValueTree) → Going → Flow Going
  assign_value place change c = then_does (value_or_end (store_at limit states c.variables place change) c) (λ variables. goes_on (with_variables c variables))

  -- a step, in which what an expression gives changes what stands at a place
  abbrev pub stores : CheckedPlace → (Got → ValueTree → Raising ValueTree) → ExpressionTree → Going → Flow Going
  stores p change e c = then_does (count_step c) (λ d. then_does (value_or_end (evaluate limit d.variables e) d) (λ x. assign_value p (change x) d))

  -- the places are assigned in order, each after the one before it; where there are no places nothing is
  abbrev pub fill_places : List CheckedPlace → List ValueTree → Going → Flow Going
  fill_places (p ∷ ps) (t ∷ ts) c = then_does (assign_value p (stored_over (got_of t)) c) (fill_places ps ts)
  fill_places [] ts c = goes_on c
  fill_places (p ∷ ps) [] c = goes_on c

  -- a step, in which a condition is tested
  abbrev pub test_condition : ExpressionTree → Going → Flow (Bool × Going)
  test_condition e c = then_does (count_step c) (λ d. then_does (value_or_end (evaluate limit d.variables e) d) (λ x. goes_on (truth_of x, d)))

  -- a step, in which values leave
  abbrev pub left_with : List ExpressionTree → Going → Flow (List ValueTree × Going)
  left_with es c = then_does (count_step c) (λ d. then_does (value_or_end (leave_together es d.variables) d) (λ ts. goes_on (ts, d)))

  -- a step, in which another module is called
  abbrev pub make_call : ℕ → ℕ → List ExpressionTree → Going → Flow (Outcome × Going)
  make_call callee procedure es c =
      then_does (left_with es c) (λ x. if nat_lt x.1.asks most_asks then takes callee procedure x.0 x.1.replies x.1 else fails CallLimit x.1.variables)

  -- a loop, of which the condition is tested at most so often
  abbrev pub turns : ℕ → ExpressionTree → (Going → Flow Going) → Going → Flow Going
  turns zero e body c = fails StepLimit c.variables
  turns (suc n) e body c = then_does (test_condition e c) (λ x. if x.0 then then_does (body x.1) (turns n e body) else goes_on x.1)

  -- what a reply comes to, where errors are handled so
  abbrev pub after_reply : List CheckedPlace → (ℕ → List ValueTree → Going → Flow Going) → Outcome → Going → Flow Going
  after_reply places handled (Returned results) c = fill_places places results c
  after_reply places handled (Raised error values) c = handled error values c

  abbrev mutual
    pub does : StatementTree → Going → Flow Going
    does (assign p e) c = stores p stored_over e c
    does (append e p bound k) c = stores p (appended_over bound k) e c
    does (branch e ss others) c = then_does (test_condition e c) (λ x. if x.0 then does_all ss x.1 else does_all others x.1)
    does (repeat e body) c = turns (suc c.steps) e (does_all body) c
    does (call callee procedure es places handlers) c =
        then_does (make_call callee procedure es c) (λ x. after_reply places (handled handlers) x.0 x.1)
    does (give es) c = then_does (left_with es c) (λ x. ends (Returned x.0) x.1.variables)
    does (raise error es) c = then_does (left_with es c) (λ x. ends (Raised error x.0) x.1.variables)

    -- one after the other
    pub does_all : StatementTrees → Going → Flow Going
    does_all no_statements c = goes_on c
    does_all (more_statements s ss) c = then_does (does s c) (does_all ss)

    -- the first handler of the error serves
    pub handled : HandlerTrees → ℕ → List ValueTree → Going → Flow Going
    handled no_handlers error values c = raise_again error c.variables
    handled (more_handlers e places ss hs) error values c =
        if catches e error then then_does (fill_places places values c) (does_all ss) else handled hs error values c

  -- a flow as the turn that it is, which shows the state alone; a body that doesn't end raises
  abbrev pub turn_by : Flow Going → NextTurn
  turn_by (goes_on c) = next_turn.ends (Raised (language.number_of Unhandled) []) (take states c.variables)
  turn_by (ends outcome variables) = next_turn.ends outcome (take states variables)
  turn_by (asks callee procedure arguments c) = next_turn.asks callee procedure arguments (take states c.variables)

  -- an execution at its beginning
  abbrev pub beginning : List ValueTree → List ValueTree → List Outcome → Going
  beginning state others replies = record { variables = state ++ others; steps = most_steps; replies = replies; asks = 0 }

  -- what an execution with this body does next, by its state, its other variables at first, and the replies so far
  abbrev pub turn_of : StatementTrees → List ValueTree → List ValueTree → List Outcome → NextTurn
  turn_of body state others replies = turn_by (does_all body (beginning state others replies))
