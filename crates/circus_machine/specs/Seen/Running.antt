-- An execution of the code, as the language means it.
use Rattle.std.specs.Prelude.{◌≡◌, ℕ, ◌+◌, ◌<◌, ◌⊎◌, Bool, true, false, IsTrue, List, [], ◌∷◌, Option, Some, Result, Ok, Err, slice_get}
use Rattle.circus_value.specs.ValueTree.{ValueTree}
use Rattle.circus_value.specs.declared.outcome.Outcome.{Outcome}
use Rattle.circus_checked.specs.declared.expression.CheckedPlace.{CheckedPlace}
use Rattle.circus_checked.specs.ExpressionTree.{ExpressionTree}
use Rattle.circus_machine.specs.Meaning.{Going, Flow, goes_on, ends, asks, fails, make_call, takes}
use Rattle.circus_machine.specs.Seen.Code.{Act, Catch, ask, reply_place, act, Follows}
use Rattle.circus_machine.specs.Seen.Changing.{AreSized}
use Rattle.circus_evaluate.specs.declared.got.NoValue.{NoValue}
use Rattle.circus_evaluate.specs.declared.got.NoValue.TheVariants.{Raises, NoMemory}
use Rattle.circus_machine.specs.declared.execution.Execution.{Execution}
use Rattle.circus_machine.specs.declared.execution.Move.{Move}
use Rattle.circus_machine.specs.declared.execution.Move.TheVariants.{Goes, Ends, Asks}
use Rattle.circus_machine.specs.declared.run.Paused.{Paused}

-- the execution, with these replies left
abbrev pub going_of : Execution → List Outcome → Going
going_of e replies = record { variables = e.variables.values; steps = e.steps; replies = replies; asks = e.asks }

-- the execution may go on
pub record Keeps (old new : Execution) : Type 0 where
  pub states : new.variables.states ≡ old.variables.states
  pub sized : AreSized new.variables

-- whatever replies are left, a part of the language does what was done
abbrev pub Does : {A X : Type 0} → (A → Going → X) → (Going → Flow X) → Result A NoValue → Execution → Execution → Type 0
Does view part (Ok a) old new = Keeps old new × ((replies : List Outcome) → part (going_of old replies) ≡ goes_on (view a (going_of new replies)))
Does view part (Err (Raises error)) old new =
    (new.variables.states ≡ old.variables.states) × ((replies : List Outcome) → part (going_of old replies) ≡ fails error new.variables.values)
Does view part (Err NoMemory) old new = Unit {0}

-- it goes on with fewer steps left, or ahead
abbrev pub GoesAhead : ℕ → Result Move NoValue → Execution → Execution → Type 0
GoesAhead at (Ok (Goes next)) old new = (new.steps < old.steps) ⊎ ((new.steps ≡ old.steps) × (at < next))
GoesAhead at (Ok (Ends outcome)) old new = Unit {0}
GoesAhead at (Ok (Asks callee procedure arguments)) old new = Unit {0}
GoesAhead at (Err stop) old new = Unit {0}

-- a part that gives nothing, and one that gives something beside the execution
abbrev pub nothing : {A : Type 0} → A → Going → Going
nothing a c = c

abbrev pub beside : {A : Type 0} → A → Going → A × Going
beside a c = (a, c)

module _ (limit states : ℕ) where
  -- the machine asks where no reply is left, and else goes on with the first one
  pub record IsAsking (a : Act) (at callee procedure : ℕ) (arguments : List ValueTree) (old new : Execution) : Type 0 where
    -- the instruction
    pub expressions : List ExpressionTree
    pub into : List CheckedPlace
    pub table : List Catch
    pub skip : ℕ
    pub is : a ≡ ask callee procedure expressions into table skip
    -- the execution as it asks
    pub before : Going
    pub asks : act limit states a at (going_of old []) ≡ asks callee procedure arguments before
    pub shows : before.variables ≡ new.variables.values
    pub goes : (reply : Outcome) (replies : List Outcome) → act limit states a at (going_of old (reply ∷ replies)) ≡ reply_place limit states at into table skip reply (going_of new replies)

  -- values with which a module is asked, where an ask is left
  abbrev pub HasAsked : List ExpressionTree → Result (List ValueTree) NoValue → Execution → Execution → Type 0
  HasAsked es (Ok arguments) old new =
      Keeps old new × (before : ℕ) × (new.asks ≡ before + 1) × ((callee procedure : ℕ) (replies : List Outcome) →
      make_call limit states callee procedure es (going_of old replies) ≡ takes callee procedure arguments replies (record (going_of new replies) { asks = before }))
  HasAsked es (Err (Raises error)) old new =
      (new.variables.states ≡ old.variables.states) × ((callee procedure : ℕ) (replies : List Outcome) →
      make_call limit states callee procedure es (going_of old replies) ≡ fails error new.variables.values)
  HasAsked es (Err NoMemory) old new = Unit {0}

  -- what the machine does at an instruction
  abbrev pub Moves : Act → ℕ → Result Move NoValue → Execution → Execution → Type 0
  Moves a at (Ok (Goes next)) old new = Keeps old new × ((replies : List Outcome) → act limit states a at (going_of old replies) ≡ goes_on (next, going_of new replies))
  Moves a at (Ok (Ends outcome)) old new =
      (new.variables.states ≡ old.variables.states) × ((replies : List Outcome) → act limit states a at (going_of old replies) ≡ ends outcome new.variables.values)
  Moves a at (Ok (Asks callee procedure arguments)) old new = Keeps old new × IsAsking a at callee procedure arguments old new
  Moves a at (Err (Raises error)) old new =
      (new.variables.states ≡ old.variables.states) × ((replies : List Outcome) → act limit states a at (going_of old replies) ≡ fails error new.variables.values)
  Moves a at (Err NoMemory) old new = Unit {0}

  -- a paused execution stands at an ask, and comes to this flow by the replies that are left, whatever they are
  pub record Awaits (code : List Act) (flow : List Outcome → Flow Going) (paused : Paused) : Type 0 where
    pub callee : ℕ
    pub procedure : ℕ
    pub expressions : List ExpressionTree
    pub into : List CheckedPlace
    pub table : List Catch
    pub skip : ℕ
    pub stands : slice_get code paused.place ≡ Some (ask callee procedure expressions into table skip)
    pub kept : paused.execution.variables.states ≡ states
    pub sized : AreSized paused.execution.variables
    pub goes : (reply : Outcome) (replies : List Outcome) → Follows limit states code (flow (reply ∷ replies)) (reply_place limit states paused.place into table skip reply (going_of paused.execution replies))

-- the instruction at a place asks
abbrev pub is_ask : Option Act → Bool
is_ask (Some (ask callee procedure expressions into table skip)) = true
is_ask _ = false

abbrev pub StandsAtAsk : List Act → ℕ → Type 0
StandsAtAsk code place = IsTrue (is_ask (slice_get code place))
