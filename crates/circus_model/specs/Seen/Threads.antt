-- The thread that a running one stands for, the order that it is given, and what its calls leave.
use Rattle.std.specs.Prelude.{ℕ, ◌≡◌, ◌<◌, List, [], ◌∷◌, Option, unwrap_or, map}
use Rattle.circus_value.specs.ValueTree.{ValueTree}
use Rattle.circus_value.specs.declared.outcome.Outcome.{Outcome}
use Rattle.circus_model.specs.declared.history.Ask.{Ask}
use Rattle.circus_model.specs.declared.alone.Thread.{Thread as Running}
use Rattle.circus_model.specs.declared.alone.Order.{Order as Given}
use Rattle.circus_model.specs.Behaviour.{Behaviour}
use Rattle.circus_model.specs.Execution.{Thread, Order, ask_of, reply_to_ask, perform}

-- each module's state, which is its first one where none is kept
abbrev pub states_of : List Behaviour → List (Option (List ValueTree)) → List (List ValueTree)
states_of [] states = []
states_of (b ∷ program) [] = []
states_of (b ∷ program) (state ∷ states) = unwrap_or state b.first ∷ states_of program states

abbrev pub thread_seen : List Behaviour → Running → Thread
thread_seen program t =
    record { store = states_of program t.states.items; clock = t.clock; runs = map (λ runs. runs.items) t.runs.items }

abbrev pub order_given : Given → Order
order_given o =
    record { root = o.root; path = o.path; callee = o.callee; procedure = o.procedure; arguments = o.arguments }

-- the thread has performed the order, and so ended
abbrev pub HasPerformed : List Behaviour → Running → Given → Running → Outcome → Type 0
HasPerformed program before o after outcome =
    (depth : ℕ) → o.callee < depth → perform program depth (thread_seen program before) (order_given o) ≡ record { thread = thread_seen program after; outcome = outcome }

-- the thread has answered the order, which was given in a state, and this is the ask
pub record HasAnswered (program : List Behaviour) (before : Running) (o : Given) (state : List ValueTree) (after : Running) (ask : Ask) : Type 0 where
  pub reply : (depth : ℕ) → o.callee < depth → reply_to_ask (perform program depth) (thread_seen program before) (order_given o) ≡ record { thread = thread_seen program after; outcome = ask.reply }
  pub made : ask ≡ ask_of (order_given o) state (thread_seen program before) (record { thread = thread_seen program after; outcome = ask.reply })
