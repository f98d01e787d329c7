-- When a thread may perform an order.
use Rattle.std.specs.Prelude.{ℕ, ◌≡◌, ◌≤◌, List, [], length, IsTrue, slice_index_or}
use Rattle.circus_value.specs.ExternalSize.{size_of_values}
use Rattle.circus_limits.specs.Limits.{most_bytes}
use Rattle.circus_model.specs.Lawful.{IsState, arguments_fit}
use Rattle.circus_model.specs.Behaviour.{Behaviour}
use Rattle.circus_model.specs.Agree.{IsAt}
use Rattle.circus_model.specs.Execution.{Thread, Order}

-- it has a state, a count and runs for each module, and each state is one that its module may have
pub record IsThread (program : List Behaviour) (t : Thread) : Type 0 where
  pub store_length : length t.store ≡ length program
  pub clock_length : length t.clock ≡ length program
  pub runs_length : length t.runs ≡ length program
  pub states : (place : ℕ) (b : Behaviour) → IsAt program place b → IsState b.declared (slice_index_or t.store place [])

-- the order names a module, a procedure of it and arguments that fit
pub record IsOrder (program : List Behaviour) (o : Order) : Type 0 where
  pub ordered : Behaviour
  pub there : IsAt program o.callee ordered
  pub fit : IsTrue (arguments_fit ordered.declared.procedures o.procedure o.arguments)
  pub within : size_of_values o.arguments ≤ most_bytes
