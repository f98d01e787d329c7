use Rattle.std.proofs.Common.{◌≡◌, List, drop}
use Rattle.circus_value.specs.declared.outcome.Outcome.{Outcome}
use Rattle.circus_machine.specs.Meaning.{fill_places}
use Rattle.circus_machine.specs.Seen.Running.{Keeps, going_of}
use Rattle.circus_machine.proofs.execution.Execution.fill.Given as goal

-- the places that are left are filled with the values that are left
abbrev pub invariant-loop-place : goal.invariant-loop-place
invariant-loop-place l = record {
  keeps : Keeps l.fn.self l.self;
  number : l.number ≡ l.place-index;
  rest : (replies : List Outcome) → fill_places l.limit l.fn.self.variables.states (drop l.place-index l.places) (drop l.place-index l.values) (going_of l.self replies) ≡ fill_places l.limit l.fn.self.variables.states l.places l.values (going_of l.fn.self replies);
}
