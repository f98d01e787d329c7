use Rattle.std.proofs.Common.{◌≡◌, ◌+◌, ◌*◌, ◌-◌, List, length}
use Rattle.circus_value.specs.declared.outcome.Outcome.{Outcome}
use Rattle.circus_machine.specs.Meaning.{Going, Flow}
use Rattle.circus_machine.specs.Seen.Changing.{AreSized}
use Rattle.circus_machine.specs.Seen.Code.{Comes}
use Rattle.circus_machine.specs.Seen.Instructions.{acts_of}
use Rattle.circus_machine.specs.Seen.Running.{going_of}
use Rattle.circus_machine.proofs.run.run.Given as goal

-- whatever the execution would come to from the start, it comes to from here, whatever replies are left
abbrev pub invariant-loop-instruction : goal.invariant-loop-instruction
invariant-loop-instruction l = record {
  states : l.execution.variables.states ≡ l.fn.execution.variables.states;
  sized : AreSized l.execution.variables;
  comes : (flow : List Outcome → Flow Going) → ((replies : List Outcome) → Comes l.limit l.fn.execution.variables.states (acts_of l.code) (flow replies) l.fn.place (going_of l.fn.execution replies))
      → (replies : List Outcome) → Comes l.limit l.fn.execution.variables.states (acts_of l.code) (flow replies) l.place (going_of l.execution replies);
}

-- the steps that are left, and the way ahead
abbrev pub decreases-loop-instruction : goal.decreases-loop-instruction
decreases-loop-instruction l = l.execution.steps * (length l.code + 1) + (length l.code - l.place)
