-- A step of a node in its slot.
use Rattle.std.specs.Prelude.{◌≡◌, ℕ, List, Some, Result, Ok, Err}
use Rattle.circus_value.specs.ValueTree.{ValueTree}
use Rattle.circus_value.specs.declared.outcome.Outcome.{Outcome}
use Rattle.circus_model.specs.NextTurn.{NextTurn}
use Rattle.circus_model.specs.declared.signature.Signature.{Signature}
use Rattle.circus_node.specs.declared.event.Event.{Event}
use Rattle.circus_node.specs.declared.event.Give.{Give}
use Rattle.circus_node.specs.declared.event.Outputs.{Outputs}
use Rattle.circus_node.specs.declared.event.StepFault.{StepFault}
use Rattle.circus_node.specs.declared.event.StepFault.TheVariants as fault
use Rattle.circus_node.specs.NodeState.{NodeState}
use Rattle.circus_node.specs.Step.{CanCome, step_node}
use Rattle.circus_world.specs.declared.slot.Slot.{Slot}

module _ {M P : Type 0} where
  -- the node is there, and this can come to it
  pub record CanMake (event : Event) (slot : Slot M P) : Type 0 where
    pub node : NodeState M
    pub core : slot.core ≡ Some node
    pub can : CanCome node event

module _ {M P : Type 0} (declared : M → Signature) (turn : M → List ValueTree → ℕ → List ValueTree → List Outcome → NextTurn) where
  pub record HasMade (at : ℕ) (event : Event) (old new : Slot M P) (gives : List Give) : Type 0 where
    pub before : NodeState M
    pub core : old.core ≡ Some before
    pub after : NodeState M
    pub outputs : Outputs
    pub stepped_is : step_node declared turn at event before ≡ Ok (after, outputs)
    pub new_is : new ≡ record old { core = Some after }
    pub gives_are : gives ≡ outputs.gives

  abbrev pub IsMade : ℕ → Event → Slot M P → Slot M P → Result (List Give) StepFault → Type 0
  IsMade at event old new (Ok gives) = HasMade at event old new gives
  IsMade at event old new (Err (fault.Spent peer)) = (before : NodeState M) × (old.core ≡ Some before) × (step_node declared turn at event before ≡ Err peer)
  IsMade at event old new (Err fault.NoMemory) = Unit {0}
