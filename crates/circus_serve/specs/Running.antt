-- The plain run of a node over its events.
use Rattle.std.specs.Prelude.{◌≡◌, ℕ, ◌+◌, List, [], ◌∷◌, Ok}
use Rattle.circus_value.specs.ValueTree.{ValueTree}
use Rattle.circus_value.specs.declared.outcome.Outcome.{Outcome}
use Rattle.circus_model.specs.NextTurn.{NextTurn}
use Rattle.circus_model.specs.declared.signature.Signature.{Signature}
use Rattle.circus_member_rules.specs.declared.occurrence.Difference.{Difference}
use Rattle.circus_node.specs.declared.event.Event.{Event}
use Rattle.circus_node.specs.declared.event.Give.{Give}
use Rattle.circus_node.specs.declared.event.Outputs.{Outputs}
use Rattle.circus_node.specs.NodeState.{NodeState}
use Rattle.circus_node.specs.Step as step
use Rattle.circus_serve.specs.declared.happening.Happening.{Happening}
use Rattle.circus_serve.specs.declared.happening.Happening.TheVariants.{Booted, Stepped, Foreign}

module _ {M : Type 0} (declared : M → Signature) (turn : M → List ValueTree → ℕ → List ValueTree → List Outcome → NextTurn) where
  -- the event of this number leads a node to another, which gives just this, and replies differ just so
  pub record Leads (number : ℕ) (event : Event) (gives : List Give) (differences : List Difference) (n next : NodeState M) : Type 0 where
    pub outputs : Outputs
    pub is : step.step_node declared turn number event n ≡ Ok (next, outputs)
    pub gives_are : outputs.gives ≡ gives
    pub differences_are : outputs.differences ≡ differences

  -- the events in this, numbered from this one on, lead a node to another; a boot is none of them, and what is foreign is no
  -- event
  abbrev pub Lead : ℕ → List Happening → NodeState M → NodeState M → Type 0
  Lead number [] n last = last ≡ n
  Lead number (Booted gives ∷ others) n last = ⊥
  Lead number (Stepped event gives differences ∷ others) n last =
      (next : NodeState M) × Leads number event gives differences n next × Lead (number + 1) others next last
  Lead number (Foreign port bytes ∷ others) n last = Lead number others n last

  -- what happened to a node that booted so is its boot, and then a run of it that leads to the last one
  pub record IsRun (booted : NodeState M) (gives : List Give) (happened : List Happening) (last : NodeState M) : Type 0 where
    pub later : List Happening
    pub whole : happened ≡ Booted gives ∷ later
    pub lead : Lead 1 later booted last
