-- What a node makes in a step, and that all of it is handed to its pairs.
use Rattle.std.specs.Prelude.{◌≡◌, ℕ, ◌+◌, ◌⊎◌, List, ◌∷◌, ◌++◌, map, Contains, Option, Some, slice_get, option_and_then}
use Rattle.std.specs.List.{flat_map}
use Rattle.circus_value.specs.ValueTree.{ValueTree}
use Rattle.circus_value.specs.declared.outcome.Outcome.{Outcome}
use Rattle.circus_collate.specs.declared.deployment.Deployment.{Deployment}
use Rattle.circus_model.specs.NextTurn.{NextTurn}
use Rattle.circus_model.specs.declared.signature.Signature.{Signature}
use Rattle.circus_wire.specs.WireActs.{WireAct, CallTo, AnswerTo, purpose_of}
use Rattle.circus_wire.specs.WireStanding.{pair_of}
use Rattle.circus_member_rules.specs.declared.occurrence.Purpose.{Purpose}
use Rattle.circus_member_rules.specs.declared.occurrence.Effect.{Effect}
use Rattle.circus_member_rules.specs.declared.occurrence.Effect.TheVariants as makes
use Rattle.circus_node.specs.declared.event.Event.{Event}
use Rattle.circus_node.specs.NodeState.{NodeState}
use Rattle.circus_node.specs.Booting.{home_of, made_at_boot}
use Rattle.circus_schedule.specs.declared.line.Line.{Line}
use Rattle.circus_world.specs.WorldState.{WorldState, Standing}
use Rattle.circus_world.specs.Lines.{Lead}
use Rattle.circus_world_theory.specs.NodeActs.{handed_by, wire_behind}
use Rattle.circus_node.specs.Trace.{effects_in}
use Rattle.circus_world_theory.specs.Histories.{beginning_of, comes_by, acts_of}

-- what an effect is at the pairs
abbrev pub act_of : Effect → WireAct Purpose
act_of (makes.Call to message purpose) = CallTo to message purpose
act_of (makes.Answer caller message) = AnswerTo caller message

module _ {M : Type 0} (declared : M → Signature)
    (turn : M → List ValueTree → ℕ → List ValueTree → List Outcome → NextTurn) where
  -- each call and each return that a node makes in a step is handed to a pair, in their order
  abbrev pub HandsAll : ℕ → Event → NodeState M → Type 0
  HandsAll at event n =
      flat_map (handed_by (wire_behind event n)) (effects_in declared turn at event n)
      ≡ map act_of (effects_in declared turn at event n)

  -- a node steps by one of the lines, in the world to which those before it lead
  pub record StepOf (node : ℕ) (lines : List Line) (w : WorldState M) : Type 0 where
    pub before : List Line
    pub line : Line
    pub behind : List Line
    pub lines_are : lines ≡ before ++ line ∷ behind
    pub world : WorldState M
    pub lead : Lead declared turn before w world
    pub event : Event
    pub standing : Standing M
    pub comes_it : comes_by line world ≡ Some (node, event)
    pub there : slice_get world.nodes node ≡ Some standing

  -- it has made this in such a step
  pub record WasMade (node : ℕ) (lines : List Line) (w : WorldState M) (e : Effect) : Type 0 where
    pub step : StepOf node lines w
    pub made_it : Contains
        (effects_in declared turn (step.world.steps + 1) step.event step.standing.node) e

module _ {M : Type 0} (declared : M → Signature)
    (turn : M → List ValueTree → ℕ → List ValueTree → List Outcome → NextTurn)
    (first : M → List ValueTree) (d : Deployment) (hosted : List (Option M)) where
  -- a node has made this at boot
  abbrev pub WasMadeAtBoot : ℕ → Effect → Type 0
  WasMadeAtBoot node e =
      let own = option_and_then (λ own. own) (slice_get hosted node) in
      Contains (made_at_boot declared turn first d (home_of d node) own).came.effects e

  -- or since then
  abbrev pub WasMadeAtAll : ℕ → List Line → WorldState M → Effect → Type 0
  WasMadeAtAll node lines booted e =
      WasMadeAtBoot node e ⊎ WasMade declared turn node lines booted e

  -- a call that was handed over was made by its node, for the purpose that its number has there
  pub record CallWasMade (node other number : ℕ) (message : List ℕ) (lines : List Line)
      (booted : WorldState M) : Type 0 where
    pub purpose : Purpose
    pub is_for : purpose_of (pair_of (beginning_of d node)) other
        (acts_of declared turn first d hosted lines booted node) number ≡ Some purpose
    pub made_it : WasMadeAtAll node lines booted (makes.Call other message purpose)
