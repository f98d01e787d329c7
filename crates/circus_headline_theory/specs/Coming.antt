-- What comes to a node along lines of a world, and that the node lives by itself through all of it.
use Rattle.std.specs.Prelude.{◌≡◌, ℕ, ◌<◌, List, [], ◌∷◌, length, All, Option, None, Some, Ok, slice_get}
use Rattle.circus_value.specs.ValueTree.{ValueTree}
use Rattle.circus_value.specs.declared.outcome.Outcome.{Outcome}
use Rattle.circus_collate.specs.declared.deployment.Deployment.{Deployment}
use Rattle.circus_model.specs.NextTurn.{NextTurn}
use Rattle.circus_model.specs.declared.signature.Signature.{Signature}
use Rattle.circus_member_rules.specs.declared.occurrence.Effect.{Effect}
use Rattle.circus_node.specs.Booting.{CanBoot}
use Rattle.circus_node.specs.Booting as booting
use Rattle.circus_node.specs.NodeState.{NodeState}
use Rattle.circus_node.specs.declared.event.Event.{Event}
use Rattle.circus_node.specs.declared.event.Outputs.{Outputs}
use Rattle.circus_schedule.specs.declared.line.Line.{Line}
use Rattle.circus_world.specs.Course as course
use Rattle.circus_world.specs.WorldState.{WorldState, Standing}
use Rattle.circus_world_theory.specs.NodeLives.{Events, Rising, Comes, IsLife}
use Rattle.circus_headline_theory.specs.Owed.Makes.{by_line, then_along}
use Rattle.circus_headline_theory.specs.Datagrams.Lives.{IsOfOther}
use Rattle.circus_node.specs.Trace.{booted}
use Rattle.circus_headline_theory.specs.Lived.{with_events}
use Rattle.circus_headline_theory.specs.Events.{events_for}
use Rattle.circus_headline_theory.specs.Sendings.{SentWhatWasGiven}

module _ {M : Type 0} (declared : M → Signature) (turn : M → List ValueTree → ℕ → List ValueTree → List Outcome → NextTurn) (node : ℕ) where
  abbrev pub comes_then : ℕ → Event → NodeState M → Events
  comes_then at event n = (at, event) ∷ []

  -- each with its step, as far as the lines are stepped
  abbrev pub events_along : List Line → WorldState M → Events
  events_along [] w = []
  events_along (line ∷ lines) w = then_along (by_line declared turn node comes_then line w) (events_along lines) (course.step_line declared turn line w)

-- all of it is of other nodes
abbrev pub AreOfOthers : Deployment → ℕ → Events → Type 0
AreOfOthers d node events = All (λ (e : ℕ × Event). IsOfOther d node e.1) events

module _ {M : Type 0} (declared : M → Signature) (turn : M → List ValueTree → ℕ → List ValueTree → List Outcome → NextTurn) (first : M → List ValueTree)
    (d : Deployment) where
  -- the Ringmaster's node boots, and then events come to it in rising steps, and lead to the last
  pub record IsRingLife (node : ℕ) (events : Events) (begun last : NodeState M) : Type 0 where
    pub can : CanBoot d node None
    pub outputs : Outputs
    pub boots : booting.boot_node declared turn first d None node ≡ Ok (begun, outputs)
    pub rising : Rising 0 events
    pub comes : Comes declared turn events begun last

  -- so does the node of a member
  abbrev pub Lives : ℕ → Option M → Events → NodeState M → NodeState M → Type 0
  Lives node (Some own) events begun last = IsLife declared turn first d own node events begun last
  Lives node None events begun last = IsRingLife node events begun last

  -- what it gave in the steps by what came to it, and at boot, is all that is from it
  abbrev pub NodesSendWhatTheyGive : List (Option M) → List Line → WorldState M → WorldState M → Type 0
  NodesSendWhatTheyGive hosted lines begun last =
      (node : ℕ) (own : Option M) (before after : Standing M) (made : List Effect) (outputs : Outputs) → slice_get hosted node ≡ Some own
      → slice_get begun.nodes node ≡ Some before → slice_get last.nodes node ≡ Some after → booting.boot_node declared turn first d own node ≡ Ok (before.node, outputs)
      → SentWhatWasGiven node last.sent (with_events declared turn (booted made outputs) (events_along declared turn node lines begun) before.node)

  -- each node, as it booted and as it is in the last world, with what it hosts
  abbrev pub NodesLive : List (Option M) → List Line → WorldState M → WorldState M → Type 0
  NodesLive hosted lines begun last =
      (node : ℕ) (own : Option M) (before after : Standing M) → slice_get hosted node ≡ Some own → slice_get begun.nodes node ≡ Some before
      → slice_get last.nodes node ≡ Some after
      → Lives node own (events_along declared turn node lines begun) before.node after.node × AreOfOthers d node (events_along declared turn node lines begun)

-- what the lines give to a node, by all that was sent in the end, came to it
abbrev pub NodesGetWhatLinesGive : {M : Type 0} → (M → Signature) → (M → List ValueTree → ℕ → List ValueTree → List Outcome → NextTurn) → Deployment → List Line
    → WorldState M → WorldState M → Type 0
NodesGetWhatLinesGive declared turn d lines begun last = (node : ℕ) → node < length d.nodes → events_along declared turn node lines begun ≡ events_for node last.sent lines
