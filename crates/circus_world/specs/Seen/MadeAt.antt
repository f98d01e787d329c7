-- What the nodes of a world do in their slots, and what is sent by it.
use Rattle.std.specs.Prelude.{◌≡◌, ℕ, false, List, [], ◌∷◌, ◌++◌, map, slice_get, slice_set, Option, None, Some, Result, Ok, Err}
use Rattle.circus_value.specs.ValueTree.{ValueTree}
use Rattle.circus_value.specs.declared.outcome.Outcome.{Outcome}
use Rattle.circus_collate.specs.declared.deployment.Deployment.{Deployment}
use Rattle.circus_model.specs.NextTurn.{NextTurn}
use Rattle.circus_model.specs.declared.signature.Signature.{Signature}
use Rattle.circus_node.specs.declared.event.Event.{Event}
use Rattle.circus_node.specs.declared.event.Give.{Give}
use Rattle.circus_node.specs.declared.event.Outputs.{Outputs}
use Rattle.circus_node.specs.declared.event.StepFault.{StepFault}
use Rattle.circus_node.specs.declared.event.StepFault.TheVariants as fault
use Rattle.circus_node.specs.NodeState.{NodeState}
use Rattle.circus_node.specs.Step.{step_node}
use Rattle.circus_node.specs.Booting.{boot_node, IsHosted}
use Rattle.circus_world.specs.Sent.{Sent}
use Rattle.circus_world.specs.declared.slot.Slot.{Slot}
use Rattle.circus_world.specs.declared.world.BootFault.{BootFault}
use Rattle.circus_world.specs.declared.world.BootFault.TheVariants as boot_fault
use Rattle.circus_world.specs.declared.world.Loss.{Loss}
use Rattle.circus_world.specs.declared.world.Loss.TheVariants as loss
use Rattle.circus_world.specs.Course.{sent_by}
use Rattle.circus_world.specs.Boot.{before_any, all_booted, AreHosted}
use Rattle.circus_world.specs.Seen.Slots.{AreFull, world_of}
use Rattle.circus_world.specs.Seen.Made.{HasMade}

-- why the world is gone where the step of a node ended so
abbrev pub loss_of : ℕ → StepFault → Loss
loss_of node fault.NoMemory = loss.NoMemory
loss_of node (fault.Spent peer) = loss.Spent node peer

module _ {M P : Type 0} (declared : M → Signature) (turn : M → List ValueTree → ℕ → List ValueTree → List Outcome → NextTurn) where
  -- the node at a place has made a step
  pub record HasMadeAt (at node : ℕ) (event : Event) (old new : List (Slot M P)) (gives : List Give) : Type 0 where
    pub slot : Slot M P
    pub there : slice_get old node ≡ Some slot
    pub next : Slot M P
    pub made : HasMade declared turn at event slot next gives
    pub new_is : new ≡ slice_set old node next

  -- the node at a place has no number left for another one
  pub record IsSpentAt (at node : ℕ) (event : Event) (old : List (Slot M P)) (peer : ℕ) : Type 0 where
    pub slot : Slot M P
    pub there : slice_get old node ≡ Some slot
    pub before : NodeState M
    pub core : slot.core ≡ Some before
    pub stepped_is : step_node declared turn at event before ≡ Err peer

  abbrev pub IsMadeAt : ℕ → ℕ → Event → List (Slot M P) → List (Slot M P) → Result (List Give) Loss → Type 0
  IsMadeAt at node event old new (Ok gives) = HasMadeAt at node event old new gives
  IsMadeAt at node event old new (Err (loss.Spent spent peer)) = (spent ≡ node) × IsSpentAt at node event old peer
  IsMadeAt at node event old new (Err loss.NoMemory) = Unit {0}

module _ {M : Type 0} (declared : M → Signature) (turn : M → List ValueTree → ℕ → List ValueTree → List Outcome → NextTurn) (first : M → List ValueTree) where
  -- a node that boots has no number left for another one
  pub record IsSpentAtBoot (d : Deployment) (modules : List M) (node peer : ℕ) : Type 0 where
    pub own : Option M
    pub hosts : IsHosted declared turn first d modules node own
    pub booted_is : boot_node declared turn first d own node ≡ Err peer

  -- when all nodes boot, one has no number left for another one
  pub record IsSpent (d : Deployment) (modules : List M) (node peer : ℕ) : Type 0 where
    pub hosted : List (Option M)
    pub hosts : AreHosted declared turn first d modules hosted
    pub booted_is : all_booted declared turn first hosted (before_any d modules) ≡ Err (node, peer)

module _ {M P : Type 0} (declared : M → Signature) (turn : M → List ValueTree → ℕ → List ValueTree → List Outcome → NextTurn) (first : M → List ValueTree) where
  -- a node has booted behind those before it
  pub record HasBootedAt (d : Deployment) (modules : List M) (node : ℕ) (old : List (Slot M P)) (before : List Sent) (new : List (Slot M P)) (after : List Sent) : Type 0 where
    pub own : Option M
    pub hosts : IsHosted declared turn first d modules node own
    pub core : NodeState M
    pub outputs : Outputs
    pub booted_is : boot_node declared turn first d own node ≡ Ok (core, outputs)
    pub new_is : new ≡ old ++ record { core = Some core; crashed = None; joins = false } ∷ []
    pub after_is : after ≡ before ++ map (sent_by 0 node) outputs.gives

  abbrev pub IsBootedAt : Deployment → List M → ℕ → List (Slot M P) → List Sent → List (Slot M P) → List Sent → Result (Unit {0}) BootFault → Type 0
  IsBootedAt d modules node old before new after (Ok done) = HasBootedAt d modules node old before new after
  IsBootedAt d modules node old before new after (Err (boot_fault.Spent spent peer)) = (spent ≡ node) × IsSpentAtBoot declared turn first d modules node peer
  IsBootedAt d modules node old before new after (Err boot_fault.NoMemory) = Unit {0}

  -- all nodes have booted
  pub record HaveBooted (d : Deployment) (modules : List M) (slots : List (Slot M P)) (sent : List Sent) : Type 0 where
    pub hosted : List (Option M)
    pub hosts : AreHosted declared turn first d modules hosted
    pub booted_is : all_booted declared turn first hosted (before_any d modules) ≡ Ok (world_of d modules slots sent 0)
    pub full : AreFull slots

  abbrev pub AreBooted : Deployment → List M → List (Slot M P) → List Sent → Result (Unit {0}) BootFault → Type 0
  AreBooted d modules slots sent (Ok done) = HaveBooted d modules slots sent
  AreBooted d modules slots sent (Err (boot_fault.Spent node peer)) = IsSpent declared turn first d modules node peer
  AreBooted d modules slots sent (Err boot_fault.NoMemory) = Unit {0}
