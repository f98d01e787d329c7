-- The nodes of a world by the slots that keep them.
use Rattle.std.specs.Prelude.{ℕ, List, [], ◌∷◌, Option, None, Some, IsSome, All}
use Rattle.circus_collate.specs.declared.deployment.Deployment.{Deployment}
use Rattle.circus_node.specs.NodeState.{NodeState}
use Rattle.circus_world.specs.Sent.{Sent}
use Rattle.circus_world.specs.declared.slot.Slot.{Slot}
use Rattle.circus_world.specs.WorldState.{WorldState, Standing}

-- a node that is in its slot
abbrev pub standing : {M P : Type 0} → NodeState M → Slot M P → Standing M
standing n slot = record { node = n; crashed = slot.crashed; joins = slot.joins }

-- before the others
abbrev pub before : {M P : Type 0} → Slot M P → Option (NodeState M) → List (Standing M) → List (Standing M)
before slot None others = others
before slot (Some n) others = standing n slot ∷ others

-- the nodes that are in their slots, in order
abbrev pub standings : {M P : Type 0} → List (Slot M P) → List (Standing M)
standings [] = []
standings (slot ∷ slots) = before slot slot.core (standings slots)

-- each slot has its node
abbrev pub AreFull : {M P : Type 0} → List (Slot M P) → Type 0
AreFull slots = All (λ slot. IsSome slot.core) slots

abbrev pub world_of : {M P : Type 0} → Deployment → List M → List (Slot M P) → List Sent → ℕ → WorldState M
world_of d modules slots sent steps =
    record { deployment = d; modules = modules; nodes = standings slots; sent = sent; steps = steps }
