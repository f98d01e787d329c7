-- A world after a step of one of its nodes.
use Rattle.std.proofs.Common.{◌≡◌, ℕ, ◌+◌, ◌<◌, List, ◌++◌, length, map, set, get_or, Option, Some, Ok, Err, refl, sym, ap, subst, ◌∙◌, arith}
use Rattle.std.specs.Prelude.{slice_get}
use Rattle.std.specs.Option.{option_map_or}
use Rattle.circus_value.specs.ValueTree.{ValueTree}
use Rattle.circus_value.specs.declared.outcome.Outcome.{Outcome}
use Rattle.circus_collate.specs.declared.deployment.Deployment.{Deployment}
use Rattle.circus_model.specs.NextTurn.{NextTurn}
use Rattle.circus_model.specs.declared.signature.Signature.{Signature}
use Rattle.circus_node.specs.declared.event.Event.{Event}
use Rattle.circus_node.specs.declared.event.Give.{Give}
use Rattle.circus_node.specs.declared.event.StepFault.{StepFault}
use Rattle.circus_node.specs.declared.event.StepFault.TheVariants as fault
use Rattle.circus_node.specs.NodeState.{NodeState}
use Rattle.circus_node.specs.Step as node_step
use Rattle.circus_world.specs.Sent.{Sent}
use Rattle.circus_world.specs.declared.slot.Slot.{Slot}
use Rattle.circus_world.specs.declared.world.Loss.{Loss}
use Rattle.circus_world.specs.declared.world.Loss.TheVariants as loss
use Rattle.circus_world.specs.WorldState.{WorldState, Standing}
use Rattle.circus_world.specs.Course.{sent_by, Stepped, note_at, conclude_step, comes_to}
use Rattle.circus_world.specs.Seen.Slots.{standing, standings, AreFull, world_of}
use Rattle.circus_world.specs.Seen.Followed.{IsFollowed}
use Rattle.circus_world.specs.Seen.Made.{CanMake, IsMade}
use Rattle.circus_world.specs.Seen.MadeAt.{loss_of, IsMadeAt, HasMadeAt, IsSpentAt}
use Rattle.circus_world.proofs.SlotLemmas.{slot_at, length_full, get_full, set_full, still_full, full_at}

module _ {M P : Type 0} where
  -- a node of the world has a slot
  pub slot_below : (d : Deployment) (modules : List M) (slots : List (Slot M P)) (sent : List Sent) (steps : ℕ) (w : WorldState M) (node : ℕ)
      → world_of d modules slots sent steps ≡ w → AreFull slots → node < length w.nodes → node < length slots
  slot_below d modules slots sent steps w node is full below =
      omega (arith, length_full slots full, ap (λ (x : WorldState M). length x.nodes) is, below)

  -- and stands there
  pub slot_in : (d : Deployment) (modules : List M) (slots : List (Slot M P)) (sent : List Sent) (steps : ℕ) (w : WorldState M) (node place : ℕ) (slot : Slot M P)
      → world_of d modules slots sent steps ≡ w → AreFull slots → node < length w.nodes → place ≡ node → slot ≡ get_or slots place slot → slice_get slots place ≡ Some slot
  slot_in d modules slots sent steps w node place slot is full below same found =
      slot_at slots place slot (omega (arith, slot_below d modules slots sent steps w node is full below, same)) found

  -- something is noted of a node
  pub noted_full : (slots : List (Slot M P)) (node : ℕ) (slot next : Slot M P) → AreFull slots → slice_get slots node ≡ Some slot → next.core ≡ slot.core
      → AreFull (set slots node next)
  noted_full slots node slot next full at same =
      let core = full_at slots node slot full at in
      still_full slots node next core.0 full (same ∙ core.1)

  pub noted_is : (d : Deployment) (modules : List M) (slots : List (Slot M P)) (sent : List Sent) (steps node : ℕ) (slot next : Slot M P) (note : Standing M → Standing M)
      → AreFull slots → slice_get slots node ≡ Some slot → next.core ≡ slot.core → ((n : NodeState M) → standing n next ≡ note (standing n slot))
      → world_of d modules (set slots node next) sent steps ≡ note_at note node (world_of d modules slots sent steps)
  noted_is d modules slots sent steps node slot next note full at same is =
      let core = full_at slots node slot full at in
      let there = get_full slots node slot core.0 full at core.1 in
      ap (λ (l : List (Standing M)). record { deployment = d; modules = modules; nodes = l; sent = sent; steps = steps })
      (
      set_full slots node next core.0 full (same ∙ core.1)
      ∙ ap (λ s. set (standings slots) node s) (is core.0)
      ∙ sym (ap (λ (o : Option (Standing M)). option_map_or (λ s. set (standings slots) node (note s)) o (standings slots)) there)
      )

module _ {M P : Type 0} (declared : M → Signature) (turn : M → List ValueTree → ℕ → List ValueTree → List Outcome → NextTurn) where
  -- ---- a node makes a step

  pub made_full : (at node : ℕ) (event : Event) (old new : List (Slot M P)) (gives : List Give)
      → AreFull old → HasMadeAt declared turn at node event old new gives → AreFull new
  made_full at node event old new gives full h =
      subst (λ (l : List (Slot M P)). AreFull l) (sym h.new_is) (still_full old node h.next h.made.after full (ap (λ (x : Slot M P). x.core) h.made.new_is))

  -- a step of the node at a place that ends so is one after which the world is gone
  pub lost_at : (at node : ℕ) (event : Event) (old new : List (Slot M P)) (slot next : Slot M P) (f : StepFault)
      → slice_get old node ≡ Some slot → IsMade declared turn at event slot next (Err f) → IsMadeAt declared turn at node event old new (Err (loss_of node f))
  lost_at at node event old new slot next fault.NoMemory there made = tt
  lost_at at node event old new slot next (fault.Spent peer) there made =
      (refl, record { slot = slot; there = there; before = made.0; core = made.1; stepped_is = made.2 })

  comes_there : (d : Deployment) (modules : List M) (steps node : ℕ) (event : Event) (old : List (Slot M P)) (before : List Sent) (slot : Slot M P) (n : NodeState M)
      → AreFull old → slice_get old node ≡ Some slot → slot.core ≡ Some n
      → comes_to declared turn node event (world_of d modules old before steps)
      ≡ conclude_step node (standing n slot) (world_of d modules old before steps) (node_step.step_node declared turn (steps + 1) event n)
  comes_there d modules steps node event old before slot n full at core =
      let w : WorldState M = world_of d modules old before steps in
      let next : Standing M → Stepped M = λ s. conclude_step node s w (node_step.step_node declared turn (steps + 1) event s.node) in
      ap (λ (o : Option (Standing M)). option_map_or next o (Ok w)) (get_full old node slot n full at core)

  pub made_is : (d : Deployment) (modules : List M) (steps node : ℕ) (event : Event) (old new : List (Slot M P)) (gives : List Give) (before after : List Sent)
      → AreFull old → HasMadeAt declared turn (steps + 1) node event old new gives → after ≡ before ++ map (sent_by (steps + 1) node) gives
      → comes_to declared turn node event (world_of d modules old before steps) ≡ Ok (world_of d modules new after (steps + 1))
  made_is d modules steps node event old new gives before after full h after_is =
      let made = h.made in
      let s : Standing M = standing made.before h.slot in
      let w : WorldState M = world_of d modules old before steps in
      let slots : standings new ≡ set (standings old) node (record s { node = made.after }) =
      ap standings h.new_is
      ∙ set_full old node h.next made.after full (ap (λ (x : Slot M P). x.core) made.new_is)
      ∙ ap (λ (x : Slot M P). set (standings old) node (standing made.after x)) made.new_is in
      let given : after ≡ before ++ map (sent_by (steps + 1) node) made.outputs.gives =
      after_is ∙ ap (λ g. before ++ map (sent_by (steps + 1) node) g) made.gives_are in
      let whole : List (Standing M) → List Sent → Stepped M =
      λ l m. Ok (record { deployment = d; modules = modules; nodes = l; sent = m; steps = steps + 1 }) in
      comes_there d modules steps node event old before h.slot made.before full h.there made.core
      ∙ ap (λ e. conclude_step node s w e) made.stepped_is
      ∙ sym (ap (λ l. whole l after) slots ∙ ap (λ m. whole (set (standings old) node (record s { node = made.after })) m) given)

  pub spent_is : (d : Deployment) (modules : List M) (steps node : ℕ) (event : Event) (old : List (Slot M P)) (before : List Sent) (peer : ℕ)
      → AreFull old → IsSpentAt declared turn (steps + 1) node event old peer
      → comes_to declared turn node event (world_of d modules old before steps) ≡ Err (node, peer)
  spent_is d modules steps node event old before peer full h =
      comes_there d modules steps node event old before h.slot h.before full h.there h.core
      ∙ ap (λ e. conclude_step node (standing h.before h.slot) (world_of d modules old before steps) e) h.stepped_is

  -- what can come to a node can come to it in its slot
  pub can_make : (d : Deployment) (modules : List M) (steps node : ℕ) (event : Event) (old : List (Slot M P)) (before : List Sent)
      → AreFull old → ((s : Standing M) → slice_get (standings old) node ≡ Some s → node_step.CanCome s.node event)
      → (slot : Slot M P) → slice_get old node ≡ Some slot → CanMake event slot
  can_make d modules steps node event old before full can slot at =
      let core = full_at old node slot full at in
      record { node = core.0; core = core.1; can = can _ (get_full old node slot core.0 full at core.1) }

  pub fault_followed : (d : Deployment) (modules : List M) (steps node : ℕ) (event : Event) (old new : List (Slot M P)) (before : List Sent) (fault : Loss)
      → AreFull old → IsMadeAt declared turn (steps + 1) node event old new (Err fault)
      → IsFollowed (Err fault) (comes_to declared turn node event (world_of d modules old before steps))
  fault_followed d modules steps node event old new before (loss.Spent spent peer) full is =
      spent_is d modules steps node event old before peer full is.1 ∙ ap (λ (k : ℕ). Err (k, peer)) (sym is.0)
  fault_followed d modules steps node event old new before loss.NoMemory full is = tt
