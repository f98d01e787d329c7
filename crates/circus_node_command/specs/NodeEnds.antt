-- What serving a node of a plan comes to.
use Rattle.std.specs.Prelude.{ℕ, ◌≡◌, ◌⊎◌, List, codes, slice_get, option_and_then, Ok, Err}
use Rattle.circus_value.specs.ValueTree.{ValueTree}
use Rattle.circus_value.specs.declared.outcome.Outcome.{Outcome}
use Rattle.circus_collate.specs.declared.deployment.Deployment.{Deployment}
use Rattle.circus_model.specs.NextTurn.{NextTurn}
use Rattle.circus_model.specs.Behaviour.{Behaviour}
use Rattle.circus_model.specs.declared.signature.Signature.{Signature}
use Rattle.circus_record.specs.Line.{line}
use Rattle.circus_record.specs.Naming.{Names, names_of}
use Rattle.circus_config.specs.declared.plan.Plan.{Plan}
use Rattle.circus_plan_modules.specs.Loaded.{behaviours_in, hosted_by}
use Rattle.circus_node.specs.declared.event.Outputs.{Outputs}
use Rattle.circus_node.specs.declared.event.Give.{Give}
use Rattle.circus_node.specs.NodeState.{NodeState}
use Rattle.circus_node.specs.Step.{Ended}
use Rattle.circus_node.specs.Booting as booting
use Rattle.circus_serve.specs.Outside.{Tells}
use Rattle.circus_serve.specs.Recorded.{Recorded}
use Rattle.circus_serve.specs.Answers.{IsServed, IsSpent, HasBindFailed, HasTakeFailed, HasGiveFailed}
use Rattle.circus_serve.specs.NodeText.{node_text}
use Rattle.circus_commands.specs.declared.status.Status.TheVariants.{Done, LinkFault}
use Rattle.circus_commands.specs.Ending.{Ending}
use Rattle.circus_commands.specs.Spent.{end_of_spent}

-- the node at boot, by what its module does
abbrev pub booted_node : Plan → ℕ → Ended Behaviour
booted_node plan node =
    booting.boot_node (λ b. b.declared) (λ b. b.turn) (λ b. b.first) plan.deployment
    (option_and_then (hosted_by (behaviours_in plan)) (slice_get plan.deployment.nodes node)) node

-- the link failed
abbrev pub link_fault : Ending
link_fault = record { status = LinkFault; text = line (codes "link fault") }

-- all takes were made, and this is the record
abbrev pub done_end : {M : Type 0} → Names → Deployment → ℕ → Recorded M → Ending
done_end names d node recorded = record { status = Done; text = node_text names d node recorded }

module _ {M : Type 0} (declared : M → Signature) (turn : M → List ValueTree → ℕ → List ValueTree → List Outcome → NextTurn) where
  module _ (names : Names) (d : Deployment) (node turns : ℕ) (old new : Tells) (booted : NodeState M) (gives : List Give) where
    -- the record of all takes
    abbrev IsDone : Ending → Type 0
    IsDone ending =
        (recorded : Recorded M) × IsServed declared turn d node booted gives turns old new recorded × (ending ≡ done_end names d node recorded)

    -- no number is left for another node in a step
    abbrev IsSpentServing : Ending → Type 0
    IsSpentServing ending = (peer : ℕ) × IsSpent declared turn d node booted gives turns old new peer × (ending ≡ end_of_spent names (node, peer))

    -- the link failed in bind, in a take or in a give
    abbrev HasLinkFailed : Ending → Type 0
    HasLinkFailed ending =
        (HasBindFailed declared turn d node booted gives old new
        ⊎ (HasTakeFailed declared turn d node booted gives turns old new ⊎ HasGiveFailed declared turn d node booted gives turns old new))
        × (ending ≡ link_fault)

    -- the end of a node that booted so
    abbrev pub IsEndOfBooted : Ending → Type 0
    IsEndOfBooted ending = IsDone ending ⊎ (IsSpentServing ending ⊎ HasLinkFailed ending)

-- the end, by what the node came to at boot; the link is not asked where no number is left then
abbrev pub IsEndOfServing : Plan → ℕ → ℕ → Tells → Tells → Ending → Type 0
IsEndOfServing plan node turns old new ending =
    ((boot : NodeState Behaviour × Outputs) × (booted_node plan node ≡ Ok boot)
    × IsEndOfBooted (λ b. b.declared) (λ b. b.turn) (names_of plan.deployment.nodes plan.names) plan.deployment node turns old new
    boot.0 boot.1.gives ending)
    ⊎ ((peer : ℕ) × (booted_node plan node ≡ Err peer) × (new ≡ old)
    × (ending ≡ end_of_spent (names_of plan.deployment.nodes plan.names) (node, peer)))
