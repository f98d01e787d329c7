-- The node of a plan at boot, by what its module does.
use Rattle.std.proofs.Common.{◌≡◌, ℕ, List, map, Option, None, Some, Ok, Err, refl, sym, ap, ◌∙◌}
use Rattle.std.specs.Prelude.{slice_get, option_map, option_and_then}
use Rattle.std.proofs.lemmas.Option.{slice_get-map}
use Rattle.circus_value.specs.ValueTree.{ValueTree}
use Rattle.circus_value.specs.declared.outcome.Outcome.{Outcome}
use Rattle.circus_collate.specs.declared.deployment.Host.{Host}
use Rattle.circus_collate.specs.declared.deployment.Deployment.{Deployment}
use Rattle.circus_model.specs.NextTurn.{NextTurn}
use Rattle.circus_model.specs.Behaviour.{Behaviour, behaviours}
use Rattle.circus_model.specs.declared.signature.Signature.{Signature}
use Rattle.circus_performing.specs.Record.{behaviour}
use Rattle.circus_node.specs.declared.event.Outputs.{Outputs}
use Rattle.circus_node.specs.declared.event.StepFault.TheVariants as fault
use Rattle.circus_node.specs.NodeState.{NodeState}
use Rattle.circus_node.specs.Booting.{IsHosted, IsBooted, boot_node}
use Rattle.circus_node.specs.Alike.{declared_of, turn_of, first_of, node_as, ended_as}
use Rattle.circus_node.proofs.NodesAlike.{node_booted_as}
use Rattle.circus_config.specs.declared.plan.Plan.{Plan}
use Rattle.circus_plan_modules.specs.Loaded.{behaviours_in, hosted_by}
use Rattle.circus_node_command.specs.NodeEnds.{booted_node}

module _ {M : Type 0} (declared : M → Signature) (turn : M → List ValueTree → ℕ → List ValueTree → List Outcome → NextTurn) (first : M → List ValueTree) where
  abbrev does : M → Behaviour
  does m = behaviour declared turn first m

  -- what the module of a node's troupe does
  hosted_does : (modules : List M) (o : Option Host)
      → option_map does (option_and_then (slice_get modules) (option_and_then (λ (h : Host). h.module) o)) ≡ option_and_then (hosted_by (map does modules)) o
  hosted_does modules None = refl
  hosted_does modules (Some host) = by_troupe host.module
    where
      by_troupe : (o : Option ℕ) → option_map does (option_and_then (slice_get modules) o) ≡ option_and_then (slice_get (map does modules)) o
      by_troupe None = refl
      by_troupe (Some number) = sym (slice_get-map does modules number)

  module _ (plan : Plan) (d : Deployment) (modules : List M) (node : ℕ) (same : d ≡ plan.deployment) (behave : behaviours declared turn first modules ≡ behaviours_in plan) where
    booted_as : (hosted : Option M) → IsHosted declared turn first d modules node hosted → ended_as declared turn first (boot_node declared turn first d hosted node) ≡ booted_node plan node
    booted_as hosted is =
        node_booted_as declared turn first d hosted node
        ∙ ap (λ h. boot_node declared_of turn_of first_of d h node) (is ∙ hosted_does modules (slice_get d.nodes node))
        ∙ (λ i. boot_node declared_of turn_of first_of (same i) (option_and_then (hosted_by (behave i)) (slice_get (same i).nodes node)) node)

    pub node_booted : (boot : NodeState M × Outputs) → IsBooted declared turn first d modules node (Ok boot) → booted_node plan node ≡ Ok (node_as declared turn first boot.0, boot.1)
    node_booted boot (hosted, are, is) = sym (booted_as hosted are) ∙ ap (ended_as declared turn first) is

    pub none_booted : (peer : ℕ) → IsBooted declared turn first d modules node (Err (fault.Spent peer)) → booted_node plan node ≡ Err peer
    none_booted peer (hosted, are, is) = sym (booted_as hosted are) ∙ ap (ended_as declared turn first) is
