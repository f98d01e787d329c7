-- The world of a plan at boot, by what its modules do.
use Rattle.std.proofs.Common.{◌≡◌, ℕ, suc, List, [], ◌∷◌, length, map, Option, None, Some, Ok, Err, refl, sym, ap, subst, ◌∙◌, arith}
use Rattle.std.specs.Prelude.{slice_get, option_map, option_and_then}
use Rattle.std.proofs.lemmas.Option.{slice_get-map}
use Rattle.circus_value.specs.ValueTree.{ValueTree}
use Rattle.circus_value.specs.declared.outcome.Outcome.{Outcome}
use Rattle.circus_collate.specs.declared.deployment.Host.{Host}
use Rattle.circus_collate.specs.declared.deployment.Deployment.{Deployment}
use Rattle.circus_model.specs.NextTurn.{NextTurn}
use Rattle.circus_model.specs.Behaviour.{Behaviour, behaviours}
use Rattle.circus_model.specs.declared.signature.Signature.{Signature}
use Rattle.circus_performing.specs.Record.{behaviour}
use Rattle.circus_node.specs.Alike.{declared_of, turn_of, first_of}
use Rattle.circus_world.specs.WorldState.{WorldState}
use Rattle.circus_world.specs.Boot.{before_any, all_booted, AreHosted}
use Rattle.circus_world.specs.Answers.{IsBooted}
use Rattle.circus_world.specs.declared.world.BootFault.{BootFault}
use Rattle.circus_world.specs.declared.world.BootFault.TheVariants as boot_fault
use Rattle.circus_world.specs.Alike.{world_as, step_as}
use Rattle.circus_world.proofs.WorldsAlike.{all_booted_as}
use Rattle.circus_config.specs.declared.plan.Plan.{Plan}
use Rattle.circus_plan_modules.specs.Loaded.{behaviours_in, hosted_by}
use Rattle.circus_simulation.specs.Booted.{boot_world}

module _ {M : Type 0} (declared : M → Signature) (turn : M → List ValueTree → ℕ → List ValueTree → List Outcome → NextTurn) (first : M → List ValueTree) where
  abbrev does : M → Behaviour
  does m = behaviour declared turn first m

  -- what a troupe's module does
  troupe_does : (modules : List M) (o : Option ℕ) → option_map does (option_and_then (slice_get modules) o) ≡ option_and_then (slice_get (map does modules)) o
  troupe_does modules None = refl
  troupe_does modules (Some number) = sym (slice_get-map does modules number)

  -- what each node's module does, where it does what that of the node's troupe does
  hosted_do : (modules : List M) (hosts : List Host) (hosted : List (Option M)) → length hosted ≡ length hosts
      → ((node : ℕ) (own : Option M) → slice_get hosted node ≡ Some own → option_map does own ≡ option_map does (option_and_then (slice_get modules) (option_and_then (λ (h : Host). h.module) (slice_get hosts node))))
      → map (option_map does) hosted ≡ map (hosted_by (map does modules)) hosts
  hosted_do modules [] [] all each = refl
  hosted_do modules [] (own ∷ hosted) all each = absurd (omega (arith, all))
  hosted_do modules (host ∷ hosts) [] all each = absurd (omega (arith, all))
  hosted_do modules (host ∷ hosts) (own ∷ hosted) all each =
      let here : option_map does own ≡ hosted_by (map does modules) host = each 0 own refl ∙ troupe_does modules host.module in
      let there = hosted_do modules hosts hosted (omega (arith, all)) (λ node own at. each (suc node) own at) in
      λ i. here i ∷ there i

  -- all nodes, as behaviours
  all_as : (d : Deployment) (modules : List M) (hosted : List (Option M)) → AreHosted declared turn first d modules hosted
      → step_as declared turn first (all_booted declared turn first hosted (before_any d modules))
      ≡ all_booted declared_of turn_of first_of (map (hosted_by (map does modules)) d.nodes) (before_any d (map does modules))
  all_as d modules hosted are =
      all_booted_as declared turn first hosted (before_any d modules)
      ∙ ap (λ l. all_booted declared_of turn_of first_of l (before_any d (map does modules))) (hosted_do modules d.nodes hosted are.one_each are.each)

  -- the world of a plan whose modules these are
  booted_as : (plan : Plan) (d : Deployment) (modules : List M) (hosted : List (Option M)) → d ≡ plan.deployment → behaviours declared turn first modules ≡ behaviours_in plan
      → AreHosted declared turn first d modules hosted → step_as declared turn first (all_booted declared turn first hosted (before_any d modules)) ≡ boot_world plan
  booted_as plan d modules hosted same behave are =
      all_as d modules hosted are
      ∙ (λ i. all_booted declared_of turn_of first_of (map (hosted_by (behave i)) (same i).nodes) (before_any (same i) (behave i)))

  pub world_booted : (plan : Plan) (d : Deployment) (modules : List M) (w : WorldState M) → d ≡ plan.deployment → behaviours declared turn first modules ≡ behaviours_in plan
      → IsBooted declared turn first d modules (Ok w) → boot_world plan ≡ Ok (world_as declared turn first w)
  world_booted plan d modules w same behave (hosted, are, is) = sym (booted_as plan d modules hosted same behave are) ∙ ap (step_as declared turn first) is

  pub none_booted : (plan : Plan) (d : Deployment) (modules : List M) (fault : BootFault) (node peer : ℕ) → d ≡ plan.deployment → behaviours declared turn first modules ≡ behaviours_in plan
      → fault ≡ boot_fault.Spent node peer → IsBooted declared turn first d modules (Err fault) → boot_world plan ≡ Err (node, peer)
  none_booted plan d modules fault node peer same behave fault_is booted_is = by_boot (subst (λ (f : BootFault). IsBooted declared turn first d modules (Err f)) fault_is booted_is)
    where
      by_boot : IsBooted declared turn first d modules (Err (boot_fault.Spent node peer)) → boot_world plan ≡ Err (node, peer)
      by_boot (hosted, are, is) = sym (booted_as plan d modules hosted same behave are) ∙ ap (step_as declared turn first) is
