-- The nodes of a plan host the modules of their troupes.
use Rattle.std.proofs.Common.{map, Option, sym, ◌∙◌, ap}
use Rattle.std.specs.Prelude.{slice_get, option_map, option_and_then}
use Rattle.std.proofs.lemmas.List.{length-map}
use Rattle.circus_collate.specs.declared.deployment.Host.{Host}
use Rattle.circus_model.specs.Behaviour.{Behaviour}
use Rattle.circus_performing.specs.Record.{behaviour}
use Rattle.circus_config.specs.declared.plan.Plan.{Plan}
use Rattle.circus_plan_modules.specs.Loaded.{behaviours_in, hosted_by}
use Rattle.circus_world.specs.Boot.{AreHosted}
use Rattle.circus_plan_modules.proofs.Places.{of_map}

pub plan_hosted : (plan : Plan) → AreHosted (λ (b : Behaviour). b.declared) (λ (b : Behaviour). b.turn) (λ (b : Behaviour). b.first) plan.deployment (behaviours_in plan) (map (hosted_by (behaviours_in plan)) plan.deployment.nodes)
plan_hosted plan = record {
  one_each = length-map plan.deployment.nodes (hosted_by (behaviours_in plan));
  each = λ node own at.
      let o = of_map (hosted_by (behaviours_in plan)) plan.deployment.nodes node own at in
      ap (option_map (behaviour (λ (b : Behaviour). b.declared) (λ (b : Behaviour). b.turn) (λ (b : Behaviour). b.first)))
      (o.is ∙ ap (λ (h : Option Host). option_and_then (slice_get (behaviours_in plan)) (option_and_then (λ (x : Host). x.module) h)) (sym o.there));
}
