-- The modules of a plan are those of its troupes.
use Rattle.std.proofs.Common.{◌≡◌, List, [], ◌∷◌, map, refl, sym, ap, subst}
use Rattle.circus_check.specs.Resolved.{module_as}
use Rattle.circus_model.specs.Agree.{Agree}
use Rattle.circus_model.specs.Behaviour.{Behaviour}
use Rattle.circus_config.specs.declared.plan.Plan.{Plan}
use Rattle.circus_config.specs.Program.{IsPlan}
use Rattle.circus_plan_modules.specs.Loaded.{behaviours_in}
use Rattle.circus_plan_modules.proofs.Fitting.{meant_of_troupes}
use Rattle.circus_node.specs.Booting.{AreOfTroupes}
use Rattle.circus_plan_theory.proofs.Plan.{plan_agrees}

map_same : {X : Type 0} (xs : List X) → map (λ x. x) xs ≡ xs
map_same [] = refl
map_same (x ∷ xs) = ap (λ l. x ∷ l) (map_same xs)

pub plan_of_troupes : (plan : Plan) → IsPlan plan → AreOfTroupes plan.deployment (map (λ (b : Behaviour). b.declared) (behaviours_in plan))
plan_of_troupes plan is =
    let same = map_same (behaviours_in plan) in
    meant_of_troupes (λ (b : Behaviour). b) (behaviours_in plan) plan.deployment plan.checked.interfaces (map module_as plan.checked.modules) is.obey is.well_formed is.roots same
    (subst Agree (sym same) (plan_agrees plan is))
