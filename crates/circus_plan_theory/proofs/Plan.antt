-- The modules of a plan: they agree, and they keep to the laws of modules.
use Rattle.std.proofs.Common.{ℕ, ◌≤◌, Bool, true, false, List, map, sym, subst, arith}
use Rattle.std.specs.Prelude.{◌==◌, if◌then◌else◌}
use Rattle.std.specs.List.{AllByRecursion}
use Rattle.circus_limits.specs.Limits.{limit_of, first_limit, most_bytes}
use Rattle.circus_model.specs.Agree.{Agree, AreModules}
use Rattle.circus_model.specs.Behaviour.{IsModule}
use Rattle.circus_idl.specs.Obeys.{Obeys}
use Rattle.circus_idl.specs.declared.interface.Interface.{Interface}
use Rattle.circus_check.specs.Meaning.{ModuleMeant}
use Rattle.circus_check.specs.Resolved.{module_as}
use Rattle.circus_check.specs.WellFormed as checked
use Rattle.circus_check.specs.WellFormed.{AreWellFormed}
use Rattle.circus_modules.specs.Signatures.{interface_numbers}
use Rattle.circus_modules.specs.Behaviours.{behaviour_of, program_of}
use Rattle.circus_config.specs.declared.plan.Plan.{Plan}
use Rattle.circus_config.specs.Program.{IsPlan}
use Rattle.circus_plan_modules.specs.Loaded.{behaviours_in}
use Rattle.circus_plan_modules.proofs.Places.{at_place, of_map}
use Rattle.circus_plan_theory.proofs.Abiding.{abides}
use Rattle.circus_plan_theory.proofs.Bodies.{are_bodies}
use Rattle.circus_modules.proofs.Agreeing.{modules_agree}
use Rattle.circus_modules.proofs.States.{zeros_fit_shapes, zeros_within}

-- ---- limits

limit_most : (format : ℕ) → limit_of format ≤ most_bytes
limit_most format = by_test (format == 1)
  where
    by_test : (b : Bool) → (if b then first_limit else most_bytes) ≤ most_bytes
    by_test true = omega arith
    by_test false = omega arith

limit_least : (format : ℕ) → first_limit ≤ limit_of format
limit_least format = by_test (format == 1)
  where
    by_test : (b : Bool) → first_limit ≤ (if b then first_limit else most_bytes)
    by_test true = omega arith
    by_test false = omega arith

-- ---- modules that are meant

module _ (limit : ℕ) (interfaces : List Interface) (modules : List ModuleMeant) (obey : AllByRecursion Obeys interfaces) (good : AreWellFormed interfaces modules) where
  module_keeps : first_limit ≤ limit → (n : ℕ) (m : ModuleMeant) → checked.IsAt modules n m → IsModule (behaviour_of limit interfaces (interface_numbers modules) m)
  module_keeps large n m at =
      let own = good.each n m at in
      abides limit interfaces (interface_numbers modules) m
      (record { fits = zeros_fit_shapes m.variables own.types; within = zeros_within m.variables limit own.small large })
      (are_bodies limit interfaces modules (at_place Obeys interfaces obey) m own.bodies)

  modules_keep : first_limit ≤ limit → AreModules (program_of limit interfaces modules)
  modules_keep large place b at =
      let o = of_map (behaviour_of limit interfaces (interface_numbers modules)) modules place b at in
      subst IsModule (sym o.is) (module_keeps large place o.item o.there)

-- ---- plans

pub plan_agrees : (plan : Plan) → IsPlan plan → Agree (behaviours_in plan)
plan_agrees plan is = modules_agree (limit_of plan.deployment.format) plan.checked.interfaces (map module_as plan.checked.modules) is.well_formed (limit_most plan.deployment.format)

pub plan_modules : (plan : Plan) → IsPlan plan → AreModules (behaviours_in plan)
plan_modules plan is = modules_keep (limit_of plan.deployment.format) plan.checked.interfaces (map module_as plan.checked.modules) is.obey is.well_formed (limit_least plan.deployment.format)
