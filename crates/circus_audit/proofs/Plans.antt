-- How many nodes and modules a plan has at most.
use Rattle.std.proofs.Common.{◌≡◌, ◌∙◌, ◌≤◌, ◌^◌, length, map, ap, sym, arith}
use Rattle.std.proofs.lemmas.List.{length-map}
use Rattle.circus_collate.specs.declared.deployment.Troupe.{Troupe}
use Rattle.circus_check.specs.Meaning.{ModuleMeant}
use Rattle.circus_check.specs.Resolved.{module_as}
use Rattle.circus_config.specs.declared.plan.Plan.{Plan}
use Rattle.circus_config.specs.Program.{IsPlan}

pub few_nodes : (plan : Plan) → IsPlan plan → length plan.deployment.nodes ≤ 2 ^ 16
few_nodes plan is = omega (arith, is.deployed.few_nodes)

pub few_names : (plan : Plan) → IsPlan plan → plan.names ≡ map (λ (m : ModuleMeant). m.name) (map module_as plan.checked.modules) → length plan.names ≤ 2 ^ 16
few_names plan is named =
    let modules = map module_as plan.checked.modules in
    let names : length plan.names ≡ length modules = ap length named ∙ length-map modules (λ (m : ModuleMeant). m.name) in
    let roots : length plan.deployment.troupes ≡ length modules =
    sym (length-map plan.deployment.troupes (λ (t : Troupe). t.root)) ∙ ap length is.roots ∙ length-map modules (λ (m : ModuleMeant). m.root) in
    omega (arith, names, roots, is.deployed.few_troupes)
