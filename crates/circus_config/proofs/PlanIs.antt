-- A text that means a plan means one that obeys its rules as a whole.
use Rattle.std.proofs.Common.{◌≡◌, ℕ, List, [], length, map, sym, ◌∙◌, ap, subst, Result, Ok, Err, IfOk}
use Rattle.circus_fault.proofs.Items.{none_in}
use Rattle.circus_idl.specs.declared.interface.Interface.{Interface}
use Rattle.circus_lang.specs.ModuleTree.{ModuleTree}
use Rattle.circus_check.specs.Meaning.{ModuleMeant, modules_meant}
use Rattle.circus_check.specs.Plain.{all}
use Rattle.circus_check.specs.Resolved.{module_as}
use Rattle.circus_check.specs.WellFormed.{AreWellFormed}
use Rattle.circus_check.proofs.WholeModules as of_check
use Rattle.circus_collate.specs.Deployment.{IsDeployment}
use Rattle.circus_collate.specs.declared.deployment.Deployment.{Deployment}
use Rattle.circus_collate.specs.declared.deployment.Troupe.{Troupe}
use Rattle.circus_deployment.specs.Faults.{first_without_troupe, deployment_faults}
use Rattle.circus_deployment.specs.Nodes.{troupe_numbers}
use Rattle.circus_deployment.proofs.Obeying.{obeys, roots_kept}
use Rattle.circus_config.specs.declared.plan.Plan.{Plan}
use Rattle.circus_config.specs.Told.{module_told, deployment_told}
use Rattle.circus_config.specs.Program.{IsProgramOf, IsPlan, format_number}
use Rattle.circus_config.proofs.Ascii.{plan_named}
use Rattle.circus_config.proofs.Looked.{none_behind}
use Rattle.circus_config.proofs.Named.{roots_meant, distinct_names, few_modules, numbered}
use Rattle.circus_config.proofs.ReadIs.{IsGood, file_good}
use Rattle.circus_config.proofs.Rules.{none_told}

module _ (text : List ℕ) (plan : Plan) (is : IsProgramOf text plan) where
  abbrev interfaces : List Interface
  interfaces = plan.checked.interfaces

  abbrev modules : List ModuleTree
  modules = is.tree.modules

  good : IsGood text is.tree interfaces
  good = file_good text is.tree interfaces is.file

  -- neither modules nor deployment have a fault
  none_found : (all interfaces modules ≡ []) × (deployment_faults modules (length text) is.tree.deployment ≡ [])
  none_found =
      let d = is.tree.deployment in
      let lacks = first_without_troupe (troupe_numbers d.troupes) modules in
      let told = module_told interfaces modules in
      let own = all interfaces modules in
      let deployed = deployment_faults modules (length text) d in
      let (first, second) = none_in (map told own) (map (deployment_told lacks) deployed) is.faultless in
      (none_told told own first, none_told (deployment_told lacks) deployed second)

  well_formed : AreWellFormed interfaces (modules_meant interfaces modules 0 modules)
  well_formed =
      of_check.well_formed interfaces modules good.obey good.read
      (none_behind text interfaces modules (length text) is.tree.deployment good.in_text none_found.0)

  deployed : IsDeployment plan.deployment
  deployed =
      subst IsDeployment (sym is.deployment)
      (obeys modules (length text) (format_number is.tree.format) is.tree.deployment (numbered is.tree.format) (few_modules interfaces modules well_formed)
      (distinct_names interfaces modules well_formed) good.written none_found.1)

  roots : map (λ (t : Troupe). t.root) plan.deployment.troupes ≡ map (λ (m : ModuleMeant). m.root) (map module_as plan.checked.modules)
  roots =
      ap (λ (d : Deployment). map (λ (t : Troupe). t.root) d.troupes) is.deployment
      ∙ roots_kept modules (length text) (format_number is.tree.format) is.tree.deployment none_found.1
      ∙ sym (ap (map (λ (m : ModuleMeant). m.root)) is.modules ∙ roots_meant interfaces modules 0 modules)

  pub plan_is : IsPlan plan
  plan_is = record {
    obey = good.obey;
    well_formed = subst (AreWellFormed interfaces) (sym is.modules) well_formed;
    deployed = deployed;
    roots = roots;
    named = plan_named text plan is;
  }

-- so is one that is read
pub ok_plan : {E : Type 0} (text : List ℕ) (r : Result Plan E) → IfOk r (IsProgramOf text) → IfOk r IsPlan
ok_plan text (Ok plan) is = plan_is text plan is
ok_plan text (Err e) is = tt
