use Rattle.std.proofs.Common.{◌≡◌, [], length, map, inr, ◌∙◌, ap, subst, arith, Some}
use Rattle.circus_lang.specs.ModuleTree.{module_of}
use Rattle.circus_check.specs.Resolved.{module_as}
use Rattle.circus_check.specs.WellFormed.{AreWellFormed}
use Rattle.circus_deployment.specs.Faults.{deployment_faults}
use Rattle.circus_deployment.specs.Meaning.{deployment_meant}
use Rattle.circus_config.specs.Told.{module_names}
use Rattle.circus_config.specs.Seen.{fault_of, modules_answer}
use Rattle.circus_config.proofs.Named.{few_of}
use Rattle.circus_config.proofs.Checked.{DeploymentAnswers, first_given, second_given, both_given}
use Rattle.circus_config.proofs.checking.plan.Goals as goal

pub returns-in-Ok-deployed-clause-deployment : goal.returns-in-Ok-deployed-clause-deployment
returns-in-Ok-deployed-clause-deployment c =
    let whole = subst (λ ms. AreWellFormed c.args.interfaces ms) c.in-Ok.ensures.meant (subst (λ is. AreWellFormed is (map module_as c.in-Ok.checked.modules)) c.in-Ok.ensures.same c.in-Ok.ensures.well_formed) in
    let few = few_of c.args.interfaces c.args.text.modules c.as_slice-2.result.now c.as_slice-2.ensures whole in
    c.in-Ok-deployed.ensures.meant (omega (arith, few))
    ∙ (λ i. deployment_meant (map module_of (c.as_slice-2.ensures i)) (c.format_number.ensures i) c.args.text.deployment)

pub returns-in-Ok-clause-err : goal.returns-in-Ok-clause-err
returns-in-Ok-clause-err c =
    let end = length c.args.bytes.now in
    let d = c.args.text.deployment in
    let fault = c.in-Err-deployed.fault in
    let answers = subst (λ l. DeploymentAnswers c.args.interfaces (map module_of l) end d c.args.bytes.now fault) c.as_slice-2.ensures c.in-Err-deployed.ensures.err in
    inr (second_given c.args.interfaces (map module_of c.args.text.modules) end d c.args.bytes.now fault (fault_of c.in_ok-of_deployment-in-Err-deployed.field-0) c.refusal_of.result
    c.in_ok-of_deployment-in-Err-deployed.ensures c.in-Ok.ensures.faultless answers c.refusal_of.ensures)

pub returns-in-Ok-deployed-2-clause-err : goal.returns-in-Ok-deployed-2-clause-err
returns-in-Ok-deployed-2-clause-err c =
    let end = length c.args.bytes.now in
    let d = c.args.text.deployment in
    let fault = c.in-Err.fault in
    let found = fault_of c.in_ok-found-in-Err.found in
    let names = c.in_ok-names.ensures ∙ ap (λ l. module_names (map module_of l)) c.as_slice.ensures in
    let told = subst (λ ns. modules_answer ns fault ≡ Some found) names c.in_ok-found-in-Err.ensures in
    let clean = subst (λ l. deployment_faults (map module_of l) end d ≡ []) c.as_slice-2.ensures c.in-Ok-deployed-2.ensures.faultless in
    inr (first_given c.args.interfaces (map module_of c.args.text.modules) end d c.args.bytes.now fault found c.refusal_of-in-Ok-deployed-2.result told c.in-Err.ensures.err clean c.refusal_of-in-Ok-deployed-2.ensures)

pub returns-clause-err : goal.returns-clause-err
returns-clause-err c =
    let end = length c.args.bytes.now in
    let d = c.args.text.deployment in
    let fault = c.in-Err.fault in
    let other = c.in-Err-deployed-2.other in
    let found = fault_of c.in_ok-found-in-Err.found in
    let also = fault_of c.in_ok-of_deployment-in-Err-deployed-2.field-0 in
    let names = c.in_ok-names.ensures ∙ ap (λ l. module_names (map module_of l)) c.as_slice.ensures in
    let told = subst (λ ns. modules_answer ns fault ≡ Some found) names c.in_ok-found-in-Err.ensures in
    let answers = subst (λ l. DeploymentAnswers c.args.interfaces (map module_of l) end d c.args.bytes.now other) c.as_slice-2.ensures c.in-Err-deployed-2.ensures.err in
    inr (both_given c.args.interfaces (map module_of c.args.text.modules) end d c.args.bytes.now fault other found also (fault_of c.lesser_of.result) c.refusal_of-in-Err-deployed-2.result
    told c.in-Err.ensures.err c.in_ok-of_deployment-in-Err-deployed-2.ensures answers c.lesser_of.ensures c.refusal_of-in-Err-deployed-2.ensures)
