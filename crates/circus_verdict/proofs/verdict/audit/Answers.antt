use Rattle.std.proofs.Common.{◌<◌, ◌∙◌, List, All, IfOk, length, map, ap, sym, subst}
use Rattle.circus_collate.specs.Deployment.{IsDeployment}
use Rattle.circus_collate.specs.declared.deployment.Deployment.{Deployment}
use Rattle.circus_plan_modules.specs.Loaded.{behaviours_in}
use Rattle.circus_plan_modules.specs.Seen.Behaving.{declared_signature, turn, first}
use Rattle.circus_machine.specs.declared.text.TextModule.{TextModule}
use Rattle.circus_model.specs.Agree.{Agree}
use Rattle.circus_model.specs.Behaviour.{Behaviour, behaviours}
use Rattle.circus_node.specs.Booting.{AreOfTroupes}
use Rattle.circus_verdict.specs.Verdict.{IsVerdict}
use Rattle.circus_verdict.specs.Seen.Living.{MayCome}
use Rattle.circus_verdict.specs.Seen.Judging.{MaySay}
use Rattle.circus_verdict.proofs.Planned.{they_may, few_runs, may_say}
use Rattle.circus_verdict.proofs.verdict.audit.Goals as goal

pub load-requires : goal.load-requires
load-requires c = c.requires.plan

pub audit_node-requires-clause-deployment : goal.audit_node-requires-clause-deployment
audit_node-requires-clause-deployment c = subst IsDeployment (sym c.in_ok-deployment.ensures.deployment) c.requires.plan.deployed

pub audit_node-requires-clause-modules : goal.audit_node-requires-clause-modules
audit_node-requires-clause-modules c =
    subst (λ (modules : List TextModule). AreOfTroupes c.in_ok-deployment.field-0.deployment (map declared_signature modules)) (sym c.as_slice.ensures.value) c.in_ok-deployment.ensures.fit

pub audit_node-requires-clause-agree : goal.audit_node-requires-clause-agree
audit_node-requires-clause-agree c = subst (λ (modules : List TextModule). Agree (behaviours declared_signature turn first modules)) (sym c.as_slice.ensures.value) c.in_ok-deployment.ensures.agree

pub audit_node-requires-clause-within : goal.audit_node-requires-clause-within
audit_node-requires-clause-within c = subst (λ (d : Deployment). c.args.given.now.node < length d.nodes) (sym c.in_ok-deployment.ensures.deployment) c.requires.possible.node

pub audit_node-requires-clause-come : goal.audit_node-requires-clause-come
audit_node-requires-clause-come c =
    subst (λ (d : Deployment). All (MayCome d c.args.given.now.node) c.args.given.now.events) (sym c.in_ok-deployment.ensures.deployment)
    (they_may c.args.plan c.args.given.now c.requires.possible)

pub audit_node-requires-clause-few : goal.audit_node-requires-clause-few
audit_node-requires-clause-few c = few_runs c.args.plan c.args.given.now c.requires.possible

pub audit_node-requires-clause-says : goal.audit_node-requires-clause-says
audit_node-requires-clause-says c =
    let loaded = c.in_ok-deployment.ensures in
    let behave = ap (behaviours declared_signature turn first) c.as_slice.ensures.value ∙ loaded.behave in
    subst (λ (p : List Behaviour). MaySay c.in_ok-deployment.field-0.deployment p c.args.given.now) (sym behave)
    (subst (λ (d : Deployment). MaySay d (behaviours_in c.args.plan) c.args.given.now) (sym loaded.deployment) (may_say c.args.plan c.args.given.now c.requires.possible))

pub returns : goal.returns
returns c =
    let loaded = c.in_ok-deployment.ensures in
    let behave = ap (behaviours declared_signature turn first) c.as_slice.ensures.value ∙ loaded.behave in
    subst (λ (p : List Behaviour). IfOk c.audit_node.result (IsVerdict c.args.plan.deployment p c.args.given.now)) behave
    (subst (λ (d : Deployment). IfOk c.audit_node.result (IsVerdict d (behaviours declared_signature turn first c.as_slice.result.now) c.args.given.now)) loaded.deployment c.audit_node.ensures)
