use Rattle.std.proofs.Common.{◌<◌, ◌∙◌, List, All, IsAscii, Err, length, map, ap, sym, subst}
use Rattle.std.proofs.lemmas.Result.{err_from_is_err_and}
use Rattle.circus_outside.specs.Faults.{Rose}
use Rattle.circus_collate.specs.Deployment.{IsDeployment}
use Rattle.circus_collate.specs.declared.deployment.Deployment.{Deployment}
use Rattle.circus_model.specs.Behaviour.{behaviours}
use Rattle.circus_machine.specs.declared.text.TextModule.{TextModule}
use Rattle.circus_node.specs.declared.event.StepFault.{StepFault}
use Rattle.circus_node.specs.Booting.{AreOfTroupes, IsBooted}
use Rattle.circus_plan_modules.proofs.Named.{nodes_ascii}
use Rattle.circus_serve.specs.Outside.{Tells, tells_of}
use Rattle.circus_plan_modules.specs.Seen.Behaving.{declared_signature, turn, first}
use Rattle.circus_node_command.proofs.Ends.{served_ends, none_ends, spent_is_end, spent_no_fault, no_end}
use Rattle.circus_node_command.proofs.served.serve_node.Goals as goal

pub load-requires : goal.load-requires
load-requires g c = c.requires.plan

pub returns-in_err-deployment-clause-ending : goal.returns-in_err-deployment-clause-ending
returns-in_err-deployment-clause-ending g c =
    let p = err_from_is_err_and c.from_residual.result c.from_residual.ensures.1 in
    no_end c.from_residual.result _ p.0 p.1

pub returns-in_err-deployment-clause-status : goal.returns-in_err-deployment-clause-status
returns-in_err-deployment-clause-status g c =
    let p = err_from_is_err_and c.from_residual.result c.from_residual.ensures.1 in
    no_end c.from_residual.result _ p.0 p.1

pub returns-in_err-deployment-clause-rose : goal.returns-in_err-deployment-clause-rose
returns-in_err-deployment-clause-rose g c =
    let p = err_from_is_err_and c.from_residual.result c.from_residual.ensures.1 in
    no_end c.from_residual.result _ p.0 p.1

pub boot_of-requires-clause-deployment : goal.boot_of-requires-clause-deployment
boot_of-requires-clause-deployment g c = subst IsDeployment (sym c.in_ok-deployment.ensures.deployment) c.requires.plan.deployed

pub boot_of-requires-clause-modules : goal.boot_of-requires-clause-modules
boot_of-requires-clause-modules g c =
    subst (λ (modules : List TextModule). AreOfTroupes c.in_ok-deployment.field-0.deployment (map declared_signature modules)) (sym c.as_slice.ensures.value) c.in_ok-deployment.ensures.fit

pub boot_of-requires-clause-within : goal.boot_of-requires-clause-within
boot_of-requires-clause-within g c =
    subst (λ (d : Deployment). c.args.node < length d.nodes) (sym c.in_ok-deployment.ensures.deployment) c.requires.within

pub serve_booted-requires-clause-deployment : goal.serve_booted-requires-clause-deployment
serve_booted-requires-clause-deployment g c = subst IsDeployment (sym c.in_ok-deployment.ensures.deployment) c.requires.plan.deployed

pub serve_booted-requires-clause-names : goal.serve_booted-requires-clause-names
serve_booted-requires-clause-names g c = subst (All IsAscii) (sym c.in_ok-deployment.ensures.names) c.requires.plan.named

pub serve_booted-requires-clause-node : goal.serve_booted-requires-clause-node
serve_booted-requires-clause-node g c = c.in-Ok.ensures.node

pub returns-in-Ok-clause-ending : goal.returns-in-Ok-clause-ending
returns-in-Ok-clause-ending g c =
    let L = g.L.Link in
    let loaded = c.in_ok-deployment.ensures in
    let old : Tells = tells_of (L.bound c.args.link.now) (L.taken c.args.link.now) (L.given c.args.link.now) in
    let new : Tells = tells_of (L.bound c.serve_booted.new.link) (L.taken c.serve_booted.new.link) (L.given c.serve_booted.new.link) in
    let behave = ap (behaviours declared_signature turn first) c.as_slice.ensures.value ∙ loaded.behave in
    served_ends declared_signature turn first c.args.plan c.in_ok-deployment.field-0.deployment c.as_slice.result.now c.args.node c.args.turns loaded.deployment behave
    old new c.in_ok-deployment.field-0.names (c.in-Ok.core, c.in-Ok.outputs) loaded.names c.in-Ok.ensures.booted c.serve_booted.result c.serve_booted.ensures.ending

pub returns-in-Ok-clause-status : goal.returns-in-Ok-clause-status
returns-in-Ok-clause-status g c = c.serve_booted.ensures.status

pub returns-in-Ok-clause-rose : goal.returns-in-Ok-clause-rose
returns-in-Ok-clause-rose g c = c.serve_booted.ensures.rose

pub end_of_spent-requires : goal.end_of_spent-requires
end_of_spent-requires g c =
    nodes_ascii c.in_ok-deployment.field-0.deployment (subst IsDeployment (sym c.in_ok-deployment.ensures.deployment) c.requires.plan.deployed)

pub returns-clause-ending : goal.returns-clause-ending
returns-clause-ending g c =
    let L = g.L.Link in
    let loaded = c.in_ok-deployment.ensures in
    let d = c.in_ok-deployment.field-0.deployment in
    let modules = c.as_slice.result.now in
    let behave = ap (behaviours declared_signature turn first) c.as_slice.ensures.value ∙ loaded.behave in
    let old : Tells = tells_of (L.bound c.args.link.now) (L.taken c.args.link.now) (L.given c.args.link.now) in
    let none = subst (λ (f : StepFault). IsBooted declared_signature turn first d modules c.args.node (Err f)) c.in-Err-Spent.field-0-is c.in-Err-Spent.ensures.booted in
    none_ends declared_signature turn first c.args.plan d modules c.args.node c.args.turns loaded.deployment behave old c.in-Err-Spent.peer none c.end_of_spent.result c.end_of_spent.ensures.ending

pub returns-clause-status : goal.returns-clause-status
returns-clause-status g c = spent_is_end c.end_of_spent.result c.end_of_spent.ensures.status

pub returns-clause-rose : goal.returns-clause-rose
returns-clause-rose g c =
    let L = g.L.Link in
    spent_no_fault c.end_of_spent.result (Rose (L.faults c.args.link.now) (L.faults c.args.link.now)) c.end_of_spent.ensures.status
