use Rattle.std.proofs.Common.{◌≡◌, ◌∙◌, ℕ, List, [], All, length, ap, sym, subst, arith}
use Rattle.std.specs.Prelude.{IsAscii}
use Rattle.circus_collate.specs.Deployment.{IsDeployment}
use Rattle.circus_collate.specs.declared.deployment.Deployment.{Deployment}
use Rattle.circus_collate.specs.declared.deployment.Host.{Host}
use Rattle.circus_record.specs.Naming.{host_name, names_of}
use Rattle.circus_simulation.proofs.Untouched.{booted_new}
use Rattle.circus_commands.specs.Spent.{end_of_spent}
use Rattle.circus_plan_modules.specs.Seen.Behaving.{declared_signature, turn, first}
use Rattle.circus_plan_modules.proofs.Named.{nodes_ascii}
use Rattle.circus_simulation.proofs.SteppingLines.{booted_joins}
use Rattle.circus_simulation.proofs.Booted.{world_booted, none_booted}
use Rattle.circus_simulation.proofs.simulated.boot_plan.Goals as goal
use Rattle.circus_simulation.proofs.simulated.boot_plan.Goals.{In_ok-hosts}

pub boot-requires-clause-modules : goal.boot-requires-clause-modules
boot-requires-clause-modules c = c.in_ok-deployment.ensures.fit

-- the names of hosts are ASCII
ascii : (c : In_ok-hosts) → All (λ (h : Host). IsAscii (host_name h)) c.in_ok-hosts.hosts
ascii c =
    let d = c.in_ok-deployment.field-0.deployment in
    let deployed : IsDeployment d = subst IsDeployment (sym c.in_ok-deployment.ensures.deployment) c.requires.deployed in
    subst (λ (hosts : List Host). All (λ (h : Host). IsAscii (host_name h)) hosts) (sym c.in_ok-hosts.ensures) (nodes_ascii d deployed)

pub returns-in-Ok-clause-world : goal.returns-in-Ok-clause-world
returns-in-Ok-clause-world c =
    let loaded = c.in_ok-deployment.ensures in
    world_booted declared_signature turn first c.args.plan c.in_ok-deployment.field-0.deployment c.in_ok-deployment.field-0.modules.items c.in-Ok.world loaded.deployment loaded.behave c.in-Ok.ensures

pub returns-in-Ok-clause-plan : goal.returns-in-Ok-clause-plan
returns-in-Ok-clause-plan c =
    let d = c.in_ok-deployment.field-0.deployment in
    let hosts = c.in_ok-hosts.hosts in
    let nodes : hosts ≡ d.nodes = c.in_ok-hosts.ensures in
    let booted = c.in-Ok.ensures in
    let joined = booted_joins declared_signature turn first booted.0 d c.in_ok-deployment.field-0.modules.items c.in-Ok.world booted.2 in
    record {
      hosts = nodes ∙ ap (λ (x : Deployment). x.nodes) c.in_ok-deployment.ensures.deployment;
      names = c.in_ok-deployment.ensures.names;
      fresh = record {
        deployed = ap (λ (x : Deployment). x.nodes) joined.deployment ∙ sym nodes;
        nodes = omega (arith, joined.nodes, booted.1.one_each, ap length nodes);
        steps = joined.steps;
        untouched = (booted_new declared_signature turn first d c.in_ok-deployment.field-0.modules.items c.in-Ok.world booted).untouched;
        ascii = ascii (goal.at.returns-in-Ok-clause-plan c).In_ok-hosts;
        named = subst (All IsAscii) (sym c.in_ok-deployment.ensures.names) c.requires.named;
      };
    }

pub end_of_spent-requires : goal.end_of_spent-requires
end_of_spent-requires c = ascii (goal.at.end_of_spent-requires c).In_ok-hosts

pub returns-clause-ended : goal.returns-clause-ended
returns-clause-ended c =
    let loaded = c.in_ok-deployment.ensures in
    let nodes : ℕ × ℕ = (c.in-Err-Spent.node, c.in-Err-Spent.peer) in
    let named = ap (λ (hosts : List Host). end_of_spent (names_of hosts []) nodes) (c.in_ok-hosts.ensures ∙ ap (λ (d : Deployment). d.nodes) loaded.deployment) in (
      nodes,
      none_booted declared_signature turn first c.args.plan c.in_ok-deployment.field-0.deployment c.in_ok-deployment.field-0.modules.items c.in-Err-Spent.field-0 c.in-Err-Spent.node c.in-Err-Spent.peer
          loaded.deployment loaded.behave c.in-Err-Spent.field-0-is c.in-Err-Spent.ensures,
      (rw (c.in-Err-Spent.node-is, c.in-Err-Spent.peer-is) at c.in_ok-end_of_spent-in-Err-Spent.ensures.ending) ∙ named,
    )
