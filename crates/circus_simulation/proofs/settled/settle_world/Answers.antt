use Rattle.std.proofs.Common.{◌≡◌, ◌∙◌, ℕ, List, All, IfOk, ap, sym, subst, Ok, Err}
use Rattle.std.specs.Prelude.{IsAscii}
use Rattle.circus_collate.specs.declared.deployment.Deployment.{Deployment}
use Rattle.circus_collate.specs.declared.deployment.Host.{Host}
use Rattle.circus_record.specs.Naming.{host_name}
use Rattle.circus_commands.specs.Seen.Ending.{ending_of}
use Rattle.circus_machine.specs.declared.text.TextModule.{TextModule}
use Rattle.circus_settle.specs.declared.settling.SettleFault.{SettleFault}
use Rattle.circus_settle.specs.Settled.{Delivered, settle_world}
use Rattle.circus_settle.specs.Answers.{IsSettled}
use Rattle.circus_plan_modules.specs.Seen.Behaving.{declared_signature, turn, first}
use Rattle.circus_simulation.proofs.Settling.{settled_deployment, settles_to_end, settles_to_spent}
use Rattle.circus_simulation.proofs.settled.settle_world.Goals as goal

pub end_of_settling-requires-clause-nodes : goal.end_of_settling-requires-clause-nodes
end_of_settling-requires-clause-nodes c =
    let s = c.args.simulated in
    let done : Delivered TextModule = record { world = c.in-Ok.settled.world; given = c.in-Ok.settled.given } in
    let nodes = ap (λ (d : Deployment). d.nodes) (settled_deployment declared_signature turn c.from.result s.world done c.in-Ok.ensures.settled.0) ∙ c.requires.deployed in
    subst (λ (hosts : List Host). All (λ (h : Host). IsAscii (host_name h)) hosts) (sym nodes) c.requires.ascii

pub returns-in-Ok-clause-ending : goal.returns-in-Ok-clause-ending
returns-in-Ok-clause-ending c =
    let s = c.args.simulated in
    let done : Delivered TextModule = record { world = c.in-Ok.settled.world; given = c.in-Ok.settled.given } in
    let is = subst (λ (k : ℕ). settle_world declared_signature turn k 0 s.world ≡ Ok done) c.from.ensures c.in-Ok.ensures.settled.0 in
    subst (λ e. IfOk c.end_of_settling.result (λ ending. ending_of ending ≡ e))
    (settles_to_end declared_signature turn first s.hosts s.names c.args.deliveries s.world done is c.requires.deployed)
    c.end_of_settling.ensures.ending

pub returns-clause-ending : goal.returns-clause-ending
returns-clause-ending c =
    let s = c.args.simulated in
    let left = subst (λ (f : SettleFault). IsSettled declared_signature turn {P = Unit {0}} c.from.result s.world (Err f)) c.in-Err-Spent.field-0-is c.in-Err-Spent.ensures.settled in
    let is = subst (λ (k : ℕ). settle_world declared_signature turn k 0 s.world ≡ Err (c.in-Err-Spent.node, c.in-Err-Spent.peer)) c.from.ensures left in
    subst (λ e. IfOk c.end_of_spent.result (λ ending. ending_of ending ≡ e))
    (settles_to_spent declared_signature turn first s.hosts s.names c.args.deliveries s.world (c.in-Err-Spent.node, c.in-Err-Spent.peer) is)
    c.end_of_spent.ensures.ending
