use Rattle.std.proofs.Common.{◌≡◌, ◌∙◌, List, All, IfOk, ap, sym, subst, Err}
use Rattle.std.specs.Prelude.{IsAscii}
use Rattle.circus_collate.specs.declared.deployment.Deployment.{Deployment}
use Rattle.circus_collate.specs.declared.deployment.Host.{Host}
use Rattle.circus_record.specs.Naming.{host_name}
use Rattle.circus_commands.specs.Seen.Ending.{ending_of}
use Rattle.circus_simulation.specs.declared.sampling.SampleFault.{SampleFault}
use Rattle.circus_simulation.specs.Answers.{IsSampled}
use Rattle.circus_plan_modules.specs.Seen.Behaving.{declared_signature, turn, first}
use Rattle.circus_simulation.proofs.SamplingLines.{sampled_deployment, drawn_to_end, drawn_to_spent}
use Rattle.circus_simulation.proofs.sampled.sample_world.Goals as goal

pub show_sample-requires : goal.show_sample-requires
show_sample-requires c =
    let s = c.args.simulated in
    let nodes = ap (λ (d : Deployment). d.nodes) (sampled_deployment declared_signature turn c.args.steps c.args.seed s.world c.in-Ok.world c.in-Ok.ensures) ∙ c.requires.deployed in
    subst (λ (hosts : List Host). All (λ (h : Host). IsAscii (host_name h)) hosts) (sym nodes) c.requires.ascii

pub returns-in-Ok-clause-ending : goal.returns-in-Ok-clause-ending
returns-in-Ok-clause-ending c =
    let s = c.args.simulated in
    drawn_to_end declared_signature turn first s.hosts s.names c.args.seed c.args.steps s.world c.in-Ok.world c.in_ok-show_sample-in-Ok.field-0
    c.in-Ok.ensures c.requires.deployed c.in_ok-show_sample-in-Ok.ensures

pub returns-clause-ending : goal.returns-clause-ending
returns-clause-ending c =
    let s = c.args.simulated in
    let drawn = subst (λ (f : SampleFault). IsSampled declared_signature turn c.args.steps c.args.seed s.world (Err f)) c.in-Err-Spent.field-0-is c.in-Err-Spent.ensures in
    subst (λ e. IfOk c.end_of_spent.result (λ ending. ending_of ending ≡ e))
    (drawn_to_spent declared_signature turn first s.hosts s.names c.args.seed c.args.steps s.world (c.in-Err-Spent.node, c.in-Err-Spent.peer) drawn)
    c.end_of_spent.ensures.ending
