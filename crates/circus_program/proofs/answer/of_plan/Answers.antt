use Rattle.std.proofs.Common.{ap, sym, subst, ◌∙◌}
use Rattle.circus_commands.specs.Seen.Ending.{ending_of}
use Rattle.circus_commands.specs.Ending.{Ending}
use Rattle.circus_program.specs.Answer.{finish}
use Rattle.circus_program.specs.Seen.Asked.{IsDueOfTask}
use Rattle.circus_program.specs.Seen.Known.{IsKnownOf}
use Rattle.circus_program.specs.declared.answer.Task.{Task}
use Rattle.circus_program.proofs.NamedOnce.{named_within}
use Rattle.circus_program.proofs.answer.of_plan.Goals as goal

pub returns-in-Sample-clause-due : goal.returns-in-Sample-clause-due
returns-in-Sample-clause-due c =
    let sample = c.in_ok-sample_plan-in-Sample in
    subst (λ (task : Task). IsDueOfTask task c.args.plan (finish (ending_of sample.field-0))) (sym c.in-Sample.is) (ap finish sample.ensures.ending)

pub returns-in-Sample-clause-known : goal.returns-in-Sample-clause-known
returns-in-Sample-clause-known c = subst (λ (task : Task). IsKnownOf task c.args.plan) (sym c.in-Sample.is) tt

pub returns-in-Lines-clause-due : goal.returns-in-Lines-clause-due
returns-in-Lines-clause-due c =
    let lines = c.in_ok-draw_plan-in-Lines in
    subst (λ (task : Task). IsDueOfTask task c.args.plan (finish (ending_of lines.field-0))) (sym c.in-Lines.is) (ap finish lines.ensures.ending)

pub returns-in-Lines-clause-known : goal.returns-in-Lines-clause-known
returns-in-Lines-clause-known c =
    let lines = c.in_ok-draw_plan-in-Lines in
    subst (λ (task : Task). IsKnownOf task c.args.plan) (sym c.in-Lines.is)
    (λ done. lines.ensures.short (ap (λ (e : Ending). e.status) lines.ensures.ending ∙ done))

pub returns-in-Settle-clause-known : goal.returns-in-Settle-clause-known
returns-in-Settle-clause-known c = subst (λ (task : Task). IsKnownOf task c.args.plan) (sym c.in-Settle.is) tt

pub returns-in-Some-clause-known : goal.returns-in-Some-clause-known
returns-in-Some-clause-known c = subst (λ (task : Task). IsKnownOf task c.args.plan) (sym c.in-Node.is) tt

pub returns-in-Settle-clause-due : goal.returns-in-Settle-clause-due
returns-in-Settle-clause-due c =
    let settle = c.in_ok-settle_plan-in-Settle in
    subst (λ (task : Task). IsDueOfTask task c.args.plan (finish (ending_of settle.field-0))) (sym c.in-Settle.is) (ap finish settle.ensures.ending)

pub returns-in-Some-clause-stands : goal.returns-in-Some-clause-stands
returns-in-Some-clause-stands c =
    record {
      plan_is = c.requires;
      within = named_within c.args.plan.deployment c.in-Node.name.now c.in-Some.node c.in-Some.ensures.named;
    }
