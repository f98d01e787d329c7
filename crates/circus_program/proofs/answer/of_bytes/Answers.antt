use Rattle.std.proofs.Common.{sym, subst, IfOk, IfErr}
use Rattle.circus_config.specs.Program.{IsProgramOf}
use Rattle.circus_commands.specs.Refusal.{IsEndOfRefused}
use Rattle.circus_commands.specs.Seen.Ending.{ending_of}
use Rattle.circus_commands.specs.Seen.Upshot.{end_of_upshot}
use Rattle.circus_program.specs.Seen.Asked.{IsDueOfTask, IsDueOfCommand}
use Rattle.circus_program.specs.Seen.Step.{due_of}
use Rattle.circus_program.specs.Seen.Known.{AreKnownBy}
use Rattle.circus_program.specs.declared.answer.Command.{Command}
use Rattle.circus_program.proofs.AnswerLemmas.{bytes-good}
use Rattle.circus_program.proofs.Known.{good_read, refused_read}
use Rattle.circus_program.proofs.answer.of_bytes.Goals as goal

pub returns-in_ok-end_of-in-End-clause-due : goal.returns-in_ok-end_of-in-End-clause-due
returns-in_ok-end_of-in-End-clause-due c =
    let end = c.in_ok-end_of-in-End in
    subst (λ (command : Command). IsDueOfCommand command c.args.bytes.now (due_of c.step_of.result)) (sym c.in-End.is) (end_of_upshot end.field-0, end.ensures.ending, c.step_of.ensures.due)

pub returns-in-Ok-clause-due : goal.returns-in-Ok-clause-due
returns-in-Ok-clause-due c =
    let means = subst (λ r. IfOk r (IsProgramOf c.args.bytes.now)) c.in-Ok.is c.in_ok-plan-in-OfPlan.ensures.program in
    subst (λ (command : Command). IfOk c.of_plan.result (λ step. IsDueOfCommand command c.args.bytes.now (due_of step))) (sym c.in-OfPlan.is)
    (bytes-good c.args.bytes.now c.in-Ok.plan (IsDueOfTask c.in-OfPlan.task) c.of_plan.result means c.of_plan.ensures.due)

pub returns-in-Ok-clause-known : goal.returns-in-Ok-clause-known
returns-in-Ok-clause-known c =
    let means = subst (λ r. IfOk r (IsProgramOf c.args.bytes.now)) c.in-Ok.is c.in_ok-plan-in-OfPlan.ensures.program in
    subst (λ (command : Command). IfOk c.of_plan.result (λ _. AreKnownBy command c.args.bytes.now)) (sym c.in-OfPlan.is)
    (good_read c.args.bytes.now c.in-OfPlan.task c.in-Ok.plan c.of_plan.result means c.of_plan.ensures.known)

pub returns-in-Err-clause-known : goal.returns-in-Err-clause-known
returns-in-Err-clause-known c =
    let refused = subst (λ r. IfErr r (λ ending. IsEndOfRefused c.args.bytes.now (ending_of ending))) c.in-Err.is c.in_ok-plan-in-OfPlan.ensures.refused in
    subst (λ (command : Command). AreKnownBy command c.args.bytes.now) (sym c.in-OfPlan.is) (refused_read c.args.bytes.now c.in-OfPlan.task (ending_of c.in-Err.refused) refused)
