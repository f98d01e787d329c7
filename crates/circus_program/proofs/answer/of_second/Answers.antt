use Rattle.std.proofs.Common.{refl, sym, subst, IfOk, IfErr}
use Rattle.circus_commands.specs.Seen.Ending.{ending_of}
use Rattle.circus_program.specs.declared.second.Second.{Second}
use Rattle.circus_program.specs.Replay.{IsEndOfReplay}
use Rattle.circus_program.specs.Answer.{finish, IsDueOfSecond}
use Rattle.circus_program.specs.Seen.Ready.{end_of_ready}
use Rattle.circus_program.proofs.answer.of_second.Goals as goal

pub returns-in-Ok-clause-due : goal.returns-in-Ok-clause-due
returns-in-Ok-clause-due c =
    let end = subst (λ r. IfOk r (λ ready. IsEndOfReplay c.in-Schedule.shown c.args.plan c.args.bytes.now (end_of_ready ready))) c.in-Ok.is c.in_ok-ready-in-Schedule.ensures.end in
    subst (λ (second : Second). IsDueOfSecond second c.args.plan c.args.bytes.now (finish (end_of_ready c.in-Ok.ready))) (sym c.in-Schedule.is) (end_of_ready c.in-Ok.ready, end, refl)

pub returns-in-Err-clause-due : goal.returns-in-Err-clause-due
returns-in-Err-clause-due c =
    let end = subst (λ r. IfErr r (λ ending. IsEndOfReplay c.in-Schedule.shown c.args.plan c.args.bytes.now (ending_of ending))) c.in-Err.is c.in_ok-ready-in-Schedule.ensures.ended in
    subst (λ (second : Second). IsDueOfSecond second c.args.plan c.args.bytes.now (finish (ending_of c.in-Err.ending))) (sym c.in-Schedule.is) (ending_of c.in-Err.ending, end, refl)

pub returns-in_ok-audit_record-in-NodeRecord-clause-due : goal.returns-in_ok-audit_record-in-NodeRecord-clause-due
returns-in_ok-audit_record-in-NodeRecord-clause-due c =
    let audit = c.in_ok-audit_record-in-NodeRecord in
    subst (λ (second : Second). IsDueOfSecond second c.args.plan c.args.bytes.now (finish (ending_of audit.field-0))) (sym c.in-NodeRecord.is) (ending_of audit.field-0, audit.ensures.ending, refl)
