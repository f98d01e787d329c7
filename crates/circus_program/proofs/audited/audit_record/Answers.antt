use Rattle.std.proofs.Common.{Err, subst, arith}
use Rattle.circus_audit.specs.BadLine.{IsBadIn}
use Rattle.circus_audit.specs.declared.fault.RecordFault.{RecordFault}
use Rattle.circus_plan_modules.proofs.Named.{nodes_ascii}
use Rattle.circus_simulation.specs.Booted.{names_in}
use Rattle.circus_program.proofs.Audits.{judged_ends, bad_line_ends}
use Rattle.circus_program.proofs.audited.audit_record.Goals as goal

pub no_run-requires : goal.no_run-requires
no_run-requires c = nodes_ascii c.args.plan.deployment c.requires.plan.deployed

pub audit-requires-clause-possible : goal.audit-requires-clause-possible
audit-requires-clause-possible c = c.in-Ok.ensures.given.possible

pub returns-in-Ok-clause-ending : goal.returns-in-Ok-clause-ending
returns-in-Ok-clause-ending c =
    judged_ends c.args.plan c.args.text.now c.in-Ok.given c.in_ok-verdict-in-Ok.verdict c.end_of_verdict.result (omega (arith, c.requires.short), c.in-Ok.ensures.given) c.in_ok-verdict-in-Ok.ensures
    (c.end_of_verdict.ensures.ending ((names_in c.args.plan).node c.in-Ok.given.node) c.in_ok-no_run-in-Ok.ensures.ending)

pub returns-in-Err-BadLine-clause-ending : goal.returns-in-Err-BadLine-clause-ending
returns-in-Err-BadLine-clause-ending c =
    let bad = subst (λ (f : RecordFault). IsBadIn c.args.plan c.args.text.now (Err f)) c.in-Err-BadLine.field-0-is c.in-Err-BadLine.ensures.bad in
    bad_line_ends c.args.plan c.args.text.now c.in-Err-BadLine.number c.bad_line.result bad c.bad_line.ensures.ending
