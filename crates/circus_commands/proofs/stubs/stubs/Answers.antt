use Rattle.std.proofs.Common.{inl, subst, IfOk}
use Rattle.circus_config.specs.Program.{IsProgramOf}
use Rattle.circus_commands.specs.declared.status.Status.TheVariants.{Done}
use Rattle.circus_commands.proofs.stubs.stubs.Goals as goal

pub returns-in_ok-stubs_lines-in-Ok-clause-ending : goal.returns-in_ok-stubs_lines-in-Ok-clause-ending
returns-in_ok-stubs_lines-in-Ok-clause-ending c =
    inl (c.in-Ok.plan, subst (λ r. IfOk r (IsProgramOf c.args.bytes.now)) c.in-Ok.is c.in_ok-plan.ensures.program, λ i. record { status = Done; text = c.in_ok-stubs_lines-in-Ok.ensures i })
