use Rattle.std.proofs.Common.{[], inl, inr, sym, subst, All, IfOk, IfErr}
use Rattle.std.specs.Prelude.{IsAscii}
use Rattle.circus_config.specs.Program.{IsProgramOf, IsPlan}
use Rattle.circus_record.specs.Naming.{names_of}
use Rattle.circus_commands.specs.declared.status.Status.TheVariants.{Done}
use Rattle.circus_commands.specs.HistoryLines.{history_text}
use Rattle.circus_commands.specs.Refusal.{IsEndOfRefused}
use Rattle.circus_commands.specs.Seen.Ending.{ending_of}
use Rattle.circus_commands.proofs.unreplicated.end_of_unreplicated.Goals as goal

pub returns-in_ok-perform-in-Ok-clause-ending : goal.returns-in_ok-perform-in-Ok-clause-ending
returns-in_ok-perform-in-Ok-clause-ending c =
    let performs = c.in_ok-perform-in-Ok.ensures in
    inl (
      c.in-Ok.plan,
      subst (λ r. IfOk r (IsProgramOf c.args.bytes.now)) c.in-Ok.is c.in_ok-plan.ensures.program,
      λ i. record { status = Done; text = history_text (names_of [] (performs.names i)) (performs.history i) },
    )

pub returns-in_ok-perform-in-Ok-clause-ready : goal.returns-in_ok-perform-in-Ok-clause-ready
returns-in_ok-perform-in-Ok-clause-ready c =
    let plan = subst (λ r. IfOk r IsPlan) c.in-Ok.is c.in_ok-plan.ensures.plan in
    subst (λ names. All IsAscii names) (sym c.in_ok-perform-in-Ok.ensures.names) plan.named

pub returns-in-Err-clause-ending : goal.returns-in-Err-clause-ending
returns-in-Err-clause-ending c =
    inr (subst (λ r. IfErr r (λ ending. IsEndOfRefused c.args.bytes.now (ending_of ending))) c.in-Err.is c.in_ok-plan.ensures.refused)
