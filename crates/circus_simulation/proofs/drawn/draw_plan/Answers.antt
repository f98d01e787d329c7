use Rattle.std.proofs.Common.{◌≡◌, ◌∙◌, All, Ok, Err, IfOk, sym, subst}
use Rattle.std.specs.Prelude.{IfErr}
use Rattle.circus_schedule.specs.ScheduleText.{IsShort}
use Rattle.circus_commands.specs.declared.status.Status.TheVariants.{Done, Spent}
use Rattle.circus_commands.specs.Seen.Ending.{ending_of}
use Rattle.circus_simulation.specs.Booted.{boot_world}
use Rattle.circus_simulation.specs.Seen.Simulated.{world_of, IsOfPlan}
use Rattle.circus_simulation.proofs.DrawingLines.{schedule_booted, lines_booted}
use Rattle.circus_simulation.proofs.drawn.draw_plan.Goals as goal

pub returns-in-Ok-clause-ending : goal.returns-in-Ok-clause-ending
returns-in-Ok-clause-ending c =
    let plan = c.args.plan in
    let of = subst (λ r. IfOk r (IsOfPlan plan)) c.in-Ok.is c.in_ok-simulated.ensures.plan in
    let is = subst (λ r. IfOk r (λ simulated. boot_world plan ≡ Ok (world_of simulated.world))) c.in-Ok.is c.in_ok-simulated.ensures.world in
    subst (λ e. IfOk c.draw_world.result (λ ending. ending_of ending ≡ e)) (schedule_booted plan c.in-Ok.simulated c.args.seed c.args.steps of is) c.draw_world.ensures.ending

pub returns-in-Ok-clause-short : goal.returns-in-Ok-clause-short
returns-in-Ok-clause-short c =
    let plan = c.args.plan in
    let is = subst (λ r. IfOk r (λ simulated. boot_world plan ≡ Ok (world_of simulated.world))) c.in-Ok.is c.in_ok-simulated.ensures.world in
    subst (λ lines. IfOk c.draw_world.result (λ ending. ending.status ≡ Done → All IsShort lines)) (lines_booted plan c.in-Ok.simulated c.args.seed c.args.steps is)
    c.draw_world.ensures.short

pub returns-in-Err-clause-short : goal.returns-in-Err-clause-short
returns-in-Err-clause-short c = λ done.
    let out = subst (λ r. IfErr r (λ ending. ending.status ≡ Spent)) c.in-Err.is c.in_ok-simulated.ensures.status in
    absurd (let clash : Spent ≡ Done = sym out ∙ done in cc)
