use Rattle.std.proofs.Common.{◌≡◌, All, Err, IfOk, subst}
use Rattle.circus_schedule.specs.ScheduleText.{IsShort}
use Rattle.circus_commands.specs.Seen.Ending.{ending_of}
use Rattle.circus_simulation.specs.declared.sampling.SampleFault.{SampleFault}
use Rattle.circus_simulation.specs.Answers.{AreSampled}
use Rattle.circus_plan_modules.specs.Seen.Behaving.{declared_signature, turn, first}
use Rattle.circus_simulation.specs.Schedule.{lines_in}
use Rattle.circus_simulation.specs.Seen.Simulated.{world_of}
use Rattle.circus_simulation.proofs.DrawingLines.{lines_as, lines_to_end, lines_to_spent, short_as, spent_not_done}
use Rattle.circus_simulation.proofs.drawn.draw_world.Goals as goal

pub returns-in-Ok-clause-ending : goal.returns-in-Ok-clause-ending
returns-in-Ok-clause-ending c =
    let s = c.args.simulated in
    let last = c.in-Ok.ensures.1 in
    subst (λ e. IfOk c.end_of_drawing.result (λ ending. ending_of ending ≡ e))
    (lines_to_end declared_signature turn first s.hosts s.names c.args.seed c.args.steps s.world last.0 c.in-Ok.lines c.in-Ok.ensures.0 last.1)
    c.end_of_drawing.ensures.ending

pub returns-in-Ok-clause-short : goal.returns-in-Ok-clause-short
returns-in-Ok-clause-short c =
    let s = c.args.simulated in
    short_as c.end_of_drawing.result c.in-Ok.lines (lines_in c.args.seed c.args.steps (world_of s.world))
    (lines_as declared_signature turn first c.args.seed c.args.steps s.world c.in-Ok.lines c.in-Ok.ensures.0) c.end_of_drawing.ensures.short

pub returns-clause-ending : goal.returns-clause-ending
returns-clause-ending c =
    let s = c.args.simulated in
    let drawn = subst (λ (f : SampleFault). AreSampled declared_signature turn c.args.steps c.args.seed s.world (Err f)) c.in-Err-Spent.field-0-is c.in-Err-Spent.ensures in
    subst (λ e. IfOk c.end_of_spent.result (λ ending. ending_of ending ≡ e))
    (lines_to_spent declared_signature turn first s.hosts s.names c.args.seed c.args.steps s.world (c.in-Err-Spent.node, c.in-Err-Spent.peer) drawn)
    c.end_of_spent.ensures.ending

pub returns-clause-short : goal.returns-clause-short
returns-clause-short c =
    let s = c.args.simulated in
    spent_not_done (All IsShort (lines_in c.args.seed c.args.steps (world_of s.world))) c.end_of_spent.result c.end_of_spent.ensures.status
