use Rattle.std.proofs.Common.{arith, refl}
use Rattle.circus_commands.specs.Seen.Ending.{ending_of}
use Rattle.circus_program.specs.Seen.Ready.{end_of_ready}
use Rattle.circus_program.proofs.ReadyLemmas.{read-answers, read-few, end-of_fault, end-of_lines, ended-of_lines}
use Rattle.circus_program.proofs.ready.prepare.Goals as goal

pub read_schedule-requires : goal.read_schedule-requires
read_schedule-requires c = omega (arith, c.requires.deployed.few_nodes)

pub boot-requires-clause-few : goal.boot-requires-clause-few
boot-requires-clause-few c = read-few _ c.args.schedule.now c.in-Ok.lines (read-answers _ c.args.schedule.now _ c.in-Ok.lines refl c.in-Ok.ensures.answer)

pub returns-in-Ok-clause-end : goal.returns-in-Ok-clause-end
returns-in-Ok-clause-end c =
    end-of_lines c.args.shown c.args.plan c.args.schedule.now c.in-Ok.lines end_of_ready c.boot.result
    (read-answers _ c.args.schedule.now _ c.in-Ok.lines refl c.in-Ok.ensures.answer) c.boot.ensures.end

pub returns-in-Ok-clause-ended : goal.returns-in-Ok-clause-ended
returns-in-Ok-clause-ended c =
    ended-of_lines c.args.shown c.args.plan c.args.schedule.now c.in-Ok.lines ending_of c.boot.result
    (read-answers _ c.args.schedule.now _ c.in-Ok.lines refl c.in-Ok.ensures.answer) c.boot.ensures.ended

pub returns-clause-ended : goal.returns-clause-ended
returns-clause-ended c =
    end-of_fault c.args.shown c.args.plan c.args.schedule.now c.in-Err.fault (ending_of c.in_ok-end_of_schedule-in-Err.field-0) c.in-Err.ensures.answer (c.in_ok-end_of_schedule-in-Err.ensures.ending c.args.shown c.args.plan)
