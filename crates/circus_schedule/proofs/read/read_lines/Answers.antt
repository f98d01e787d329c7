use Rattle.circus_schedule.specs.Seen.Table.{number_in}
use Rattle.circus_schedule.proofs.ReadSoFar.{IsReadSoFar-more}
use Rattle.circus_schedule.proofs.read.read_lines.Goals as goal

pub loop-rest-preserved : goal.loop-rest-preserved
loop-rest-preserved c =
    let read = c.in_ok-read_line.ensures.ok in
    rw c.in_ok-push.ensures.ok
    (IsReadSoFar-more (number_in c.args.numbers.now) c.args.bytes.now c.loop-rest.lines c.loop-rest.number c.loop-rest.rest.now
    c.first_line.result.0.now c.first_line.result.1.now c.in_ok-read_line.field-0 c.loop-rest.invariant c.first_line.ensures read.0 read.1)
