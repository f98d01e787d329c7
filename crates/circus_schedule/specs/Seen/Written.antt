-- A line whose names are lent, as a line that is written.
use Rattle.circus_schedule.specs.declared.written.Written.{Written}
use Rattle.circus_schedule.specs.declared.written.Written.TheVariants as lent
use Rattle.circus_schedule.specs.WrittenLine.{WrittenLine, deliver, tick, crash, down, join}

abbrev pub written_as : Written → WrittenLine
written_as (lent.Deliver number) = deliver number
written_as (lent.Tick node) = tick node.now
written_as (lent.Crash node) = crash node.now
written_as (lent.Down crashed told) = down crashed.now told.now
written_as (lent.Join node) = join node.now
