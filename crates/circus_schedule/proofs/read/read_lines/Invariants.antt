use Rattle.std.proofs.Common.{length}
use Rattle.circus_schedule.specs.TextLines.{lines_of}
use Rattle.circus_schedule.specs.Seen.Table.{number_in}
use Rattle.circus_schedule.proofs.ReadSoFar.{IsReadSoFar}
use Rattle.circus_schedule.proofs.read.read_lines.Given as goal

abbrev pub invariant-loop-rest : goal.invariant-loop-rest
invariant-loop-rest l = IsReadSoFar (number_in l.numbers) l.bytes l.lines l.number l.rest

abbrev pub decreases-loop-rest : goal.decreases-loop-rest
decreases-loop-rest l = length (lines_of l.rest)
