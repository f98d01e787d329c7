use Rattle.circus_schedule.proofs.WrittenAsRead.{written_from_read, read_from_written}
use Rattle.circus_schedule.proofs.laws.written_is_read.Goals as goal

pub returns : goal.returns
returns c = λ numbers text lines. (
  written_from_read numbers text lines,
  λ is. read_from_written numbers text lines is.0 is.1 is.2,
)
