use Rattle.circus_file.proofs.Whole.{program_read}
use Rattle.circus_file.proofs.laws.programs_are_read.Goals as goal

pub returns : goal.returns
returns c = program_read
