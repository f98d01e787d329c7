use Rattle.circus_file.proofs.Whole.{program_one}
use Rattle.circus_file.proofs.laws.one_program.Goals as goal

pub returns : goal.returns
returns c = program_one
