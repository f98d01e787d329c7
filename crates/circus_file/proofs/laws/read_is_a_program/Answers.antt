use Rattle.circus_file.proofs.Whole.{program_whole}
use Rattle.circus_file.proofs.laws.read_is_a_program.Goals as goal

pub returns : goal.returns
returns c = program_whole
