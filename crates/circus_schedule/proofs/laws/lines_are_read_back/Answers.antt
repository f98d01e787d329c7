use Rattle.circus_schedule.proofs.ReadBack.{read_back}
use Rattle.circus_schedule.proofs.laws.lines_are_read_back.Goals as goal

pub returns : goal.returns
returns c = λ deployment called lines is names. read_back deployment called is names lines
