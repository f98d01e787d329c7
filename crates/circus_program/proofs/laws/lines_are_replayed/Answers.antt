use Rattle.circus_program.proofs.Replayed.{is_replayed}
use Rattle.circus_program.proofs.laws.lines_are_replayed.Goals as goal

pub returns : goal.returns
returns c = is_replayed
