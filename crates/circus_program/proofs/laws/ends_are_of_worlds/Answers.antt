use Rattle.circus_program.proofs.Simulated.{simulated_written}
use Rattle.circus_program.proofs.laws.ends_are_of_worlds.Goals as goal

pub returns : goal.returns
returns c = simulated_written
