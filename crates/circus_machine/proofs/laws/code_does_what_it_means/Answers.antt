use Rattle.circus_machine.proofs.Compiling.{body_comes}
use Rattle.circus_machine.proofs.laws.code_does_what_it_means.Goals as goal

pub returns : goal.returns
returns c = body_comes
