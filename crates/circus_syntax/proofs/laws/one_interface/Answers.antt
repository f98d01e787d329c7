use Rattle.circus_syntax.proofs.Whole.{interface_one}
use Rattle.circus_syntax.proofs.laws.one_interface.Goals as goal

pub returns : goal.returns
returns c = interface_one
