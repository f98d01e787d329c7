use Rattle.circus_syntax.proofs.Whole.{interface_read}
use Rattle.circus_syntax.proofs.laws.interfaces_are_read.Goals as goal

pub returns : goal.returns
returns c = interface_read
