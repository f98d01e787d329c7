use Rattle.circus_syntax.proofs.Whole.{interface_whole}
use Rattle.circus_syntax.proofs.laws.read_is_an_interface.Goals as goal

pub returns : goal.returns
returns c = interface_whole
