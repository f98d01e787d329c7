use Rattle.circus_syntax.proofs.Whole.{interface_filled_in}
use Rattle.circus_syntax.proofs.laws.a_stop_is_filled_in.Goals as goal

pub returns : goal.returns
returns c = interface_filled_in
