use Rattle.circus_syntax.proofs.Whole.{interface_too_deep}
use Rattle.circus_syntax.proofs.laws.stops_at_the_too_deep.Goals as goal

pub returns : goal.returns
returns c = interface_too_deep
