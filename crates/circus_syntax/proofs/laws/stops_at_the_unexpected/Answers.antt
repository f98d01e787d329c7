use Rattle.circus_syntax.proofs.Whole.{interface_unexpected}
use Rattle.circus_syntax.proofs.laws.stops_at_the_unexpected.Goals as goal

pub returns : goal.returns
returns c = interface_unexpected
