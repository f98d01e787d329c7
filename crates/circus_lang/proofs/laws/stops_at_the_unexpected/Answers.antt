use Rattle.circus_lang.proofs.ReadIs.{unexpected_module}
use Rattle.circus_lang.proofs.laws.stops_at_the_unexpected.Goals as goal

pub returns : goal.returns
returns c = unexpected_module
