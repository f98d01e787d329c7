use Rattle.circus_lang.proofs.ReadIs.{too_deep_module}
use Rattle.circus_lang.proofs.laws.stops_at_the_too_deep.Goals as goal

pub returns : goal.returns
returns c = too_deep_module
