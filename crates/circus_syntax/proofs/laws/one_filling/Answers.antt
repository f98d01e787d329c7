use Rattle.circus_syntax.proofs.OneFilling.{one_filling}
use Rattle.circus_syntax.proofs.laws.one_filling.Goals as goal

pub returns : goal.returns
returns c = one_filling
