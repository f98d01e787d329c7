use Rattle.circus_resolve.proofs.Deciding.{shapes_decide}
use Rattle.circus_resolve.proofs.laws.same_is_equal.Goals as goal

pub returns : goal.returns
returns c s t = shapes_decide s t
