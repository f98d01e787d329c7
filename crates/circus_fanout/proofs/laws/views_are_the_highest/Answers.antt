use Rattle.circus_fanout.proofs.Learning.{views_highest}
use Rattle.circus_fanout.proofs.laws.views_are_the_highest.Goals as goal

pub returns : goal.returns
returns c = views_highest
