use Rattle.circus_fanout.proofs.Learning.{down_declared}
use Rattle.circus_fanout.proofs.laws.down_are_declared.Goals as goal

pub returns : goal.returns
returns c = down_declared
