use Rattle.circus_fanout.proofs.Learning.{wanted_greatest}
use Rattle.circus_fanout.proofs.laws.wanted_are_the_greatest.Goals as goal

pub returns : goal.returns
returns c = wanted_greatest
