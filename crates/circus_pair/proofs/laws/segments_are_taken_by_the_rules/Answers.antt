use Rattle.circus_pair.proofs.Outputs.{taken_is}
use Rattle.circus_pair.proofs.laws.segments_are_taken_by_the_rules.Goals as goal

pub returns : goal.returns
returns c = taken_is
