use Rattle.circus_pair.proofs.Ticks.{ticks_are, suspicion_is}
use Rattle.circus_pair.proofs.laws.ticks_are_counted.Goals as goal

pub returns-clause-count : goal.returns-clause-count
returns-clause-count c = ticks_are

pub returns-clause-suspicion : goal.returns-clause-suspicion
returns-clause-suspicion c = suspicion_is
