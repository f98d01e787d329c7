use Rattle.circus_pair.proofs.Joins.{parts_join}
use Rattle.circus_pair.proofs.laws.cut_messages_join.Goals as goal

pub returns : goal.returns
returns c = parts_join
