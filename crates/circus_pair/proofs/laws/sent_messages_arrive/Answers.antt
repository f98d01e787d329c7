use Rattle.circus_pair.proofs.Joins.{arrives_as_sent}
use Rattle.circus_pair.proofs.laws.sent_messages_arrive.Goals as goal

pub returns : goal.returns
returns c = arrives_as_sent
