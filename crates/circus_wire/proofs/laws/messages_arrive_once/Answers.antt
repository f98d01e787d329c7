use Rattle.circus_wire.proofs.Histories.{arrives_once}
use Rattle.circus_wire.proofs.laws.messages_arrive_once.Goals as goal

pub returns : goal.returns
returns g c = arrives_once
