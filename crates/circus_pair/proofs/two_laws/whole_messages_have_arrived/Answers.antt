use Rattle.circus_pair.proofs.Agreeing.{arrived_once}
use Rattle.circus_pair.proofs.two_laws.whole_messages_have_arrived.Goals as goal

pub returns : goal.returns
returns c = arrived_once
