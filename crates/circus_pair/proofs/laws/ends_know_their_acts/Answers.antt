use Rattle.circus_exchange.specs.Exchange.{start}
use Rattle.circus_pair.proofs.Flowing.{flows_after}
use Rattle.circus_pair.proofs.Handing.{format_stays, awaits_is}
use Rattle.circus_pair.proofs.Keeping.{stands_lawful, hands_lawful}
use Rattle.circus_pair.proofs.laws.ends_know_their_acts.Goals as goal

pub returns-clause-format : goal.returns-clause-format
returns-clause-format c first format acts = format_stays (start first format) acts

pub returns-clause-next : goal.returns-clause-next
returns-clause-next c first format acts lawful = (hands_lawful first format acts lawful).next

pub returns-clause-down : goal.returns-clause-down
returns-clause-down c first format acts lawful = (flows_after first format acts lawful).stopped

pub returns-clause-awaits : goal.returns-clause-awaits
returns-clause-awaits c first format acts call lawful =
    awaits_is first acts _ _ call (stands_lawful first format acts lawful) (hands_lawful first format acts lawful)
