use Rattle.circus_pair.proofs.OneEnd.{sent_once, unsent_waits}
use Rattle.circus_pair.proofs.laws.calls_are_sent_once.Goals as goal

pub returns-clause-once : goal.returns-clause-once
returns-clause-once c = sent_once

pub returns-clause-waits : goal.returns-clause-waits
returns-clause-waits c = unsent_waits
