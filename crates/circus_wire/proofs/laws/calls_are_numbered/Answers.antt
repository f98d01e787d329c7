use Rattle.circus_wire.proofs.Histories.{made_is, message_at, purpose_at, purpose_stays}
use Rattle.circus_wire.proofs.laws.calls_are_numbered.Goals as goal

pub returns-clause-count : goal.returns-clause-count
returns-clause-count g c = made_is

pub returns-clause-message : goal.returns-clause-message
returns-clause-message g c = message_at

pub returns-clause-purpose : goal.returns-clause-purpose
returns-clause-purpose g c = purpose_at

pub returns-clause-stays : goal.returns-clause-stays
returns-clause-stays g c = purpose_stays
