use Rattle.circus_wire.proofs.Histories.{knows_lawful, knows_up, knows_next}
use Rattle.circus_wire.proofs.laws.wires_know_their_acts.Goals as goal

pub returns-clause-lawful : goal.returns-clause-lawful
returns-clause-lawful g c = knows_lawful

pub returns-clause-up : goal.returns-clause-up
returns-clause-up g c = knows_up

pub returns-clause-next : goal.returns-clause-next
returns-clause-next g c = knows_next
