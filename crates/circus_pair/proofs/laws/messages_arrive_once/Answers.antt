use Rattle.circus_pair.proofs.OneEnd.{arrived_once, are_taken, awaited}
use Rattle.circus_pair.proofs.laws.messages_arrive_once.Goals as goal

pub returns-clause-once : goal.returns-clause-once
returns-clause-once c = arrived_once

pub returns-clause-taken : goal.returns-clause-taken
returns-clause-taken c = are_taken

pub returns-clause-awaited : goal.returns-clause-awaited
returns-clause-awaited c = awaited
