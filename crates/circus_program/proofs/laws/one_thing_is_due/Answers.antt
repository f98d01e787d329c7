use Rattle.circus_program.proofs.OneDue.{one_due}
use Rattle.circus_program.proofs.SomeDue.{some_due, read_due}
use Rattle.circus_program.proofs.laws.one_thing_is_due.Goals as goal

pub returns-clause-one : goal.returns-clause-one
returns-clause-one c = one_due

pub returns-clause-some : goal.returns-clause-some
returns-clause-some c = some_due

pub returns-clause-read : goal.returns-clause-read
returns-clause-read c = read_due
