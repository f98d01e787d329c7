use Rattle.circus_idl.proofs.OneAnswer.{one_reading}
use Rattle.circus_idl.proofs.ReadIs.{some_reading}
use Rattle.circus_idl.proofs.laws.one_reading.Goals as goal

pub returns-clause-some : goal.returns-clause-some
returns-clause-some c = some_reading

pub returns-clause-stop : goal.returns-clause-stop
returns-clause-stop c ts end one other tree same first second = (one_reading ts end one other tree same c.one_filling.ensures first second).0

pub returns-clause-tree : goal.returns-clause-tree
returns-clause-tree c ts end one other tree same first second = (one_reading ts end one other tree same c.one_filling.ensures first second).1
