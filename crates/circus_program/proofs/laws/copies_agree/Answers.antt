use Rattle.circus_program.proofs.Agreed.{agreed_of_kept, agreed_so_far}
use Rattle.circus_program.proofs.laws.copies_agree.Goals as goal

pub returns-clause-done : goal.returns-clause-done
returns-clause-done c = agreed_of_kept

pub returns-clause-so_far : goal.returns-clause-so_far
returns-clause-so_far c = agreed_so_far
