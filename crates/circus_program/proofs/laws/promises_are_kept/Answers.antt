use Rattle.circus_program.proofs.Promised.{keeps_promise, left_few, ends_kept, refused_kept, spent_kept}
use Rattle.circus_program.proofs.laws.promises_are_kept.Goals as goal

pub returns-clause-worlds : goal.returns-clause-worlds
returns-clause-worlds c = keeps_promise

pub returns-clause-done : goal.returns-clause-done
returns-clause-done c = ends_kept

pub returns-clause-refused : goal.returns-clause-refused
returns-clause-refused c = refused_kept

pub returns-clause-spent : goal.returns-clause-spent
returns-clause-spent c = spent_kept

pub returns-clause-enough : goal.returns-clause-enough
returns-clause-enough c = left_few
