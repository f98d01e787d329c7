use Rattle.circus_headline_theory.proofs.OneRun.{there_is_one_run}
use Rattle.circus_headline_theory.proofs.laws.there_is_one_run.Goals as goal

pub returns : goal.returns
returns c = λ d b node number troupe one other kept last h k rises same. there_is_one_run d b node number troupe one other kept last h k rises same
