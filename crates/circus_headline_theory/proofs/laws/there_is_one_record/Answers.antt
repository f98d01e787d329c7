use Rattle.circus_headline_theory.proofs.One.{there_is_one_record}
use Rattle.circus_headline_theory.proofs.laws.there_is_one_record.Goals as goal

pub returns : goal.returns
returns c = λ d b node number troupe one other kept last h k same. there_is_one_record d b node number troupe one other kept last h k same
