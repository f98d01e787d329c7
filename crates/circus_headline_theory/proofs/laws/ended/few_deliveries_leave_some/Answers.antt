use Rattle.circus_headline_theory.proofs.Ended.{left_few}
use Rattle.circus_headline_theory.proofs.laws.ended.few_deliveries_leave_some.Goals as goal

pub returns : goal.returns
returns c = left_few
