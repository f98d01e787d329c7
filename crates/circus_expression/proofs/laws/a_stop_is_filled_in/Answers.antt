use Rattle.circus_expression.proofs.Ends.{filled_in}
use Rattle.circus_expression.proofs.EveryLevel.{expressions_lawful}
use Rattle.circus_expression.proofs.laws.a_stop_is_filled_in.Goals as goal

pub returns : goal.returns
returns c = filled_in expressions_lawful
