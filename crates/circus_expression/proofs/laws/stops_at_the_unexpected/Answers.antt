use Rattle.std.proofs.Common.{arith}
use Rattle.circus_expression.proofs.Ends.{unexpected}
use Rattle.circus_expression.proofs.EveryLevel.{expressions_lawful}
use Rattle.circus_expression.proofs.laws.stops_at_the_unexpected.Goals as goal

pub returns : goal.returns
returns c = unexpected expressions_lawful (omega arith)
