use Rattle.std.proofs.Common.{arith}
use Rattle.circus_expression.proofs.Ends.{too_deep}
use Rattle.circus_expression.proofs.EveryLevel.{expressions_lawful}
use Rattle.circus_expression.proofs.laws.stops_at_the_too_deep.Goals as goal

pub returns : goal.returns
returns c = too_deep expressions_lawful (omega arith)
