use Rattle.circus_expression.proofs.Ends.{read_whole}
use Rattle.circus_expression.proofs.EveryLevel.{expressions_lawful}
use Rattle.circus_expression.proofs.laws.read_is_an_expression.Goals as goal

pub returns : goal.returns
returns c = read_whole expressions_lawful
