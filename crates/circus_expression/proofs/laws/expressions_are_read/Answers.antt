use Rattle.circus_syntax.specs.Placed.{first}
use Rattle.circus_expression.proofs.Ends.{reads}
use Rattle.circus_expression.proofs.EveryLevel.{expressions_lawful, ends_stay}
use Rattle.circus_expression.proofs.laws.expressions_are_read.Goals as goal

pub returns : goal.returns
returns c = λ levels own rest w end are within ends. reads expressions_lawful levels own rest w end are within (ends_stay (first rest) ends)
