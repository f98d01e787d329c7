use Rattle.circus_expression.proofs.Ends.{reads}
use Rattle.circus_statement.proofs.Lawfulness.{lawful_block}
use Rattle.circus_statement.proofs.laws.statements_are_read.Goals as goal

pub returns : goal.returns
returns c = λ levels lead own rest ss end are within ends. reads (λ n m above. lawful_block n m above lead) levels own rest ss end are within ends
