use Rattle.circus_expression.proofs.Ends.{read_whole}
use Rattle.circus_statement.proofs.Lawfulness.{lawful_block}
use Rattle.circus_statement.proofs.laws.read_are_statements.Goals as goal

pub returns : goal.returns
returns c = λ levels lead. read_whole (λ n m above. lawful_block n m above lead) levels
