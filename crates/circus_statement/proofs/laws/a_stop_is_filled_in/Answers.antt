use Rattle.circus_expression.proofs.Ends.{filled_in}
use Rattle.circus_statement.proofs.Lawfulness.{lawful_block}
use Rattle.circus_statement.proofs.laws.a_stop_is_filled_in.Goals as goal

pub returns : goal.returns
returns c = λ levels lead. filled_in (λ n m above. lawful_block n m above lead) levels
