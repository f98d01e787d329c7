use Rattle.std.proofs.Common.{refl}
use Rattle.circus_expression.proofs.Ends.{unexpected}
use Rattle.circus_statement.proofs.Lawfulness.{lawful_block}
use Rattle.circus_statement.proofs.laws.stops_at_the_unexpected.Goals as goal

pub returns : goal.returns
returns c = λ levels lead. unexpected (λ n m above. lawful_block n m above lead) refl levels
