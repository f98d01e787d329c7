use Rattle.std.proofs.Common.{refl}
use Rattle.circus_expression.proofs.Ends.{too_deep}
use Rattle.circus_statement.proofs.Lawfulness.{lawful_block}
use Rattle.circus_statement.proofs.laws.stops_at_the_too_deep.Goals as goal

pub returns : goal.returns
returns c = λ levels lead. too_deep (λ n m above. lawful_block n m above lead) refl levels
