use Rattle.circus_check.proofs.ModulesInText.{in_order}
use Rattle.circus_check.proofs.laws.modules_are_in_order.Goals as goal

pub returns : goal.returns
returns c interfaces modules text are = in_order interfaces modules text are (c.tokens_lie.ensures text are.found are.tokens)
