use Rattle.circus_syntax.specs.Spelling.{most_levels}
use Rattle.circus_syntax.proofs.ByLine.{arguments_some, arguments_none}
use Rattle.circus_syntax.proofs.token_reader.Reader.arguments.Goals as goal

pub returns-in_ok-fields : goal.returns-in_ok-fields
returns-in_ok-fields c = arguments_some most_levels _ _ _ _ c.sees_sign.ensures c.if-sees_sign.true c.in_ok-fields.ensures

pub returns-else-sees_sign : goal.returns-else-sees_sign
returns-else-sees_sign c = arguments_none most_levels _ _ c.sees_sign.ensures c.if-sees_sign.false
