use Rattle.circus_syntax.specs.Spelling.{most_levels}
use Rattle.circus_syntax.proofs.ByLine.{results_some, results_none}
use Rattle.circus_syntax.proofs.token_reader.Reader.results.Goals as goal

pub returns-in_ok-fields : goal.returns-in_ok-fields
returns-in_ok-fields c = results_some most_levels _ _ _ _ _ c.sees_word.ensures c.if-sees_word.true c.word.ensures c.in_ok-fields.ensures

pub returns-else-sees_word : goal.returns-else-sees_word
returns-else-sees_word c = results_none most_levels _ _ c.sees_word.ensures c.if-sees_word.false
