use Rattle.circus_syntax.proofs.ByLine.{reports_some, reports_none}
use Rattle.circus_syntax.proofs.token_reader.Reader.reports.Goals as goal

pub returns-in_ok-error_names : goal.returns-in_ok-error_names
returns-in_ok-error_names c = reports_some _ _ _ _ c.sees_word.ensures c.if-sees_word.true c.in_ok-error_names.ensures

pub returns-else-sees_word : goal.returns-else-sees_word
returns-else-sees_word c = reports_none _ _ c.sees_word.ensures c.if-sees_word.false
