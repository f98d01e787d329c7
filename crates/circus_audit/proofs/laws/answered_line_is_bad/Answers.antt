use Rattle.circus_audit.proofs.SomeRecord.{answer_is_bad}
use Rattle.circus_audit.proofs.laws.answered_line_is_bad.Goals as goal

pub returns : goal.returns
returns c = answer_is_bad
