use Rattle.circus_audit.proofs.OneReading.{answer_is}
use Rattle.circus_audit.proofs.laws.text_is_read.Goals as goal

pub returns : goal.returns
returns c = answer_is
