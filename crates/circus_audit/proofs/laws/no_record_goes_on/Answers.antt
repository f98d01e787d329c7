use Rattle.circus_audit.proofs.BadAnswer.{none_begins}
use Rattle.circus_audit.proofs.laws.no_record_goes_on.Goals as goal

pub returns : goal.returns
returns c = none_begins
