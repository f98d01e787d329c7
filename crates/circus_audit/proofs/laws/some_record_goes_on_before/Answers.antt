use Rattle.circus_audit.proofs.SomeRecord.{some_begins}
use Rattle.circus_audit.proofs.laws.some_record_goes_on_before.Goals as goal

pub returns : goal.returns
returns c = some_begins
