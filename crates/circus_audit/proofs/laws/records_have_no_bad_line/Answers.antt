use Rattle.circus_audit.proofs.Beginnings.{none_of_record}
use Rattle.circus_audit.proofs.laws.records_have_no_bad_line.Goals as goal

pub returns : goal.returns
returns c = none_of_record
