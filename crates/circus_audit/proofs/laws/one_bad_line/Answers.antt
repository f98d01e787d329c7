use Rattle.circus_audit.proofs.Beginnings.{one_line}
use Rattle.circus_audit.proofs.laws.one_bad_line.Goals as goal

pub returns : goal.returns
returns c = one_line
