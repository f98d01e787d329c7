use Rattle.circus_external.proofs.Promises.{spelled_read, fields_spelled_read}
use Rattle.circus_external.proofs.laws.spelled_is_read.Goals as goal

pub returns-clause-value : goal.returns-clause-value
returns-clause-value c = spelled_read

pub returns-clause-fields : goal.returns-clause-fields
returns-clause-fields c = fields_spelled_read
