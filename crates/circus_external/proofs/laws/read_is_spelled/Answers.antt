use Rattle.circus_external.proofs.Promises.{read_is_spelled, fields_read_are_spelled}
use Rattle.circus_external.proofs.laws.read_is_spelled.Goals as goal

pub returns-clause-value : goal.returns-clause-value
returns-clause-value c = read_is_spelled

pub returns-clause-fields : goal.returns-clause-fields
returns-clause-fields c = fields_read_are_spelled
