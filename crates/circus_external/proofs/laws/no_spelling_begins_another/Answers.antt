use Rattle.circus_external.proofs.Promises.{begins_no_other, fields_begin_no_others}
use Rattle.circus_external.proofs.laws.no_spelling_begins_another.Goals as goal

pub returns-clause-value : goal.returns-clause-value
returns-clause-value c = begins_no_other

pub returns-clause-fields : goal.returns-clause-fields
returns-clause-fields c = fields_begin_no_others
