use Rattle.circus_external.proofs.Promises.{answer_one, fields_answer_one}
use Rattle.circus_external.proofs.laws.one_answer.Goals as goal

pub returns-clause-value : goal.returns-clause-value
returns-clause-value c = answer_one

pub returns-clause-fields : goal.returns-clause-fields
returns-clause-fields c = fields_answer_one
