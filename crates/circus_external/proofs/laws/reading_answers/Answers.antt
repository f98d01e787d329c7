use Rattle.circus_external.proofs.Promises.{reading_answers, fields_reading_answers}
use Rattle.circus_external.proofs.laws.reading_answers.Goals as goal

pub returns-clause-value : goal.returns-clause-value
returns-clause-value c = reading_answers

pub returns-clause-fields : goal.returns-clause-fields
returns-clause-fields c = fields_reading_answers
