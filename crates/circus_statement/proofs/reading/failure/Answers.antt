use Rattle.circus_statement.proofs.Steps.{failure_is}
use Rattle.circus_statement.proofs.reading.failure.Goals as goal

pub returns : goal.returns
returns c = failure_is c.args.levels c.args.reader.now c.word.new.self c.name.new.self c.required_list.new.reader c.sign.new.self c.in_ok-error.error c.in_ok-values.values c.word.ensures c.in_ok-error.ensures c.in_ok-values.ensures c.sign.ensures
