use Rattle.circus_statement.proofs.Steps.{end_is}
use Rattle.circus_statement.proofs.reading.end.Goals as goal

pub returns : goal.returns
returns c = end_is c.args.levels c.args.reader.now c.word.new.self c.required_list.new.reader c.sign.new.self c.in_ok-results.results c.word.ensures c.in_ok-results.ensures c.sign.ensures
