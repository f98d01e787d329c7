use Rattle.circus_statement.proofs.Steps.{ended_is}
use Rattle.circus_statement.proofs.part_reading.list_end.Goals as goal

pub returns : goal.returns
returns c = ended_is c.args.reader.now c.word.new.self c.sign.new.self c.word.ensures c.sign.ensures
