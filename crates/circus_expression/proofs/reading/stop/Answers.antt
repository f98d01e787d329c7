use Rattle.circus_expression.proofs.Stands.{stopped_is}
use Rattle.circus_expression.proofs.reading.stop.Goals as goal

pub returns : goal.returns
returns c = stopped_is c.args.cause c.args.reader.now c.stop_here.new.self c.name.new.self c.in_ok-name.name c.new-suffixes.result c.stop_here.ensures c.in_ok-name.ensures c.new-suffixes.ensures
