use Rattle.circus_troupe.proofs.Steps.{host_is}
use Rattle.circus_troupe.proofs.deployment_reading.host.Goals as goal

pub returns : goal.returns
returns c = host_is c.args.reader.now c.name.new.self c.word.new.self c.number-port.new.self c.in_ok-name.name c.number-port.result c.in_ok-name.ensures c.word.ensures c.number-port.ensures
