use Rattle.circus_troupe.proofs.Steps.{ringmaster_is}
use Rattle.circus_troupe.proofs.deployment_reading.ringmaster.Goals as goal

pub returns : goal.returns
returns c =
    ringmaster_is c.args.reader.now c.word.new.self c.name.new.self c.word-2.new.self c.number-port.new.self c.sign.new.self c.in_ok-name.name c.number-port.result
    c.word.ensures c.in_ok-name.ensures c.word-2.ensures c.number-port.ensures c.sign.ensures
