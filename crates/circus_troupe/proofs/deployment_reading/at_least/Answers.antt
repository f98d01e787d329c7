use Rattle.circus_troupe.proofs.Steps.{at_least_is}
use Rattle.circus_troupe.proofs.deployment_reading.at_least.Goals as goal

pub returns : goal.returns
returns c =
    at_least_is c.args.reader.now c.word.new.self c.word-2.new.self c.number-least.new.self c.place-at.result c.number-least.result c.place-at.ensures c.word.ensures c.word-2.ensures c.number-least.ensures
