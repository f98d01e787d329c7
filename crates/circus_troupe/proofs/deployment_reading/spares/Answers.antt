use Rattle.circus_troupe.proofs.Steps.{spares_some, spares_none}
use Rattle.circus_troupe.proofs.deployment_reading.spares.Goals as goal

pub returns-in_ok-hosts : goal.returns-in_ok-hosts
returns-in_ok-hosts c = spares_some c.args.reader.now c.word.new.self c.hosts.new.reader c.in_ok-hosts.field-0 c.sees_word.result c.sees_word.ensures c.if-sees_word.true c.word.ensures c.in_ok-hosts.ensures

pub returns-else-sees_word : goal.returns-else-sees_word
returns-else-sees_word c = spares_none c.args.reader.now c.sees_word.result c.sees_word.ensures c.if-sees_word.false
