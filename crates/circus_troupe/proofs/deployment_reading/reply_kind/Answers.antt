use Rattle.circus_troupe.proofs.Steps.{reply_watchdog, reply_call}
use Rattle.circus_troupe.proofs.deployment_reading.reply_kind.Goals as goal

pub returns-then-sees_word : goal.returns-then-sees_word
returns-then-sees_word c = reply_watchdog c.args.reader.now c.word.new.self c.place-at.result c.sees_word.result c.place-at.ensures c.sees_word.ensures c.if-sees_word.true c.word.ensures

pub returns-else-sees_word : goal.returns-else-sees_word
returns-else-sees_word c = reply_call c.args.reader.now c.call_kind.new.reader c.call_kind.result c.sees_word.result c.sees_word.ensures c.if-sees_word.false c.call_kind.ensures
