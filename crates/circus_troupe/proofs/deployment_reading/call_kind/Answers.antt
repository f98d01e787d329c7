use Rattle.circus_troupe.proofs.Steps.{call_at_least, call_majority, call_unanimous, call_first}
use Rattle.circus_troupe.proofs.deployment_reading.call_kind.Goals as goal

pub returns-then-sees_word : goal.returns-then-sees_word
returns-then-sees_word c = call_at_least c.args.reader.now c.at_least.new.reader c.at_least.result c.sees_word.result c.sees_word.ensures c.if-sees_word.true c.at_least.ensures

pub returns-then-sees_word-2 : goal.returns-then-sees_word-2
returns-then-sees_word-2 c =
    call_majority c.args.reader.now c.word.new.self c.place-at.result c.sees_word.result c.sees_word-2.result c.place-at.ensures c.sees_word.ensures c.if-sees_word.false c.sees_word-2.ensures c.if-sees_word-2.true c.word.ensures

pub returns-then-sees_word-3 : goal.returns-then-sees_word-3
returns-then-sees_word-3 c =
    call_unanimous c.args.reader.now c.word-then-sees_word-3.new.self c.place-at.result c.sees_word.result c.sees_word-2.result c.sees_word-else-sees_word-2.result
    c.place-at.ensures c.sees_word.ensures c.if-sees_word.false c.sees_word-2.ensures c.if-sees_word-2.false c.sees_word-else-sees_word-2.ensures c.if-sees_word-3.true c.word-then-sees_word-3.ensures

pub returns-else-sees_word-3 : goal.returns-else-sees_word-3
returns-else-sees_word-3 c =
    call_first c.args.reader.now c.word-else-sees_word-3.new.self c.place-at.result c.sees_word.result c.sees_word-2.result c.sees_word-else-sees_word-2.result
    c.place-at.ensures c.sees_word.ensures c.if-sees_word.false c.sees_word-2.ensures c.if-sees_word-2.false c.sees_word-else-sees_word-2.ensures c.if-sees_word-3.false c.word-else-sees_word-3.ensures
