use Rattle.circus_statement.specs.StatementOf.{into_of}
use Rattle.circus_statement.proofs.Steps.{into_some, into_none}
use Rattle.circus_statement.proofs.part_reading.into_if_any.Goals as goal

pub returns-in_ok-into : goal.returns-in_ok-into
returns-in_ok-into c = into_some c.args.levels c.args.reader.now c.into.new.reader (into_of c.in_ok-into.field-0) c.sees_word.result c.sees_word.ensures c.if-sees_word.true c.in_ok-into.ensures

pub returns-else-sees_word : goal.returns-else-sees_word
returns-else-sees_word c = into_none c.args.levels c.args.reader.now c.sees_word.result c.sees_word.ensures c.if-sees_word.false
