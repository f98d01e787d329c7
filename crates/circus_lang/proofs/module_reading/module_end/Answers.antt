use Rattle.circus_lang.proofs.Steps.{closing_is}
use Rattle.circus_lang.proofs.module_reading.module_end.Goals as goal

pub returns : goal.returns
returns c = closing_is c.args.reader.now c.word.new.self c.sign.new.self c.word.ensures c.sign.ensures
