use Rattle.circus_lang.proofs.Steps.{heading_is}
use Rattle.circus_lang.proofs.module_reading.heading.Goals as goal

pub returns : goal.returns
returns c = heading_is c.args.reader.now c.imports.new.reader c.sign.new.self c.word.new.self c.in_ok-imports.imports c.in_ok-imports.ensures c.sign.ensures c.word.ensures
