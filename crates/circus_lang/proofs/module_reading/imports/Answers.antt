use Rattle.circus_syntax.proofs.ByWord.{if_ok}
use Rattle.circus_lang.proofs.Steps.{imports_some, imports_none}
use Rattle.circus_lang.proofs.module_reading.imports.Goals as goal

pub returns-then-sees_word : goal.returns-then-sees_word
returns-then-sees_word c =
    if_ok c.names.result _ _ (λ read is. imports_some c.args.reader.now c.word.new.self c.names.new.self read c.sees_word.result c.sees_word.ensures c.if-sees_word.true c.word.ensures is) c.names.ensures

pub returns-else-sees_word : goal.returns-else-sees_word
returns-else-sees_word c = imports_none c.args.reader.now c.new.result c.sees_word.result c.sees_word.ensures c.if-sees_word.false c.new.ensures
