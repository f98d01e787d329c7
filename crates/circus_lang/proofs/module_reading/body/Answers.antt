use Rattle.std.proofs.Common.{map}
use Rattle.circus_syntax.specs.Spelling.{most_levels}
use Rattle.circus_lang.specs.ModuleTree.{variable_of}
use Rattle.circus_lang.proofs.Steps.{body_is}
use Rattle.circus_lang.proofs.module_reading.body.Goals as goal

pub returns : goal.returns
returns c =
    body_is most_levels c.args.reader.now c.variables.new.reader c.statements_text.new.reader c.word.new.self c.sign.new.self (map variable_of c.in_ok-variables.variables) c.in_ok-statements.statements
    c.in_ok-variables.ensures c.in_ok-statements.ensures c.word.ensures c.sign.ensures
