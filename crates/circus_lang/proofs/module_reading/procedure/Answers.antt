use Rattle.std.proofs.Common.{map}
use Rattle.circus_syntax.specs.Spelling.{most_levels}
use Rattle.circus_lang.specs.ModuleTree.{variable_of}
use Rattle.circus_lang.proofs.Steps.{procedure_is}
use Rattle.circus_lang.proofs.module_reading.procedure.Goals as goal

pub returns : goal.returns
returns c =
    procedure_is most_levels c.args.reader.now c.word.new.self c.name.new.self c.body.new.reader c.in_ok-name.name (record { variables = map variable_of c.in_ok-variables.variables; statements = c.in_ok-variables.statements })
    c.word.ensures c.in_ok-name.ensures c.in_ok-variables.ensures
