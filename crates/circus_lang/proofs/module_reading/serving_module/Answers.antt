use Rattle.std.proofs.Common.{map}
use Rattle.circus_syntax.specs.Spelling.{most_levels}
use Rattle.circus_lang.specs.ModuleTree.{variable_of, procedure_of}
use Rattle.circus_lang.proofs.Steps.{serving_is}
use Rattle.circus_lang.proofs.module_reading.serving_module.Goals as goal

pub returns : goal.returns
returns c =
    serving_is most_levels c.args.reader.now c.word.new.self c.name.new.self c.word-2.new.self c.name-2.new.self c.heading.new.reader c.variables.new.reader c.procedures.new.reader c.module_end.new.reader
    c.in_ok-name.name c.in_ok-interface.interface c.in_ok-imports.imports (map variable_of c.in_ok-variables.variables) (map procedure_of c.in_ok-procedures.procedures)
    c.word.ensures c.in_ok-name.ensures c.word-2.ensures c.in_ok-interface.ensures c.in_ok-imports.ensures c.in_ok-variables.ensures c.in_ok-procedures.ensures c.module_end.ensures
