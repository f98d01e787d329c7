use Rattle.std.proofs.Common.{[], ◌∷◌, ◌++◌, map, ◌∙◌, ap}
use Rattle.circus_syntax.specs.Spelling.{most_levels}
use Rattle.circus_lang.specs.ModuleTree.{variable_of, procedure_of}
use Rattle.circus_lang.proofs.Steps.{root_is}
use Rattle.circus_lang.proofs.module_reading.root.Goals as goal

pub returns : goal.returns
returns c =
    root_is most_levels c.args.reader.now c.word.new.self c.name.new.self c.heading.new.reader c.variables.new.reader c.main_procedure.new.reader c.module_end.new.reader
    c.in_ok-name.name c.in_ok-imports.imports (map variable_of c.in_ok-variables.variables) (procedure_of c.in_ok-main_procedure.field-0) (map procedure_of c.push.new.self)
    c.word.ensures c.in_ok-name.ensures c.in_ok-imports.ensures c.in_ok-variables.ensures c.in_ok-main_procedure.ensures
    (ap (map procedure_of) (c.in_ok-push.ensures.ok ∙ ap (λ l. l ++ c.in_ok-main_procedure.field-0 ∷ []) c.new-procedures.ensures)) c.module_end.ensures
