use Rattle.std.proofs.Common.{◌++◌, map, ◌∙◌, ap}
use Rattle.std.specs.Prelude.{codes}
use Rattle.circus_syntax.specs.Spelling.{most_levels}
use Rattle.circus_lang.specs.ModuleTree.{variable_of}
use Rattle.circus_lang.proofs.Steps.{main_is}
use Rattle.circus_lang.proofs.module_reading.main_procedure.Goals as goal

pub returns : goal.returns
returns c =
    main_is most_levels c.args.reader.now c.word.new.self c.body.new.reader c.append.new.self c.place-at.result (record { variables = map variable_of c.in_ok-variables.variables; statements = c.in_ok-variables.statements })
    (c.in_ok-append.ensures.ok ∙ ap (λ l. l ++ codes "MAIN") c.new-name.ensures) c.place-at.ensures c.word.ensures c.in_ok-variables.ensures
