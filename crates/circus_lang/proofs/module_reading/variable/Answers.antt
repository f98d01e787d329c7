use Rattle.circus_syntax.specs.Spelling.{most_levels}
use Rattle.circus_syntax.specs.TypeOf.{tree_of}
use Rattle.circus_lang.proofs.Steps.{variable_is}
use Rattle.circus_lang.proofs.module_reading.variable.Goals as goal

pub returns : goal.returns
returns c =
    variable_is most_levels c.args.reader.now c.word.new.self c.name.new.self c.sign.new.self c.type_text.new.self c.sign-2.new.self c.in_ok-name.name (tree_of c.in_ok-shape.shape)
    c.word.ensures c.in_ok-name.ensures c.sign.ensures c.in_ok-shape.ensures c.sign-2.ensures
