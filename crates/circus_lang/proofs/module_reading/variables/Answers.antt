use Rattle.std.proofs.Common.{[], ◌∷◌, map, ◌∙◌, ap}
use Rattle.std.proofs.lemmas.List.{map-append}
use Rattle.circus_syntax.specs.Spelling.{most_levels}
use Rattle.circus_lang.specs.ModuleTree.{variable_of}
use Rattle.circus_lang.proofs.Steps.{variables_begin, variables_step, variables_shorter, variables_end}
use Rattle.circus_lang.proofs.module_reading.variables.Goals as goal

pub loop-variables-init : goal.loop-variables-init
loop-variables-init c = variables_begin most_levels c.args.reader.now (map variable_of c.new-variables.result) (ap (map variable_of) c.new-variables.ensures)

pub loop-variables-smaller : goal.loop-variables-smaller
loop-variables-smaller c =
    variables_shorter most_levels c.loop-variables.reader c.variable.new.reader (variable_of c.in_ok-variable.field-0) c.sees_word.result c.sees_word.ensures c.loop-variables-test.true c.in_ok-variable.ensures

pub loop-variables-preserved : goal.loop-variables-preserved
loop-variables-preserved c =
    variables_step most_levels _ (map variable_of c.loop-variables.variables) (map variable_of c.push.new.self) c.loop-variables.reader c.variable.new.reader (variable_of c.in_ok-variable.field-0) c.sees_word.result
    c.loop-variables.invariant c.sees_word.ensures c.loop-variables-test.true c.in_ok-variable.ensures
    (ap (map variable_of) c.in_ok-push.ensures.ok ∙ map-append variable_of c.loop-variables.variables (c.in_ok-variable.field-0 ∷ []))

pub returns : goal.returns
returns c = variables_end most_levels _ (map variable_of c.loop-variables.variables) c.loop-variables.reader c.sees_word.result c.loop-variables.invariant c.sees_word.ensures c.loop-variables-test.false
