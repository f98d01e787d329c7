use Rattle.std.proofs.Common.{◌∙◌, ap}
use Rattle.circus_syntax.specs.Spelling.{most_levels}
use Rattle.circus_syntax.proofs.ByWord.{if_ok}
use Rattle.circus_expression.specs.Standing.{show_as}
use Rattle.circus_lang.specs.ModuleStanding.{module_stands_for}
use Rattle.circus_lang.proofs.Steps.{module_is_root, module_is_serving}
use Rattle.circus_lang.proofs.module_reading.module_or_root.Goals as goal

pub returns-then-sees_word : goal.returns-then-sees_word
returns-then-sees_word c =
    if_ok c.root.result _ _ (λ read is. ap (show_as module_stands_for) (module_is_root most_levels c.args.reader.now c.sees_word.result c.sees_word.ensures c.if-sees_word.true) ∙ is) c.root.ensures

pub returns-else-sees_word : goal.returns-else-sees_word
returns-else-sees_word c =
    if_ok c.serving_module.result _ _ (λ read is. ap (show_as module_stands_for) (module_is_serving most_levels c.args.reader.now c.sees_word.result c.sees_word.ensures c.if-sees_word.false) ∙ is) c.serving_module.ensures
