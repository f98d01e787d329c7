use Rattle.std.proofs.Common.{◌∙◌, ap, map}
use Rattle.circus_syntax.proofs.ByWord.{if_ok}
use Rattle.circus_expression.specs.Standing.{show_as, stands_for}
use Rattle.circus_statement.proofs.Steps.{required_list_seen, required_list_missed}
use Rattle.circus_statement.proofs.part_reading.required_list.Goals as goal

pub returns-then-sees_sign : goal.returns-then-sees_sign
returns-then-sees_sign c =
    if_ok c.list_text.result _ _ (λ read is. ap (show_as (map stands_for)) (required_list_seen c.args.levels c.args.reader.now c.sees_sign.result c.sees_sign.ensures c.if-sees_sign.true) ∙ is) c.list_text.ensures

pub returns : goal.returns
returns c = required_list_missed c.args.levels c.args.reader.now c.stop_here.new.self c.new.result c.sees_sign.result c.sees_sign.ensures c.if-sees_sign.false c.stop_here.ensures c.new.ensures
