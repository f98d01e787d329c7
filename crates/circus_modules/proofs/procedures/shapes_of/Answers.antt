use Rattle.circus_modules.proofs.Shaped.{shapes_more}
use Rattle.circus_modules.proofs.procedures.shapes_of.Goals as goal

pub loop-field-preserved : goal.loop-field-preserved
loop-field-preserved c =
    shapes_more c.args.fields.now c.loop-field.field-index c.field-item.result c.loop-field.shapes c.push.new.self _ c.in_ok-copy.field-0 c.loop-field-test.true c.field-item.is c.in_ok-copy.ensures c.in_ok-push.ensures.ok c.loop-field.invariant
