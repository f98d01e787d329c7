use Rattle.std.proofs.Common.{arith}
use Rattle.circus_value.proofs.ShapeItems.{field_falls, arm_falls}
use Rattle.circus_idl.proofs.writer.Writer.+writing.Goals as goal

pub fields_inside-field-requires : goal.fields_inside-field-requires
fields_inside-field-requires t c =
    (omega (arith, c.decreases, field_falls _ _ _ c.loop-place-test.true c.index-fields-place.is), tt)

pub arms_inside-arm-requires : goal.arms_inside-arm-requires
arms_inside-arm-requires t c =
    (omega (arith, c.decreases, arm_falls _ _ _ c.loop-place-test.true c.index-arms-place.is), tt)
