use Rattle.std.proofs.Common.{ap, arith}
use Rattle.circus_value.specs.ShapeTree.{field_trees, arm_trees}
use Rattle.circus_value.specs.Seen.ShapeWeight.{field_weights, arm_weights}
use Rattle.circus_value.proofs.ShapeItems.{field_falls, arm_falls}
use Rattle.circus_value.proofs.words.+spelling.Goals as goal

pub spell_fields-spell_shape-requires : goal.spell_fields-spell_shape-requires
spell_fields-spell_shape-requires t c =
    let light = field_falls c.as_slice-field-items.result.now c.loop-field.field-index c.field-item.result c.loop-field-test.true c.field-item.is in
    (omega (arith, light, ap (λ fs. field_weights (field_trees fs)) c.as_slice-field-items.ensures, c.decreases), tt)

pub spell_arms-spell_shape-requires : goal.spell_arms-spell_shape-requires
spell_arms-spell_shape-requires t c =
    let light = arm_falls c.as_slice-arm-items.result.now c.loop-arm.arm-index c.arm-item.result c.loop-arm-test.true c.arm-item.is in
    (omega (arith, light, ap (λ xs. arm_weights (arm_trees xs)) c.as_slice-arm-items.ensures, c.decreases), tt)
