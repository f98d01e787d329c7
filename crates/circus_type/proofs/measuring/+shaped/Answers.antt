use Rattle.std.proofs.Common.{arith, ap, ◌-◌}
use Rattle.circus_value.specs.ShapeOf.{tree_of}
use Rattle.circus_value.specs.Seen.ShapeWeight.{weight}
use Rattle.circus_value.specs.declared.shape.Field.{Field}
use Rattle.circus_value.specs.declared.shape.Arm.{Arm}
use Rattle.circus_value.proofs.ShapeItems.{field_falls, arm_falls}
use Rattle.circus_type.proofs.measuring.+shaped.Goals as goal

pub arms_measure-shape_measure-requires : goal.arms_measure-shape_measure-requires
arms_measure-shape_measure-requires t c =
    let is = c.index-arms-place.is in
    (omega (arith, c.decreases, arm_falls c.args.arms.now (c.loop-place.place - 1) c.index-arms-place.result (omega arith) is, ap (λ (a : Arm). weight (tree_of a.shape)) is), tt)

pub fields_measure-shape_measure-requires : goal.fields_measure-shape_measure-requires
fields_measure-shape_measure-requires t c =
    let is = c.index-fields-place.is in
    (omega (arith, c.decreases, field_falls c.args.fields.now (c.loop-place.place - 1) c.index-fields-place.result (omega arith) is, ap (λ (f : Field). weight (tree_of f.shape)) is), tt)
