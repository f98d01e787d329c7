use Rattle.std.proofs.Common.{arith, ap}
use Rattle.circus_value.specs.ShapeOf.{tree_of}
use Rattle.circus_value.specs.Seen.ShapeWeight.{weight}
use Rattle.circus_value.specs.declared.shape.Field.{Field}
use Rattle.circus_value.proofs.ShapeItems.{field_falls}
use Rattle.circus_modules.proofs.zero.+zero.Goals as goal

pub zero_fields-zero_value-requires : goal.zero_fields-zero_value-requires
zero_fields-zero_value-requires t c =
    let is = c.field-item.is in
    (omega (arith, c.decreases, field_falls c.args.fields.now _ c.field-item.result c.loop-field-test.true is, ap (λ (f : Field). weight (tree_of f.shape)) is), tt)
