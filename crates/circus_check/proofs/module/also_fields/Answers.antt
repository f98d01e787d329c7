use Rattle.std.proofs.Common.{◌+◌, ◌∙◌, ap, sym, map, drop}
use Rattle.circus_value.specs.ShapeOf.{field_of}
use Rattle.circus_value.specs.ShapeTree.{field_trees}
use Rattle.circus_fault.specs.Seen.Tables.{holds_name}
use Rattle.circus_type.proofs.Dropped.{drop_more}
use Rattle.circus_check.specs.Faults.{also_fields}
use Rattle.circus_check.proofs.module.also_fields.Goals as goal

pub loop-field-preserved : goal.loop-field-preserved
loop-field-preserved c =
    let fs = c.as_slice-field-items.result.now in
    let old = c.loop-field in
    let left = drop_more fs old.field-index c.field-item.result c.loop-field-test.true c.field-item.is in
    ap (also_fields (field_trees (map field_of (drop (old.field-index + 1) fs)))) c.in_ok-add_name.ensures
    ∙ ap (λ gs. also_fields (field_trees (map field_of gs)) (holds_name old.names)) (sym left) ∙ old.invariant
