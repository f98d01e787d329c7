use Rattle.std.proofs.Common.{◌+◌, ◌++◌, ◌∷◌, length, sym, ap, ◌∙◌, arith}
use Rattle.circus_value.specs.Seen.ShapeWeight.{field_weights, arm_weights}
use Rattle.circus_value.specs.ShapeOf.{tree_of}
use Rattle.circus_value.specs.ShapeTree.{field_trees, arm_trees}
use Rattle.circus_value.proofs.ShapeItems.{field_falls, arm_falls}
use Rattle.circus_stub.specs.declared.operation.Operation.TheVariants as operation
use Rattle.circus_stub.specs.Flat.{operations_in, operations_in_fields, operations_in_arms, flat, flat_fields, flat_arms}
use Rattle.circus_stub.proofs.FlatLemmas.{length-flat, length-flat_fields, length-flat_arms, field_count-field_trees, arm_count-arm_trees, part_added, field_added, arm_added}
use Rattle.circus_stub.proofs.compiler.+compiling.Goals as goal

pub add_shape-returns-in_ok-add_shape-in-Array : goal.add_shape-returns-in_ok-add_shape-in-Array
add_shape-returns-in_ok-add_shape-in-Array t c =
    let inner = rw c.shape.ensures at c.in_ok-add_shape-in-Array.ensures in
    rw c.in-Array.is (part_added (operation.Array c.in-Array.len) (flat c.in-Array.element) (operations_in c.in-Array.element) c.args.operations.now _ _ _ _ _ _ (length-flat c.in-Array.element) c.in_ok-push-in-Array.ensures.ok inner c.len-at.ensures c.len.ensures c.set.ensures)

pub add_shape-returns-in_ok-add_shape-in-Sequence :
    goal.add_shape-returns-in_ok-add_shape-in-Sequence
add_shape-returns-in_ok-add_shape-in-Sequence t c =
    let inner = rw c.shape-in-Sequence.ensures at c.in_ok-add_shape-in-Sequence.ensures in
    rw c.in-Sequence.is (part_added (operation.Sequence c.in-Sequence.bound) (flat c.in-Sequence.element) (operations_in c.in-Sequence.element) c.args.operations.now _ _ _ _ _ _ (length-flat c.in-Sequence.element) c.in_ok-push-in-Sequence.ensures.ok inner c.len-at.ensures c.len-in-Sequence.ensures c.set-in-Sequence.ensures)

pub add_shape-returns-in_ok-add_fields-in-Record :
    goal.add_shape-returns-in_ok-add_fields-in-Record
add_shape-returns-in_ok-add_fields-in-Record t c =
    let fields = field_trees c.in-Record.fields in
    let ops = c.args.operations.now in
    let count = c.len-in-Record-2.ensures ∙ sym (field_count-field_trees c.in-Record.fields) in
    let whole = part_added (operation.Record c.len-in-Record-2.result) (flat_fields fields) (operations_in_fields fields) ops _ _ _ _ _ _ (length-flat_fields fields) c.in_ok-push-in-Record.ensures.ok c.in_ok-add_fields-in-Record.ensures c.len-at.ensures c.len-in-Record-3.ensures c.set-in-Record.ensures in
    rw c.in-Record.is (whole ∙ ap (λ n. ops ++ (operation.Record n (length ops + 1 + operations_in_fields fields) ∷ flat_fields fields (length ops + 1))) count)

pub add_shape-returns-in_ok-add_arms-in-Choice : goal.add_shape-returns-in_ok-add_arms-in-Choice
add_shape-returns-in_ok-add_arms-in-Choice t c =
    let arms = arm_trees c.in-Choice.arms in
    let ops = c.args.operations.now in
    let count = c.len-in-Choice-2.ensures ∙ sym (arm_count-arm_trees c.in-Choice.arms) in
    let whole = part_added (operation.Choice c.len-in-Choice-2.result) (flat_arms arms) (operations_in_arms arms) ops _ _ _ _ _ _ (length-flat_arms arms) c.in_ok-push-in-Choice.ensures.ok c.in_ok-add_arms-in-Choice.ensures c.len-at.ensures c.len-in-Choice-3.ensures c.set-in-Choice.ensures in
    rw c.in-Choice.is (whole ∙ ap (λ n. ops ++ (operation.Choice n (length ops + 1 + operations_in_arms arms) ∷ flat_arms arms (length ops + 1))) count)

pub add_fields-loop-field-preserved : goal.add_fields-loop-field-preserved
add_fields-loop-field-preserved t c =
    field_added c.as_slice-field-items.result.now c.loop-field.field-index c.field-item.result c.loop-field.operations _ _ c.loop-field-test.true c.field-item.is c.in_ok-add_shape.ensures c.loop-field.invariant

pub add_arms-loop-arm-preserved : goal.add_arms-loop-arm-preserved
add_arms-loop-arm-preserved t c =
    let part = part_added (operation.Arm c.arm-item.result.number) (flat (tree_of c.arm-item.result.shape)) (operations_in (tree_of c.arm-item.result.shape)) c.loop-arm.operations _ _ _ _ _ _ (length-flat (tree_of c.arm-item.result.shape)) c.in_ok-push.ensures.ok c.in_ok-add_shape.ensures c.len-at.ensures c.len.ensures c.set.ensures in
    arm_added c.as_slice-arm-items.result.now c.loop-arm.arm-index c.arm-item.result c.loop-arm.operations _ _ c.loop-arm-test.true c.arm-item.is part c.loop-arm.invariant

pub add_fields-add_shape-requires : goal.add_fields-add_shape-requires
add_fields-add_shape-requires t c =
    let light = field_falls c.as_slice-field-items.result.now c.loop-field.field-index c.field-item.result c.loop-field-test.true c.field-item.is in
    (omega (arith, light, ap (λ fs. field_weights (field_trees fs)) c.as_slice-field-items.ensures, c.decreases), tt)

pub add_arms-add_shape-requires : goal.add_arms-add_shape-requires
add_arms-add_shape-requires t c =
    let light = arm_falls c.as_slice-arm-items.result.now c.loop-arm.arm-index c.arm-item.result c.loop-arm-test.true c.arm-item.is in
    (omega (arith, light, ap (λ arms. arm_weights (arm_trees arms)) c.as_slice-arm-items.ensures, c.decreases), tt)
