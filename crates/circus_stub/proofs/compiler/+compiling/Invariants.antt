use Rattle.std.proofs.Common.{◌≡◌, ◌++◌, length, map, drop}
use Rattle.circus_value.specs.Seen.ShapeWeight.{weight, field_weights, arm_weights}
use Rattle.circus_value.specs.ShapeOf.{tree_of, field_of, arm_of}
use Rattle.circus_value.specs.ShapeTree.{field_trees, arm_trees}
use Rattle.circus_stub.specs.Flat.{flat_fields, flat_arms}
use Rattle.circus_stub.proofs.compiler.+compiling.Given as goal

abbrev pub decreases-add_arms : goal.decreases-add_arms
decreases-add_arms l = arm_weights (arm_trees l.arms.now)

abbrev pub decreases-add_fields : goal.decreases-add_fields
decreases-add_fields l = field_weights (field_trees l.fields.now)

abbrev pub decreases-add_shape : goal.decreases-add_shape
decreases-add_shape l = weight (tree_of l.shape.now)

-- the operations so far and those of the arms that are left are all
abbrev pub invariant-add_arms-loop-arm : goal.invariant-add_arms-loop-arm
invariant-add_arms-loop-arm l =
    l.operations ++ flat_arms (arm_trees (map arm_of (drop l.arm-index l.arm-items))) (length l.operations)
    ≡ l.initial.operations ++ flat_arms (arm_trees l.arms) (length l.initial.operations)

-- the operations so far and those of the fields that are left are all
abbrev pub invariant-add_fields-loop-field : goal.invariant-add_fields-loop-field
invariant-add_fields-loop-field l =
    l.operations ++ flat_fields (field_trees (map field_of (drop l.field-index l.field-items))) (length l.operations)
    ≡ l.initial.operations ++ flat_fields (field_trees l.fields) (length l.initial.operations)
