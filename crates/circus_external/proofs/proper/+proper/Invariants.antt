use Rattle.std.proofs.Common.{◌≡◌, drop, map}
use Rattle.circus_value.specs.ShapeOf.{tree_of, field_of, arm_of}
use Rattle.circus_value.specs.ShapeTree.{field_trees, arm_trees}
use Rattle.circus_value.specs.Seen.ShapeWeight.{weight, field_weights, arm_weights}
use Rattle.circus_external.specs.Refusal as refusal
use Rattle.circus_external.proofs.proper.+proper.Given as goal

-- the fields that are left decide
abbrev pub invariant-are_proper-loop-field : goal.invariant-are_proper-loop-field
invariant-are_proper-loop-field l = refusal.are_proper (field_trees (map field_of (drop l.field-index l.field-items))) ≡ refusal.are_proper (field_trees l.fields)

-- the arms that are left decide
abbrev pub invariant-arms_are_proper-loop-arm : goal.invariant-arms_are_proper-loop-arm
invariant-arms_are_proper-loop-arm l = refusal.arms_are_proper (arm_trees (map arm_of (drop l.arm-index l.arm-items))) ≡ refusal.arms_are_proper (arm_trees l.arms)

abbrev pub decreases-is_proper : goal.decreases-is_proper
decreases-is_proper l = weight (tree_of l.shape.now)

abbrev pub decreases-are_proper : goal.decreases-are_proper
decreases-are_proper l = field_weights (field_trees l.fields.now)

abbrev pub decreases-arms_are_proper : goal.decreases-arms_are_proper
decreases-arms_are_proper l = arm_weights (arm_trees l.arms.now)
