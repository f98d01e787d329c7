use Rattle.std.proofs.Common.{◌≡◌, drop, map}
use Rattle.circus_value.specs.ShapeOf.{tree_of, field_of, arm_of}
use Rattle.circus_value.specs.ShapeTree.{field_trees, arm_trees}
use Rattle.circus_value.specs.Seen.ShapeWeight.{weight, field_weights, arm_weights}
use Rattle.circus_resolve.specs.Same.{fields_eq, arms_eq}
use Rattle.circus_resolve.proofs.same.+same.Given as goal

-- the fields that are left decide
abbrev pub invariant-are_fields-loop-place : goal.invariant-are_fields-loop-place
invariant-are_fields-loop-place l =
    fields_eq (field_trees (map field_of (drop l.place l.one-items))) (field_trees (map field_of (drop l.place l.against))) ≡ fields_eq (field_trees l.some) (field_trees l.others)

-- the arms that are left decide
abbrev pub invariant-are_arms-loop-place : goal.invariant-are_arms-loop-place
invariant-are_arms-loop-place l =
    arms_eq (arm_trees (map arm_of (drop l.place l.one-items))) (arm_trees (map arm_of (drop l.place l.against))) ≡ arms_eq (arm_trees l.some) (arm_trees l.others)

abbrev pub decreases-is_same : goal.decreases-is_same
decreases-is_same l = weight (tree_of l.one.now)

abbrev pub decreases-are_fields : goal.decreases-are_fields
decreases-are_fields l = field_weights (field_trees l.some.now)

abbrev pub decreases-are_arms : goal.decreases-are_arms
decreases-are_arms l = arm_weights (arm_trees l.some.now)
