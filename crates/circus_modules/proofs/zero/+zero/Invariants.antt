use Rattle.std.proofs.Common.{◌≡◌, ◌++◌, drop, map}
use Rattle.circus_value.specs.ShapeTree.{field_trees, arm_trees}
use Rattle.circus_value.specs.ShapeOf.{tree_of, field_of, arm_of}
use Rattle.circus_value.specs.Seen.ShapeWeight.{weight, field_weights, arm_weights}
use Rattle.circus_modules.specs.Zeros.{zeros}
use Rattle.circus_modules.proofs.zero.+zero.Given as goal

-- the zero values that are left follow those that are made
abbrev pub invariant-zero_fields-loop-field : goal.invariant-zero_fields-loop-field
invariant-zero_fields-loop-field l = l.values ++ zeros (map field_of (drop l.field-index l.fields)) ≡ zeros (map field_of l.fields)

abbrev pub decreases-zero_value : goal.decreases-zero_value
decreases-zero_value l = weight (tree_of l.shape.now)

abbrev pub decreases-zero_fields : goal.decreases-zero_fields
decreases-zero_fields l = field_weights (field_trees (map field_of l.fields.now))

abbrev pub decreases-zero_choice : goal.decreases-zero_choice
decreases-zero_choice l = arm_weights (arm_trees (map arm_of l.arms.now))
