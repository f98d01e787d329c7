use Rattle.std.proofs.Common.{◌≡◌, ◌≤◌, length, drop, map}
use Rattle.circus_value.specs.ShapeTree.{field_trees, arm_trees}
use Rattle.circus_value.specs.ShapeOf.{tree_of, field_of, arm_of}
use Rattle.circus_value.specs.Seen.ShapeWeight.{weight, field_weights, arm_weights}
use Rattle.circus_type.specs.Seen.Measured as size
use Rattle.circus_type.proofs.measuring.+shaped.Given as goal

-- the size of the fields from a place on
abbrev pub invariant-fields_measure-loop-place : goal.invariant-fields_measure-loop-place
invariant-fields_measure-loop-place l = record {
  within : l.place ≤ length l.fields;
  sized : l.size ≡ size.fields_measure (field_trees (map field_of (drop l.place l.fields)));
}

-- the size of the arms from a place on
abbrev pub invariant-arms_measure-loop-place : goal.invariant-arms_measure-loop-place
invariant-arms_measure-loop-place l = record {
  within : l.place ≤ length l.arms;
  sized : l.size ≡ size.arms_measure (arm_trees (map arm_of (drop l.place l.arms)));
}

abbrev pub decreases-fields_measure-loop-place : goal.decreases-fields_measure-loop-place
decreases-fields_measure-loop-place l = l.place

abbrev pub decreases-arms_measure-loop-place : goal.decreases-arms_measure-loop-place
decreases-arms_measure-loop-place l = l.place

abbrev pub decreases-shape_measure : goal.decreases-shape_measure
decreases-shape_measure l = weight (tree_of l.shape.now)

abbrev pub decreases-fields_measure : goal.decreases-fields_measure
decreases-fields_measure l = field_weights (field_trees (map field_of l.fields.now))

abbrev pub decreases-arms_measure : goal.decreases-arms_measure
decreases-arms_measure l = arm_weights (arm_trees (map arm_of l.arms.now))
