use Rattle.std.proofs.Common.{◌≡◌, ◌≤◌, length, drop, map}
use Rattle.circus_syntax.specs.TypeTree.{group_trees, arm_trees}
use Rattle.circus_syntax.specs.TypeOf.{tree_of, group_of, arm_of}
use Rattle.circus_syntax.specs.Seen.TypeWeight.{weight, group_weights, arm_weights}
use Rattle.circus_type.specs.Seen.Measured as size
use Rattle.circus_type.proofs.measuring.+measured.Given as goal

-- the size of the groups from a place on
abbrev pub invariant-measured_groups-loop-place : goal.invariant-measured_groups-loop-place
invariant-measured_groups-loop-place g l = record {
  within : l.place ≤ length l.groups;
  sized : l.size ≡ size.measured_groups (g.N.TypeNames.sizes l.names) (group_trees (map group_of (drop l.place l.groups)));
}

-- the size of the arms from a place on
abbrev pub invariant-measured_arms-loop-place : goal.invariant-measured_arms-loop-place
invariant-measured_arms-loop-place g l = record {
  within : l.place ≤ length l.arms;
  sized : l.size ≡ size.measured_arms (g.N.TypeNames.sizes l.names) (arm_trees (map arm_of (drop l.place l.arms)));
}

abbrev pub decreases-measured_groups-loop-place : goal.decreases-measured_groups-loop-place
decreases-measured_groups-loop-place g l = l.place

abbrev pub decreases-measured_arms-loop-place : goal.decreases-measured_arms-loop-place
decreases-measured_arms-loop-place g l = l.place

abbrev pub decreases-measure_of_type : goal.decreases-measure_of_type
decreases-measure_of_type g l = weight (tree_of l.shape.now)

abbrev pub decreases-measured_groups : goal.decreases-measured_groups
decreases-measured_groups g l = group_weights (group_trees (map group_of l.groups.now))

abbrev pub decreases-measured_arms : goal.decreases-measured_arms
decreases-measured_arms g l = arm_weights (arm_trees (map arm_of l.arms.now))
