use Rattle.std.proofs.Common.{◌≡◌, ◌++◌, drop, map}
use Rattle.circus_syntax.specs.TypeTree.{group_trees, arm_trees}
use Rattle.circus_syntax.specs.TypeOf.{tree_of, group_of, arm_of}
use Rattle.circus_syntax.specs.Seen.TypeWeight.{weight, group_weights, arm_weights}
use Rattle.circus_type.specs.InRange.{AreGroupsInRange, AreArmsInRange}
use Rattle.circus_type.specs.Meaning as meant
use Rattle.circus_type.proofs.writing.+written.Given as goal

-- the fields that are left follow those that are written
abbrev pub invariant-written_groups-loop-group : goal.invariant-written_groups-loop-group
invariant-written_groups-loop-group g l = record {
  in_range : AreGroupsInRange (group_trees (map group_of (drop l.group-index l.groups)));
  written :
      l.fields ++ meant.written_groups (g.N.TypeNames.forms l.names) (group_trees (map group_of (drop l.group-index l.groups)))
      ≡ meant.written_groups (g.N.TypeNames.forms l.names) (group_trees (map group_of l.groups));
}

-- the arms that are left follow those that are written
abbrev pub invariant-written_arms-loop-arm : goal.invariant-written_arms-loop-arm
invariant-written_arms-loop-arm g l = record {
  in_range : AreArmsInRange (arm_trees (map arm_of (drop l.arm-index l.arms)));
  written :
      l.list ++ meant.written_arms (g.N.TypeNames.forms l.names) (arm_trees (map arm_of (drop l.arm-index l.arms)))
      ≡ meant.written_arms (g.N.TypeNames.forms l.names) (arm_trees (map arm_of l.arms));
}

abbrev pub decreases-shape_of_type : goal.decreases-shape_of_type
decreases-shape_of_type g l = weight (tree_of l.shape.now)

abbrev pub decreases-written_groups : goal.decreases-written_groups
decreases-written_groups g l = group_weights (group_trees (map group_of l.groups.now))

abbrev pub decreases-written_arms : goal.decreases-written_arms
decreases-written_arms g l = arm_weights (arm_trees (map arm_of l.arms.now))
