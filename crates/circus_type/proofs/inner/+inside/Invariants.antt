use Rattle.std.proofs.Common.{◌≡◌, drop, map}
use Rattle.circus_syntax.specs.TypeTree.{group_trees, arm_trees}
use Rattle.circus_syntax.specs.TypeOf.{tree_of, group_of, arm_of}
use Rattle.circus_syntax.specs.Seen.TypeWeight.{weight, group_weights, arm_weights}
use Rattle.circus_fault.specs.Least.{least_from}
use Rattle.circus_type.specs.Inside as faults
use Rattle.circus_type.proofs.inner.+inside.Given as goal

-- the types that are left decide with what is kept
abbrev pub invariant-inside_groups-loop-group : goal.invariant-inside_groups-loop-group
invariant-inside_groups-loop-group g l =
    least_from g.C.Cause.rank l.best.fault (faults.inside_groups g.C.WithTypeCauses.embed (g.N.TypeNames.unknown_place l.names) (group_trees (map group_of (drop l.group-index l.groups))))
    ≡ least_from g.C.Cause.rank l.fn.best.fault (faults.inside_groups g.C.WithTypeCauses.embed (g.N.TypeNames.unknown_place l.names) (group_trees (map group_of l.groups)))

-- the types that are left decide with what is kept
abbrev pub invariant-inside_arms-loop-arm : goal.invariant-inside_arms-loop-arm
invariant-inside_arms-loop-arm g l =
    least_from g.C.Cause.rank l.best.fault (faults.inside_arms g.C.WithTypeCauses.embed (g.N.TypeNames.unknown_place l.names) (arm_trees (map arm_of (drop l.arm-index l.arms))))
    ≡ least_from g.C.Cause.rank l.fn.best.fault (faults.inside_arms g.C.WithTypeCauses.embed (g.N.TypeNames.unknown_place l.names) (arm_trees (map arm_of l.arms)))

abbrev pub decreases-check_inside : goal.decreases-check_inside
decreases-check_inside g l = weight (tree_of l.shape.now)

abbrev pub decreases-inside_groups : goal.decreases-inside_groups
decreases-inside_groups g l = group_weights (group_trees (map group_of l.groups.now))

abbrev pub decreases-inside_arms : goal.decreases-inside_arms
decreases-inside_arms g l = arm_weights (arm_trees (map arm_of l.arms.now))
