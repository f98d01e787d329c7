-- A number for each type that is above that of its parts.
use Rattle.std.specs.Prelude.{ℕ, ◌+◌}
use Rattle.circus_syntax.specs.TypeTree.{TypeTree, GroupTrees, ArmTrees, boolean, cardinal, long_cardinal, integer, long_integer, text, enumeration, array, sequence, «record», choice, called, no_groups, more_groups, no_arms, more_arms}

abbrev mutual
  pub weight : TypeTree → ℕ
  weight (boolean _) = 1
  weight (cardinal _) = 1
  weight (long_cardinal _) = 1
  weight (integer _) = 1
  weight (long_integer _) = 1
  weight (text _) = 1
  weight (enumeration _ _) = 1
  weight (array _ _ t) = 2 + weight t
  weight (sequence _ _ t) = 2 + weight t
  weight («record» _ gs) = 2 + group_weights gs
  weight (choice _ rest) = 2 + arm_weights rest
  weight (called _ _) = 1

  pub group_weights : GroupTrees → ℕ
  group_weights no_groups = 1
  group_weights (more_groups _ t gs) = 3 + weight t + group_weights gs

  pub arm_weights : ArmTrees → ℕ
  arm_weights no_arms = 1
  arm_weights (more_arms _ _ t rest) = 3 + weight t + arm_weights rest
