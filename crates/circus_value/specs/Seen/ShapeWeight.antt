-- A number for each shape that is above that of its parts.
use Rattle.std.specs.Prelude.{ℕ, ◌+◌}
use Rattle.circus_value.specs.ShapeTree.{ShapeTree, FieldTrees, ArmTrees, boolean, cardinal, long_cardinal, integer, long_integer, text, enumeration, array, sequence, «record», choice, no_fields, more_fields, no_arms, more_arms}

abbrev mutual
  pub weight : ShapeTree → ℕ
  weight boolean = 1
  weight cardinal = 1
  weight long_cardinal = 1
  weight integer = 1
  weight long_integer = 1
  weight text = 1
  weight (enumeration _) = 1
  weight (array _ s) = 1 + weight s
  weight (sequence _ s) = 1 + weight s
  weight («record» fs) = 1 + field_weights fs
  weight (choice rest) = 1 + arm_weights rest

  pub field_weights : FieldTrees → ℕ
  field_weights no_fields = 1
  field_weights (more_fields _ s fs) = 2 + weight s + field_weights fs

  pub arm_weights : ArmTrees → ℕ
  arm_weights no_arms = 1
  arm_weights (more_arms _ _ s rest) = 2 + weight s + arm_weights rest
