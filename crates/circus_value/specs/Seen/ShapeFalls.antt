-- A shape's parts are lighter than the shape.
use Rattle.std.specs.Prelude.{◌≤◌, List, [], ◌∷◌, map}
use Rattle.std.proofs.Common.{arith}
use denote.Param.Weighed.{most}
use Rattle.circus_value.specs.ShapeTree.{field_trees, arm_trees}
use Rattle.circus_value.specs.ShapeOf.{tree_of, field_of, arm_of}
use Rattle.circus_value.specs.Seen.ShapeWeight.{weight, field_weights, arm_weights}
use Rattle.circus_value.specs.declared.shape.Shape.{Shape}
use Rattle.circus_value.specs.declared.shape.Shape.TheVariants as S
use Rattle.circus_value.specs.declared.shape.Field.{Field}
use Rattle.circus_value.specs.declared.shape.Arm.{Arm}
use Rattle.circus_value.specs.declared.shape.Arms.TheDeep.{deep-Shape, deep-Field, deep-Arm}

pub deep_le-weight : (s : Shape) → deep-Shape s ≤ weight (tree_of s)
deep_le-weight S.Boolean = omega arith
deep_le-weight S.Cardinal = omega arith
deep_le-weight S.LongCardinal = omega arith
deep_le-weight S.Integer = omega arith
deep_le-weight S.LongInteger = omega arith
deep_le-weight S.Text = omega arith
deep_le-weight (S.Enumeration labels) = omega arith
deep_le-weight (S.Array len element) = omega arith
deep_le-weight (S.Sequence bound element) = omega arith
deep_le-weight (S.Record fields) = omega arith
deep_le-weight (S.Choice arms) = omega arith

pub most_deep_le-field_weights : (fs : List Field) → most deep-Field fs ≤ field_weights (field_trees (map field_of fs))
most_deep_le-field_weights [] = omega arith
most_deep_le-field_weights (f ∷ fs) = omega (arith, deep_le-weight f.shape, most_deep_le-field_weights fs)

pub most_deep_le-arm_weights : (rest : List Arm) → most deep-Arm rest ≤ arm_weights (arm_trees (map arm_of rest))
most_deep_le-arm_weights [] = omega arith
most_deep_le-arm_weights (a ∷ rest) = omega (arith, deep_le-weight a.shape, most_deep_le-arm_weights rest)
