-- Which arm of a choice a number names.
use Rattle.std.specs.Prelude.{ℕ, cond, ◌==◌, List, [], ◌∷◌, Option, Some, None}
use Rattle.circus_value.specs.ShapeTree.{ShapeTree, ArmTree}

-- the shape of the first arm with this number
abbrev pub arm_shape : List ArmTree → ℕ → Option ShapeTree
arm_shape [] n = None
arm_shape (a ∷ others) n = cond (n == a.number) (Some a.shape) (arm_shape others n)
