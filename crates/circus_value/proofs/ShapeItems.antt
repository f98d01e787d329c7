-- The items of a list of fields or arms are lighter than the list.
use Rattle.std.proofs.Common.{arith, ◌≡◌, ℕ, ◌+◌, ◌<◌, ◌≤◌, List, [], ◌∷◌, length, map, get_or, zero, suc, ap}
use Rattle.circus_value.specs.declared.shape.Field.{Field}
use Rattle.circus_value.specs.declared.shape.Arm.{Arm}
use Rattle.circus_value.specs.ShapeOf.{tree_of, field_of, arm_of}
use Rattle.circus_value.specs.ShapeTree.{field_trees, arm_trees}
use Rattle.circus_value.specs.Seen.ShapeWeight.{weight, field_weights, arm_weights}

-- a field of a list
pub field_falls : (fs : List Field) (i : ℕ) (f : Field) → i < length fs → f ≡ get_or fs i f → weight (tree_of f.shape) + 2 ≤ field_weights (field_trees (map field_of fs))
field_falls [] i f below is = omega arith
field_falls (g ∷ fs) zero f below is = omega (arith, ap (λ (x : Field). weight (tree_of x.shape)) is)
field_falls (g ∷ fs) (suc i) f below is = omega (arith, field_falls fs i f (omega arith) is)

-- an arm of a list
pub arm_falls : (arms : List Arm) (i : ℕ) (a : Arm) → i < length arms → a ≡ get_or arms i a → weight (tree_of a.shape) + 2 ≤ arm_weights (arm_trees (map arm_of arms))
arm_falls [] i a below is = omega arith
arm_falls (b ∷ arms) zero a below is = omega (arith, ap (λ (x : Arm). weight (tree_of x.shape)) is)
arm_falls (b ∷ arms) (suc i) a below is = omega (arith, arm_falls arms i a (omega arith) is)
