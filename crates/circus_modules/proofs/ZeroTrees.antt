-- Zero values, as trees.
use Rattle.std.proofs.Common.{◌≡◌, ℕ, zero, suc, List, [], ◌∷◌, ap, refl}
use Rattle.std.specs.Prelude.{replicate}
use Rattle.circus_value.specs.ShapeTree.{FieldTree, field_trees}
use Rattle.circus_value.specs.ValueTree.{ValueTree, value_trees, more}
use Rattle.circus_type.specs.Written.{copies, zero_value, zero_values}
use Rattle.circus_modules.specs.Zeros.{zeros}

-- copies in a list are those of a tree
pub copies_are : (n : ℕ) (t : ValueTree) → value_trees (replicate n t) ≡ copies n t
copies_are zero t = refl
copies_are (suc n) t = ap (more t) (copies_are n t)

-- and so are zero values
pub zeros_are : (fs : List FieldTree) → value_trees (zeros fs) ≡ zero_values (field_trees fs)
zeros_are [] = refl
zeros_are (f ∷ fs) = ap (more (zero_value f.shape)) (zeros_are fs)
