-- A shape is determined by its tree.
use Rattle.std.proofs.Common.{◌≡◌, List, [], ◌∷◌, refl, ap}
use Rattle.circus_value.specs.declared.shape.Shape.{Shape}
use Rattle.circus_value.specs.declared.shape.Shape.TheVariants as S
use Rattle.circus_value.specs.ShapeTree.{FieldTree, ArmTree, field_trees, arm_trees}
use Rattle.circus_value.specs.ShapeOf.{tree_of, fields_in, arms_in, shape_in}

pub fields_back : (fs : List FieldTree) → fields_in (field_trees fs) ≡ fs
fields_back [] = refl
fields_back (f ∷ fs) = ap (λ gs. f ∷ gs) (fields_back fs)

pub arms_back : (arms : List ArmTree) → arms_in (arm_trees arms) ≡ arms
arms_back [] = refl
arms_back (a ∷ arms) = ap (λ others. a ∷ others) (arms_back arms)

pub shape_back : (s : Shape) → shape_in (tree_of s) ≡ s
shape_back S.Boolean = refl
shape_back S.Cardinal = refl
shape_back S.LongCardinal = refl
shape_back S.Integer = refl
shape_back S.LongInteger = refl
shape_back S.Text = refl
shape_back (S.Enumeration labels) = refl
shape_back (S.Array n s) = refl
shape_back (S.Sequence n s) = refl
shape_back (S.Record fs) = ap S.Record (fields_back fs)
shape_back (S.Choice arms) = ap S.Choice (arms_back arms)
