-- Which shapes are the same: those of one form with equal lengths, bounds, names and numbers.
use Rattle.std.specs.Prelude.{Bool, true, false, ◌&&◌, ◌==◌, bytes_eq, List, [], ◌∷◌}
use Rattle.circus_value.specs.declared.shape.Label.{Label}
use Rattle.circus_value.specs.ShapeTree.{ShapeTree, FieldTrees, ArmTrees, boolean, cardinal, long_cardinal, integer, long_integer, text, enumeration, array, sequence, «record», choice, no_fields, more_fields, no_arms, more_arms}

abbrev pub labels_eq : List Label → List Label → Bool
labels_eq [] [] = true
labels_eq (l ∷ ls) (m ∷ ms) = bytes_eq l.name m.name && (l.number == m.number) && labels_eq ls ms
labels_eq _ _ = false

abbrev mutual
  pub shape_eq : ShapeTree → ShapeTree → Bool
  shape_eq boolean boolean = true
  shape_eq cardinal cardinal = true
  shape_eq long_cardinal long_cardinal = true
  shape_eq integer integer = true
  shape_eq long_integer long_integer = true
  shape_eq text text = true
  shape_eq (enumeration ls) (enumeration ms) = labels_eq ls ms
  shape_eq (array n s) (array m t) = (n == m) && shape_eq s t
  shape_eq (sequence n s) (sequence m t) = (n == m) && shape_eq s t
  shape_eq («record» fs) («record» gs) = fields_eq fs gs
  shape_eq (choice xs) (choice ys) = arms_eq xs ys
  shape_eq _ _ = false

  pub fields_eq : FieldTrees → FieldTrees → Bool
  fields_eq no_fields no_fields = true
  fields_eq (more_fields n s fs) (more_fields m t gs) = bytes_eq n m && shape_eq s t && fields_eq fs gs
  fields_eq _ _ = false

  pub arms_eq : ArmTrees → ArmTrees → Bool
  arms_eq no_arms no_arms = true
  arms_eq (more_arms n a s xs) (more_arms m b t ys) = bytes_eq n m && (a == b) && shape_eq s t && arms_eq xs ys
  arms_eq _ _ = false
