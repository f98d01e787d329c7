-- Shapes of fields, as trees again.
use Rattle.std.proofs.Common.{◌≡◌, List, [], ◌∷◌, refl, ap}
use Rattle.circus_value.specs.ShapeTree.{ShapeTree, FieldTrees, ArmTrees, FieldTree, boolean, cardinal, long_cardinal, integer, long_integer, text, enumeration, array, sequence, «record», choice, no_fields, more_fields, no_arms, more_arms, field_trees, arm_trees}
use Rattle.circus_value.specs.ShapeOf.{tree_of, fields_in, arms_in, shape_in}
use Rattle.circus_type.specs.Together.{shapes_of}
use Rattle.circus_machine.specs.Modules.{trees}
use Rattle.circus_modules.specs.InterfaceSignatures.{shapes_in}

fields_forth : (fs : FieldTrees) → field_trees (fields_in fs) ≡ fs
fields_forth no_fields = refl
fields_forth (more_fields name s fs) = ap (more_fields name s) (fields_forth fs)

arms_forth : (arms : ArmTrees) → arm_trees (arms_in arms) ≡ arms
arms_forth no_arms = refl
arms_forth (more_arms name number s arms) = ap (more_arms name number s) (arms_forth arms)

pub shape_forth : (s : ShapeTree) → tree_of (shape_in s) ≡ s
shape_forth boolean = refl
shape_forth cardinal = refl
shape_forth long_cardinal = refl
shape_forth integer = refl
shape_forth long_integer = refl
shape_forth text = refl
shape_forth (enumeration labels) = refl
shape_forth (array n s) = refl
shape_forth (sequence n s) = refl
shape_forth («record» fs) = ap «record» (fields_forth fs)
shape_forth (choice arms) = ap choice (arms_forth arms)

pub shapes_forth : (fields : List FieldTree) → trees (shapes_in fields) ≡ shapes_of fields
shapes_forth [] = refl
shapes_forth (f ∷ fs) = λ i. shape_forth f.shape i ∷ shapes_forth fs i
