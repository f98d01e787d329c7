-- What a type means: the shape in which every name is written out.
use Rattle.std.specs.Prelude.{ℕ, List, [], ◌∷◌, ◌++◌, map, Option, Some, None}
use Rattle.circus_value.specs.declared.shape.Label.{Label}
use Rattle.circus_value.specs.ShapeTree.{ShapeTree, FieldTree, ArmTree, field_trees, arm_trees}
use Rattle.circus_value.specs.ShapeTree as shape
use Rattle.circus_syntax.specs.declared.named.Named.{Named}
use Rattle.circus_syntax.specs.declared.named.Numeral.{Numeral}
use Rattle.circus_syntax.specs.declared.named.TypeName.{TypeName}
use Rattle.circus_syntax.specs.declared.named.LabelText.{LabelText}
use Rattle.circus_syntax.specs.TypeTree.{TypeTree, GroupTrees, ArmTrees, boolean, cardinal, long_cardinal, integer, long_integer, text, enumeration, array, sequence, «record», choice, called, no_groups, more_groups, no_arms, more_arms}
use Rattle.circus_type.specs.Limits.{greatest_word}

-- the bound of a sequence, which is the greatest where none is given
abbrev pub bound_of : Option Numeral → ℕ
bound_of None = greatest_word
bound_of (Some n) = n.value

abbrev pub label_meant : LabelText → Label
label_meant l = record { name = l.name.name; number = l.number.value }

-- a field of this shape for each of the names
abbrev pub fields_named : List Named → ShapeTree → List FieldTree
fields_named names s = map (λ (n : Named). record { name = n.name; shape = s }) names

abbrev mutual
  -- the shape that is meant, where this is what each name stands for
  pub shape_of_type : (TypeName → ShapeTree) → TypeTree → ShapeTree
  shape_of_type form (boolean _) = shape.boolean
  shape_of_type form (cardinal _) = shape.cardinal
  shape_of_type form (long_cardinal _) = shape.long_cardinal
  shape_of_type form (integer _) = shape.integer
  shape_of_type form (long_integer _) = shape.long_integer
  shape_of_type form (text _) = shape.text
  shape_of_type form (enumeration _ labels) = shape.enumeration (map label_meant labels)
  shape_of_type form (array _ n t) = shape.array n.value (shape_of_type form t)
  shape_of_type form (sequence _ bound t) = shape.sequence (bound_of bound) (shape_of_type form t)
  shape_of_type form («record» _ groups) = shape.«record» (field_trees (written_groups form groups))
  shape_of_type form (choice _ arms) = shape.choice (arm_trees (written_arms form arms))
  shape_of_type form (called _ t) = form t

  -- a field for each name, with the type of its group
  pub written_groups : (TypeName → ShapeTree) → GroupTrees → List FieldTree
  written_groups form no_groups = []
  written_groups form (more_groups names t groups) = fields_named names (shape_of_type form t) ++ written_groups form groups

  pub written_arms : (TypeName → ShapeTree) → ArmTrees → List ArmTree
  written_arms form no_arms = []
  written_arms form (more_arms name number t arms) =
      record { name = name.name; number = number.value; shape = shape_of_type form t } ∷ written_arms form arms
