-- The tree of a shape, whose own parts contracts see as trees, and the shape of a tree.
use Rattle.std.specs.Prelude.{List, [], ◌∷◌}
use Rattle.circus_value.specs.ShapeTree.{ShapeTree, FieldTrees, ArmTrees, FieldTree, ArmTree, boolean, cardinal, long_cardinal, integer, long_integer, text, enumeration, array, sequence, «record», choice, no_fields, more_fields, no_arms, more_arms, field_trees, arm_trees}
use Rattle.circus_value.specs.declared.shape.Shape.{Shape}
use Rattle.circus_value.specs.declared.shape.Shape.TheVariants as S
use Rattle.circus_value.specs.declared.shape.Field.{Field}
use Rattle.circus_value.specs.declared.shape.Arm.{Arm}

abbrev pub tree_of : Shape → ShapeTree
tree_of S.Boolean = boolean
tree_of S.Cardinal = cardinal
tree_of S.LongCardinal = long_cardinal
tree_of S.Integer = integer
tree_of S.LongInteger = long_integer
tree_of S.Text = text
tree_of (S.Enumeration labels) = enumeration labels
tree_of (S.Array len element) = array len element
tree_of (S.Sequence bound element) = sequence bound element
tree_of (S.Record fields) = «record» (field_trees fields)
tree_of (S.Choice arms) = choice (arm_trees arms)

-- a field, its shape as a tree
abbrev pub field_of : Field → FieldTree
field_of f = record { name = f.name; shape = tree_of f.shape }

-- an arm, its shape as a tree
abbrev pub arm_of : Arm → ArmTree
arm_of a = record { name = a.name; number = a.number; shape = tree_of a.shape }

-- the fields, and the arms, of a tree
abbrev pub fields_in : FieldTrees → List FieldTree
fields_in no_fields = []
fields_in (more_fields name s fs) = record { name = name; shape = s } ∷ fields_in fs

abbrev pub arms_in : ArmTrees → List ArmTree
arms_in no_arms = []
arms_in (more_arms name number s arms) = record { name = name; number = number; shape = s } ∷ arms_in arms

-- the shape of a tree
abbrev pub shape_in : ShapeTree → Shape
shape_in boolean = S.Boolean
shape_in cardinal = S.Cardinal
shape_in long_cardinal = S.LongCardinal
shape_in integer = S.Integer
shape_in long_integer = S.LongInteger
shape_in text = S.Text
shape_in (enumeration labels) = S.Enumeration labels
shape_in (array n s) = S.Array n s
shape_in (sequence n s) = S.Sequence n s
shape_in («record» fs) = S.Record (fields_in fs)
shape_in (choice arms) = S.Choice (arms_in arms)
