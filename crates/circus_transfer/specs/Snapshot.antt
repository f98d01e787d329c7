-- A snapshot is spelled as a list of values is: the number 3, a count, and one value for each variable.
use Rattle.std.specs.Prelude.{ℕ, List, [], ◌∷◌}
use Rattle.circus_value.specs.ValueTree.{ValueTree, enumeration, long_cardinal}
use Rattle.circus_value.specs.ShapeTree.{FieldTrees, no_fields, more_fields}
use Rattle.circus_value.specs.ShapeTree as S
use Rattle.circus_value.specs.ShapeOf.{tree_of}
use Rattle.circus_value.specs.declared.shape.Label.{Label}
use Rattle.circus_value.specs.declared.shape.Shape.{Shape}
use Rattle.circus_external.specs.Spelling.{spelling_of_all}

-- the number of the return that is a snapshot
abbrev pub snapshot_number : ℕ
snapshot_number = 3

abbrev pub snapshot_label : Label
snapshot_label = record { name = []; number = snapshot_number }

-- a field for each shape
abbrev pub fields_of : List Shape → FieldTrees
fields_of [] = no_fields
fields_of (shape ∷ shapes) = more_fields [] (tree_of shape) (fields_of shapes)

abbrev pub snapshot_fields : List Shape → FieldTrees
snapshot_fields shapes = more_fields [] (S.enumeration (snapshot_label ∷ [])) (more_fields [] S.long_cardinal (fields_of shapes))

abbrev pub snapshot_values : ℕ → List ValueTree → List ValueTree
snapshot_values count state = enumeration snapshot_number ∷ long_cardinal count ∷ state

-- the bytes of a snapshot
abbrev pub snapshot_bytes : ℕ → List ValueTree → List ℕ
snapshot_bytes count state = spelling_of_all (snapshot_values count state)
