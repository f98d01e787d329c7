-- Types and fields together.
use Rattle.std.specs.Prelude.{ℕ, List, map, sum_by}
use Rattle.circus_value.specs.ShapeTree.{ShapeTree, FieldTree}
use Rattle.circus_type.specs.Written.{parts, zero_size}

-- the types of fields
abbrev pub shapes_of : List FieldTree → List ShapeTree
shapes_of fields = map (λ f. f.shape) fields

-- the names of fields
abbrev pub names_of : List FieldTree → List (List ℕ)
names_of fields = map (λ f. f.name) fields

-- the parts of types together
abbrev pub parts_of : List ShapeTree → ℕ
parts_of shapes = sum_by parts shapes

-- the bytes of the zero values of fields together
abbrev pub zero_size_of : List FieldTree → ℕ
zero_size_of fields = sum_by zero_size (shapes_of fields)
