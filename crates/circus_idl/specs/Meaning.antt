-- What a type of an interface means, where the name of a type stands for one that is declared before.
use Rattle.std.specs.Prelude.{ℕ, cond, bytes_eq, List}
use Rattle.circus_value.specs.ShapeTree.{ShapeTree, FieldTree}
use Rattle.circus_syntax.specs.TypeTree.{TypeTree, GroupTrees}
use Rattle.circus_type.specs.Meaning as type
use Rattle.circus_idl.specs.Inside.{by_name}

abbrev pub shape_of_type : (List ℕ → ShapeTree) → TypeTree → ShapeTree
shape_of_type form t = type.shape_of_type (by_name form) t

abbrev pub written_groups : (List ℕ → ShapeTree) → GroupTrees → List FieldTree
written_groups form groups = type.written_groups (by_name form) groups

-- this name stands for this, and others for what they stood for
abbrev pub standing_for : {A : Type 0} → List ℕ → A → (List ℕ → A) → List ℕ → A
standing_for name a earlier other = cond (bytes_eq name other) a (earlier other)
