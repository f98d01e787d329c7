-- What a table of declared types says of a name.
use Rattle.std.specs.Prelude.{ℕ, Bool, List, Option, Some, None, unwrap_or, option_map, is_some}
use Rattle.std.specs.Ordering.{nat_cmp}
use Rattle.std.specs.Cmp.Lexicographic.{slice_cmp}
use Rattle.std.specs.BTreeMap.{get_by}
use Rattle.circus_value.specs.declared.shape.Shape.{Shape}
use Rattle.circus_value.specs.ShapeTree.{ShapeTree, boolean}
use Rattle.circus_value.specs.ShapeOf.{tree_of}
use Rattle.circus_type.specs.declared.measuring.Measure.{Measure}
use Rattle.circus_idl.specs.declared.types.KnownType.{KnownType}
use Rattle.circus_idl.specs.declared.types.Types.{Types}
use Rattle.circus_type.specs.Seen.Measured.{measure_of}

-- the type that a name stands for
abbrev pub type_named : Types → List ℕ → Option KnownType
type_named types name = get_by (λ k. slice_cmp nat_cmp name k.now) types.table

-- a type of this name is declared
abbrev pub is_known : Types → List ℕ → Bool
is_known types name = is_some (type_named types name)

-- how large it is; a name that stands for none counts as BOOLEAN
abbrev pub type_measure : Types → List ℕ → Measure
type_measure types name = unwrap_or (option_map (λ (t : KnownType). t.measure) (type_named types name)) (measure_of boolean)

-- the tree of a shape, and that of BOOLEAN where there is none
abbrev pub tree_or : Option Shape → ShapeTree
tree_or None = boolean
tree_or (Some s) = tree_of s

-- its shape
abbrev pub type_form : Types → List ℕ → ShapeTree
type_form types name = unwrap_or (option_map (λ (t : KnownType). tree_or t.shape) (type_named types name)) boolean
