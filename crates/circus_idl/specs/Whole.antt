-- The whole types of an interface, and its names.
use Rattle.std.specs.Prelude.{ℕ, List, map, ◌++◌}
use Rattle.std.specs.List.{flat_map}
use Rattle.circus_value.specs.ShapeTree.{ShapeTree}
use Rattle.circus_value.specs.ShapeOf.{tree_of}
use Rattle.circus_idl.specs.declared.interface.Interface.{Interface}
use Rattle.circus_type.specs.Together.{shapes_of}

-- the names of its types, errors and procedures
abbrev pub declared_names : Interface → List (List ℕ)
declared_names i = map (λ t. t.name) i.types ++ map (λ e. e.name) i.errors ++ map (λ p. p.name) i.procedures

-- the declared types, and those of the fields of errors and procedures, each once for each of its names
abbrev pub whole_types : Interface → List ShapeTree
whole_types i =
    map (λ t. tree_of t.shape) i.types
    ++ flat_map (λ e. shapes_of e.arguments) i.errors
    ++ flat_map (λ p. shapes_of p.arguments ++ shapes_of p.results) i.procedures
