use Rattle.std.proofs.Common.{◌≡◌, ◌++◌, drop}
use Rattle.circus_value.specs.ShapeOf.{tree_of}
use Rattle.circus_type.specs.Meaning.{fields_named}
use Rattle.circus_type.proofs.writing.push_fields.Given as goal

-- the fields that are left follow those that are written
abbrev pub invariant-loop-name : goal.invariant-loop-name
invariant-loop-name l =
    l.fields ++ fields_named (drop l.name-index l.names) (tree_of l.shape) ≡ l.fn.fields ++ fields_named l.names (tree_of l.shape)
