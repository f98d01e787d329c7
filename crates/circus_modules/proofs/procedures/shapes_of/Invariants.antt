use Rattle.std.proofs.Common.{◌≡◌, ◌++◌, drop, map}
use Rattle.circus_value.specs.ShapeOf.{field_of}
use Rattle.circus_modules.specs.InterfaceSignatures.{shapes_in}
use Rattle.circus_modules.proofs.procedures.shapes_of.Given as goal

-- the shapes that are left follow those so far
abbrev pub invariant-loop-field : goal.invariant-loop-field
invariant-loop-field l = l.shapes ++ shapes_in (map field_of (drop l.field-index l.fields)) ≡ shapes_in (map field_of l.fields)
