use Rattle.std.proofs.Common.{◌≡◌, drop, map}
use Rattle.circus_value.specs.ShapeOf.{field_of}
use Rattle.circus_value.specs.ShapeTree.{field_trees}
use Rattle.circus_fault.specs.Seen.Tables.{holds_name}
use Rattle.circus_check.specs.Faults.{also_fields}
use Rattle.circus_check.proofs.module.also_fields.Given as goal

-- the fields that are left add to what is there
abbrev pub invariant-loop-field : goal.invariant-loop-field
invariant-loop-field l = also_fields (field_trees (map field_of (drop l.field-index l.field-items))) (holds_name l.names) ≡ also_fields (field_trees l.fields) (holds_name l.fn.names)
