use Rattle.std.proofs.Common.{◌≡◌, ◌+◌, ◌*◌, ◌-◌, ◌≤◌, length, drop}
use Rattle.circus_value.specs.ShapeOf.{tree_of}
use Rattle.circus_value.specs.ShapeTree.{field_trees, arm_trees}
use Rattle.circus_value.specs.Seen.ShapeWeight.{weight, field_weights, arm_weights}
use Rattle.circus_external.specs.Reading.{items_read, reading, fields_reading}
use Rattle.circus_external.proofs.ReadLemmas.{behind, fields_left}
use Rattle.circus_external.proofs.reading.+reading.Given as goal

-- the values so far stand in front of those that are left
abbrev pub invariant-read_items-loop : goal.invariant-read_items-loop
invariant-read_items-loop g l = record {
  within : l.place ≤ length (g.S.ByteSource.octets l.source);
  read :
      items_read (reading (tree_of l.shape)) l.count l.at (drop l.at (g.S.ByteSource.octets l.source))
      ≡ behind l.items (items_read (reading (tree_of l.shape)) (l.count - l.counter) l.place (drop l.place (g.S.ByteSource.octets l.source)));
}

abbrev pub invariant-read_fields-loop-field : goal.invariant-read_fields-loop-field
invariant-read_fields-loop-field g l = record {
  within : l.place ≤ length (g.S.ByteSource.octets l.source);
  read :
      fields_reading (field_trees l.fields) l.at (drop l.at (g.S.ByteSource.octets l.source))
      ≡ behind l.items (fields_left l.field-items l.field-index l.place (drop l.place (g.S.ByteSource.octets l.source)));
}

abbrev pub decreases-read_from : goal.decreases-read_from
decreases-read_from g l = 3 * weight (tree_of l.shape.now)

abbrev pub decreases-read_items : goal.decreases-read_items
decreases-read_items g l = 3 * weight (tree_of l.shape.now) + 1

abbrev pub decreases-read_sequence : goal.decreases-read_sequence
decreases-read_sequence g l = 3 * weight (tree_of l.shape.now) + 2

abbrev pub decreases-read_fields : goal.decreases-read_fields
decreases-read_fields g l = 3 * field_weights (field_trees l.fields.now)

abbrev pub decreases-read_choice : goal.decreases-read_choice
decreases-read_choice g l = 3 * arm_weights (arm_trees l.arms.now)
