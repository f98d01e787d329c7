use Rattle.std.proofs.Common.{◌≡◌, ◌+◌, ◌*◌, ◌-◌, ◌≤◌, length, drop}
use Rattle.circus_value.specs.ShapeTree.{ShapeTree, FieldTrees}
use Rattle.circus_external.specs.Reading.{items_read, reading, fields_reading}
use Rattle.circus_external.proofs.ReadLemmas.{behind}
use Rattle.circus_stub.specs.Seen.Standing.{Stands, FieldsStand}
use Rattle.circus_stub.proofs.reader.+reading.Given as goal

-- the values so far stand in front of those that are left
abbrev pub invariant-read_items-loop : goal.invariant-read_items-loop
invariant-read_items-loop g l = record {
  within : l.here ≤ length (g.S.ByteSource.octets l.source);
  read :
      (shape : ShapeTree)
      → Stands l.operations l.place shape
      → items_read (reading shape) l.count l.at (drop l.at (g.S.ByteSource.octets l.source))
      ≡ behind l.items (items_read (reading shape) (l.count - l.counter) l.here (drop l.here (g.S.ByteSource.octets l.source)));
}

abbrev pub invariant-read_values-loop-operation : goal.invariant-read_values-loop-operation
invariant-read_values-loop-operation g l = record {
  within : l.here ≤ length (g.S.ByteSource.octets l.source);
  further : l.place ≤ l.operation;
  left :
      (fields : FieldTrees)
      → FieldsStand l.operations l.place l.end fields
      → (others : FieldTrees) × FieldsStand l.operations l.operation l.end others
      × (fields_reading fields l.at (drop l.at (g.S.ByteSource.octets l.source))
      ≡ behind l.items (fields_reading others l.here (drop l.here (g.S.ByteSource.octets l.source))));
}

abbrev pub decreases-read_values-loop-operation : goal.decreases-read_values-loop-operation
decreases-read_values-loop-operation g l = l.end - l.operation

abbrev pub decreases-read_value : goal.decreases-read_value
decreases-read_value g l = 4 * (length l.operations.now - l.place)

abbrev pub decreases-read_items : goal.decreases-read_items
decreases-read_items g l = 4 * (length l.operations.now - l.place) + 1

abbrev pub decreases-read_sequence : goal.decreases-read_sequence
decreases-read_sequence g l = 4 * (length l.operations.now - l.place) + 2

abbrev pub decreases-read_values : goal.decreases-read_values
decreases-read_values g l = 4 * (length l.operations.now - l.place) + 1

abbrev pub decreases-read_choice : goal.decreases-read_choice
decreases-read_choice g l = 4 * (length l.operations.now - l.place) + 1
