use Rattle.std.proofs.Common.{◌≡◌, true, ◌+◌, ◌*◌, ◌-◌, ◌≤◌, ◌++◌, length, map, drop}
use Rattle.circus_value.specs.ValueOf.{tree_of}
use Rattle.circus_value.specs.ShapeTree.{FieldTrees}
use Rattle.circus_external.specs.Spelling.{spelling_of_all, fields_admit}
use Rattle.circus_stub.specs.Seen.Standing.{FieldsStand}
use Rattle.circus_stub.proofs.writer.+writing.Given as goal

-- what stands there and what is left make up the whole
abbrev pub invariant-write_items-loop-item : goal.invariant-write_items-loop-item
invariant-write_items-loop-item l =
    l.out ++ spelling_of_all (map tree_of (drop l.item-index l.item-items)) ≡ l.fn.out ++ spelling_of_all l.items

abbrev pub invariant-write_values-loop-value : goal.invariant-write_values-loop-value
invariant-write_values-loop-value l = record {
  written : l.out ++ spelling_of_all (map tree_of (drop l.value-index l.value-items)) ≡ l.fn.out ++ spelling_of_all l.values;
  further : l.place ≤ l.operation;
  left :
      (others : FieldTrees) × FieldsStand l.operations l.operation l.end others
      × (fields_admit others (map tree_of (drop l.value-index l.value-items)) ≡ true);
}

abbrev pub decreases-write_value : goal.decreases-write_value
decreases-write_value l = 4 * (length l.operations.now - l.place)

abbrev pub decreases-write_items : goal.decreases-write_items
decreases-write_items l = 4 * (length l.operations.now - l.place) + 1

abbrev pub decreases-write_sequence : goal.decreases-write_sequence
decreases-write_sequence l = 4 * (length l.operations.now - l.place) + 2

abbrev pub decreases-write_values : goal.decreases-write_values
decreases-write_values l = 4 * (length l.operations.now - l.place) + 1

abbrev pub decreases-write_choice : goal.decreases-write_choice
decreases-write_choice l = 4 * (length l.operations.now - l.place) + 1
