use Rattle.std.proofs.Common.{◌≡◌, ◌+◌, ◌*◌, ◌≤◌, [], length, drop}
use Rattle.circus_value.specs.ShapeOf.{tree_of}
use Rattle.circus_value.specs.ShapeTree.{field_trees, arm_trees}
use Rattle.circus_value.specs.Seen.ShapeWeight.{weight, field_weights, arm_weights}
use Rattle.circus_value_text.specs.Reading.{items_read, items_within, reading, fields_reading}
use Rattle.circus_value_text.specs.Seen.Given.{mark_behind}
use Rattle.circus_value_text.proofs.ReadLemmas.{before, items_left, within_left, fields_left}
use Rattle.circus_value_text.proofs.reading.+reading.Given as goal

-- the values so far stand in front of those that are left
abbrev pub invariant-read_items-loop : goal.invariant-read_items-loop
invariant-read_items-loop l = record {
  within : l.place ≤ length l.text;
  read :
      items_read (reading (tree_of l.shape)) l.count [] (drop l.at l.text)
      ≡ before l.items (items_left (reading (tree_of l.shape)) l.count l.counter (mark_behind l.items) (drop l.place l.text));
}

abbrev pub invariant-read_items_within-loop : goal.invariant-read_items_within-loop
invariant-read_items_within-loop l = record {
  within : l.place ≤ length l.text;
  read :
      items_within (reading (tree_of l.shape)) l.bound [] (drop l.at l.text)
      ≡ before l.items (within_left (reading (tree_of l.shape)) l.bound l.counter (mark_behind l.items) (drop l.place l.text));
}

abbrev pub invariant-read_fields-loop-field : goal.invariant-read_fields-loop-field
invariant-read_fields-loop-field l = record {
  within : l.place ≤ length l.text;
  read :
      fields_reading (field_trees l.fields) [] (drop l.at l.text)
      ≡ before l.items (fields_left l.field-items l.field-index (mark_behind l.items) (drop l.place l.text));
}

abbrev pub decreases-read_value : goal.decreases-read_value
decreases-read_value l = 4 * weight (tree_of l.shape.now)

abbrev pub decreases-read_next : goal.decreases-read_next
decreases-read_next l = 4 * weight (tree_of l.shape.now) + 1

abbrev pub decreases-read_array : goal.decreases-read_array
decreases-read_array l = 4 * weight (tree_of l.shape.now) + 3

abbrev pub decreases-read_items : goal.decreases-read_items
decreases-read_items l = 4 * weight (tree_of l.shape.now) + 2

abbrev pub decreases-read_sequence : goal.decreases-read_sequence
decreases-read_sequence l = 4 * weight (tree_of l.shape.now) + 3

abbrev pub decreases-read_items_within : goal.decreases-read_items_within
decreases-read_items_within l = 4 * weight (tree_of l.shape.now) + 2

abbrev pub decreases-read_list : goal.decreases-read_list
decreases-read_list l = 4 * field_weights (field_trees l.fields.now) + 2

abbrev pub decreases-read_fields : goal.decreases-read_fields
decreases-read_fields l = 4 * field_weights (field_trees l.fields.now) + 1

abbrev pub decreases-read_choice : goal.decreases-read_choice
decreases-read_choice l = 4 * arm_weights (arm_trees l.arms.now) + 2

abbrev pub decreases-read_chosen : goal.decreases-read_chosen
decreases-read_chosen l = 4 * arm_weights (arm_trees l.arms.now) + 1

abbrev pub decreases-read_arm : goal.decreases-read_arm
decreases-read_arm l = 4 * arm_weights (arm_trees l.arms.now)
