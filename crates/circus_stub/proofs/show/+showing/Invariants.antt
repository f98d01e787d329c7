use Rattle.std.proofs.Common.{◌≡◌, ◌+◌, ◌*◌, ◌-◌, ◌≤◌, ◌++◌, length}
use Rattle.circus_value.specs.ShapeTree.{FieldTrees, ArmTrees}
use Rattle.circus_stub.specs.Seen.Standing.{FieldsStand, ArmsStand}
use Rattle.circus_stub.specs.StubsText.{field_words, arm_words}
use Rattle.circus_stub.proofs.show.+showing.Given as goal

-- the words so far and those of the fields that are left are all
abbrev pub invariant-add_values-loop-here : goal.invariant-add_values-loop-here
invariant-add_values-loop-here l = record {
  further : l.place ≤ l.here;
  left :
      (fields : FieldTrees)
      → FieldsStand l.operations l.place l.end fields
      → (others : FieldTrees) × FieldsStand l.operations l.here l.end others
      × (l.text ++ field_words others ≡ l.initial.text ++ field_words fields);
}

-- the words so far and those of the arms that are left are all
abbrev pub invariant-add_arms-loop-here : goal.invariant-add_arms-loop-here
invariant-add_arms-loop-here l = record {
  further : l.place ≤ l.here;
  left :
      (arms : ArmTrees)
      → ArmsStand l.operations l.place l.end arms
      → (others : ArmTrees) × ArmsStand l.operations l.here l.end others
      × (l.text ++ arm_words others ≡ l.initial.text ++ arm_words arms);
}

abbrev pub decreases-add_values-loop-here : goal.decreases-add_values-loop-here
decreases-add_values-loop-here l = l.end - l.here

abbrev pub decreases-add_arms-loop-here : goal.decreases-add_arms-loop-here
decreases-add_arms-loop-here l = l.end - l.here

abbrev pub decreases-add_value : goal.decreases-add_value
decreases-add_value l = 4 * (length l.operations.now - l.place)

abbrev pub decreases-add_part : goal.decreases-add_part
decreases-add_part l = 4 * (length l.operations.now - l.place) + 1

abbrev pub decreases-add_values : goal.decreases-add_values
decreases-add_values l = 4 * (length l.operations.now - l.place) + 1

abbrev pub decreases-add_arms : goal.decreases-add_arms
decreases-add_arms l = 4 * (length l.operations.now - l.place) + 1

abbrev pub decreases-add_record : goal.decreases-add_record
decreases-add_record l = 4 * (length l.operations.now - l.place) + 2

abbrev pub decreases-add_choice : goal.decreases-add_choice
decreases-add_choice l = 4 * (length l.operations.now - l.place) + 2
