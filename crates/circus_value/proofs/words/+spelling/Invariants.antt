use Rattle.std.proofs.Common.{◌≡◌, ◌++◌, drop, map}
use Rattle.circus_value.specs.ShapeOf.{tree_of, field_of, arm_of}
use Rattle.circus_value.specs.ShapeTree.{field_trees, arm_trees}
use Rattle.circus_value.specs.Seen.ShapeWeight.{weight, field_weights, arm_weights}
use Rattle.circus_value.specs.Seen.ShapeWords.{field_words, arm_words}
use Rattle.circus_value.proofs.words.+spelling.Given as goal

-- the words of the fields that are left are missing
abbrev pub invariant-spell_fields-loop-field : goal.invariant-spell_fields-loop-field
invariant-spell_fields-loop-field l =
    l.words.items ++ field_words (field_trees (map field_of (drop l.field-index l.field-items))) ≡ l.fn.words.items ++ field_words (field_trees l.fields)

-- the words of the arms that are left are missing
abbrev pub invariant-spell_arms-loop-arm : goal.invariant-spell_arms-loop-arm
invariant-spell_arms-loop-arm l =
    l.words.items ++ arm_words (arm_trees (map arm_of (drop l.arm-index l.arm-items))) ≡ l.fn.words.items ++ arm_words (arm_trees l.arms)

abbrev pub decreases-spell_shape : goal.decreases-spell_shape
decreases-spell_shape l = weight (tree_of l.shape.now)

abbrev pub decreases-spell_fields : goal.decreases-spell_fields
decreases-spell_fields l = field_weights (field_trees l.fields.now)

abbrev pub decreases-spell_arms : goal.decreases-spell_arms
decreases-spell_arms l = arm_weights (arm_trees l.arms.now)
