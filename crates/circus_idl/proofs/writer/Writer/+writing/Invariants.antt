use Rattle.std.proofs.Common.{◌≡◌, ◌+◌, ◌*◌, ◌++◌, drop, map}
use Rattle.circus_value.specs.ShapeOf.{tree_of, field_of, arm_of}
use Rattle.circus_value.specs.ShapeTree.{field_trees, arm_trees}
use Rattle.circus_value.specs.Seen.ShapeWeight.{weight, field_weights, arm_weights}
use Rattle.circus_idl.specs.Lexemes.{lexemes_behind_spaces}
use Rattle.circus_idl.proofs.ShownFrom.{fields_from, arms_from}
use Rattle.circus_idl.proofs.writer.Writer.+writing.Given as goal

-- the fields that are left follow what is written
abbrev pub invariant-fields_inside-loop-place : goal.invariant-fields_inside-loop-place
invariant-fields_inside-loop-place l =
    l.self ++ lexemes_behind_spaces (fields_from l.place (field_trees (map field_of (drop l.place l.fields))))
    ≡ l.initial.self ++ lexemes_behind_spaces (fields_from 0 (field_trees (map field_of l.fields)))

-- the arms that are left follow what is written
abbrev pub invariant-arms_inside-loop-place : goal.invariant-arms_inside-loop-place
invariant-arms_inside-loop-place l =
    l.self ++ lexemes_behind_spaces (arms_from l.place (arm_trees (map arm_of (drop l.place l.arms))))
    ≡ l.initial.self ++ lexemes_behind_spaces (arms_from 0 (arm_trees (map arm_of l.arms)))

abbrev pub decreases-shape : goal.decreases-shape
decreases-shape l = 3 * weight (tree_of l.shape.now)

abbrev pub decreases-items : goal.decreases-items
decreases-items l = 3 * weight (tree_of l.shape.now) + 1

abbrev pub decreases-fields : goal.decreases-fields
decreases-fields l = 3 * field_weights (field_trees l.fields.now) + 1

abbrev pub decreases-fields_inside : goal.decreases-fields_inside
decreases-fields_inside l = 3 * field_weights (field_trees (map field_of l.fields.now))

abbrev pub decreases-field : goal.decreases-field
decreases-field l = 3 * weight (tree_of l.field.now.shape) + 1

abbrev pub decreases-arms : goal.decreases-arms
decreases-arms l = 3 * arm_weights (arm_trees l.arms.now) + 1

abbrev pub decreases-arms_inside : goal.decreases-arms_inside
decreases-arms_inside l = 3 * arm_weights (arm_trees (map arm_of l.arms.now))

abbrev pub decreases-arm : goal.decreases-arm
decreases-arm l = 3 * weight (tree_of l.arm.now.shape) + 1
