use Rattle.std.proofs.Common.{◌≡◌, ◌+◌, ◌*◌, ℕ, [], ◌∷◌, ◌++◌, drop, map}
use Rattle.circus_expression.specs.ExpressionTree.{ExpressionTree, expression_trees, suffix_trees}
use Rattle.circus_expression.specs.ExpressionOf.{tree_of, suffix_of}
use Rattle.circus_expression.specs.Seen.ExpressionWeight.{weight, list_weight, suffix_weights}
use Rattle.circus_resolve.specs.Faults.{each_faults, suffix_faults, shape_led_to}
use Rattle.circus_resolve.specs.Meaning.{each_meant, suffixes_meant}
use Rattle.circus_resolve.specs.Seen.Found.{with_faults}
use Rattle.circus_resolve.specs.Seen.Scoped.{scope_as, shape_as}
use Rattle.circus_resolve.specs.Seen.Wanted.{slots_as}
use Rattle.circus_resolve.proofs.expression.+resolving.Given as goal

-- the items that are left have the other faults, and mean the rest
abbrev pub invariant-resolve_each-loop-place : goal.invariant-resolve_each-loop-place
invariant-resolve_each-loop-place l =
    (with_faults l.found (each_faults (scope_as l.scope) (slots_as l.slots) l.place (expression_trees (map tree_of (drop l.place l.item-items))))
    ≡ with_faults l.fn.found (each_faults (scope_as l.scope) (slots_as l.slots) 0 (expression_trees l.items)))
    × (l.trees ++ each_meant (scope_as l.scope) (slots_as l.slots) l.place (expression_trees (map tree_of (drop l.place l.item-items)))
    ≡ each_meant (scope_as l.scope) (slots_as l.slots) 0 (expression_trees l.items))

-- the suffixes that are left have the other faults, lead on, and mean the rest
abbrev pub invariant-suffixes_of-loop-suffix : goal.invariant-suffixes_of-loop-suffix
invariant-suffixes_of-loop-suffix l =
    (with_faults l.found (suffix_faults (scope_as l.scope) l.first (shape_as l.led.shape) (suffix_trees (map suffix_of (drop l.suffix-index l.suffix-items))))
    ≡ with_faults l.fn.found (suffix_faults (scope_as l.scope) l.first (shape_as l.shape) (suffix_trees l.suffixes)))
    × ((shape_led_to (shape_as l.led.shape) (suffix_trees (map suffix_of (drop l.suffix-index l.suffix-items))) ≡ shape_led_to (shape_as l.shape) (suffix_trees l.suffixes))
    × (l.led.suffixes ++ suffixes_meant (scope_as l.scope) (shape_as l.led.shape) (suffix_trees (map suffix_of (drop l.suffix-index l.suffix-items)))
    ≡ suffixes_meant (scope_as l.scope) (shape_as l.shape) (suffix_trees l.suffixes)))

-- how much is left to resolve
abbrev light : ExpressionTree → ℕ
light e = 8 * weight e

abbrev pub decreases-resolve : goal.decreases-resolve
decreases-resolve l = light (tree_of l.expression.now)

abbrev pub decreases-binary : goal.decreases-binary
decreases-binary l = light l.left.now + light l.right.now + 3

abbrev pub decreases-resolve_not : goal.decreases-resolve_not
decreases-resolve_not l = light l.operand.now + 3

abbrev pub decreases-resolve_minus : goal.decreases-resolve_minus
decreases-resolve_minus l = light l.operand.now + 3

abbrev pub decreases-length : goal.decreases-length
decreases-length l = light l.operand.now + 3

abbrev pub decreases-standing_at : goal.decreases-standing_at
decreases-standing_at l = light l.operand.now + 3

abbrev pub decreases-arm : goal.decreases-arm
decreases-arm l = light l.operand.now + 3

abbrev pub decreases-items_of : goal.decreases-items_of
decreases-items_of l = 8 * list_weight (expression_trees l.items.now) + 5

abbrev pub decreases-item_for : goal.decreases-item_for
decreases-item_for l = light (tree_of l.item.now) + 1

abbrev pub decreases-resolve_each : goal.decreases-resolve_each
decreases-resolve_each l = 8 * list_weight (expression_trees l.items.now)

abbrev pub decreases-read : goal.decreases-read
decreases-read l = 8 * suffix_weights (suffix_trees l.place.now.suffixes) + 7

abbrev pub decreases-resolve_place : goal.decreases-resolve_place
decreases-resolve_place l = 8 * suffix_weights (suffix_trees l.place.now.suffixes) + 6

abbrev pub decreases-suffixes_of : goal.decreases-suffixes_of
decreases-suffixes_of l = 8 * suffix_weights (suffix_trees l.suffixes.now) + 4

abbrev pub decreases-step : goal.decreases-step
decreases-step l = 8 * suffix_weights (suffix_trees (suffix_of l.suffix.now ∷ []))
