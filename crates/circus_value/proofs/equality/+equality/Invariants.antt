use Rattle.std.proofs.Common.{◌≡◌, drop, map}
use Rattle.circus_value.specs.ValueTree.{value_trees}
use Rattle.circus_value.specs.Seen.ValueWeight.{weight, weights}
use Rattle.circus_value.specs.ValueOf.{tree_of}
use Rattle.circus_value.specs.ValueEquality.{items_eq}
use Rattle.circus_value.proofs.equality.+equality.Given as goal

-- the items that are left decide
abbrev pub invariant-same_values-loop-place : goal.invariant-same_values-loop-place
invariant-same_values-loop-place l =
    items_eq (value_trees (map tree_of (drop l.place l.item-items))) (value_trees (map tree_of (drop l.place l.others)))
    ≡ items_eq (value_trees l.one) (value_trees l.other)

abbrev pub decreases-same_value : goal.decreases-same_value
decreases-same_value l = weight (tree_of l.one.now)

abbrev pub decreases-same_values : goal.decreases-same_values
decreases-same_values l = weights (value_trees l.one.now)
