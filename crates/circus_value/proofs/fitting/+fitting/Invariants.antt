use Rattle.std.proofs.Common.{◌≡◌, drop, map}
use Rattle.circus_value.specs.ValueTree.{value_trees}
use Rattle.circus_value.specs.ShapeTree.{field_trees}
use Rattle.circus_value.specs.Seen.ValueWeight.{weight, weights}
use Rattle.circus_value.specs.ValueOf as values
use Rattle.circus_value.specs.ShapeOf as shapes
use Rattle.circus_value.specs.Fits.{fits, every, fields_fit}
use Rattle.circus_value.proofs.fitting.+fitting.Given as goal

-- the items that are left decide
abbrev pub invariant-all_fit-loop-item : goal.invariant-all_fit-loop-item
invariant-all_fit-loop-item l =
    every (fits (shapes.tree_of l.shape)) (value_trees (map values.tree_of (drop l.item-index l.item-items)))
    ≡ every (fits (shapes.tree_of l.shape)) (value_trees l.items)

-- the fields and the items that are left decide
abbrev pub invariant-fields_fit-loop-place : goal.invariant-fields_fit-loop-place
invariant-fields_fit-loop-place l =
    fields_fit (field_trees (drop l.place l.fields)) (value_trees (map values.tree_of (drop l.place l.item-items)))
    ≡ fields_fit (field_trees l.fields) (value_trees l.items)

abbrev pub decreases-fits : goal.decreases-fits
decreases-fits l = weight (values.tree_of l.value.now)

abbrev pub decreases-all_fit : goal.decreases-all_fit
decreases-all_fit l = weights (value_trees l.items.now)

abbrev pub decreases-fields_fit : goal.decreases-fields_fit
decreases-fields_fit l = weights (value_trees l.items.now)
