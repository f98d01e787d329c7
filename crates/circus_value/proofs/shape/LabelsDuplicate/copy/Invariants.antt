use Rattle.std.proofs.Common.{◌≡◌, take}
use Rattle.circus_value.proofs.shape.LabelsDuplicate.copy.Given as goal

-- what was copied so far is the front of the list
abbrev pub invariant-loop-item : goal.invariant-loop-item
invariant-loop-item l = l.items.items ≡ take l.item-index l.item-items
