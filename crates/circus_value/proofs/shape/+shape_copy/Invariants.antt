use Rattle.std.proofs.Common.{◌≡◌, take}
use Rattle.circus_value.proofs.shape.+shape_copy.Given as goal

-- what was copied so far is the front of the list
abbrev pub invariant-FieldsDuplicate::copy-loop-item :
    goal.invariant-FieldsDuplicate::copy-loop-item
invariant-FieldsDuplicate::copy-loop-item l = l.items.items ≡ take l.item-index l.item-items

-- what was copied so far is the front of the list
abbrev pub invariant-ArmsDuplicate::copy-loop-item :
    goal.invariant-ArmsDuplicate::copy-loop-item
invariant-ArmsDuplicate::copy-loop-item l = l.items.items ≡ take l.item-index l.item-items
