use Rattle.std.proofs.Common.{◌≡◌, take}
use Rattle.circus_checked.proofs.expression.+checked_expression_copy.Given as goal

-- what was copied so far is the front of the list
abbrev pub invariant-CheckedExpressionsDuplicate::copy-loop-item :
    goal.invariant-CheckedExpressionsDuplicate::copy-loop-item
invariant-CheckedExpressionsDuplicate::copy-loop-item l = l.items.items ≡ take l.item-index l.item-items

-- what was copied so far is the front of the list
abbrev pub invariant-CheckedSuffixesDuplicate::copy-loop-item :
    goal.invariant-CheckedSuffixesDuplicate::copy-loop-item
invariant-CheckedSuffixesDuplicate::copy-loop-item l = l.items.items ≡ take l.item-index l.item-items
