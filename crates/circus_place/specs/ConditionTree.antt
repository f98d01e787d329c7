-- A condition as a plain tree.
use Rattle.std.specs.Prelude.{ℕ, List}
use Rattle.circus_place.specs.declared.condition.Comparison.{Comparison}
use Rattle.circus_place.specs.declared.condition.Operand.{Operand}
use Rattle.circus_place.specs.declared.condition.Condition.{Condition, Or', And', Not', Differ, Compare, Holds}

pub data ConditionTree : Type 0 where
  or : ConditionTree → ConditionTree → ConditionTree
  and : ConditionTree → ConditionTree → ConditionTree
  not : ConditionTree → ConditionTree
  differ : List ℕ → ConditionTree
  compare : Comparison → Operand → Operand → ConditionTree
  holds : Operand → ConditionTree

-- the tree of a condition, whatever memory it lies in
abbrev pub tree_of : Condition → ConditionTree
tree_of (Or' p l q r) = or (tree_of l) (tree_of r)
tree_of (And' p l q r) = and (tree_of l) (tree_of r)
tree_of (Not' p c) = not (tree_of c)
tree_of (Differ name) = differ name
tree_of (Compare c a b) = compare c a b
tree_of (Holds a) = holds a
