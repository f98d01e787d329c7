-- What a value is to a contract: a plain tree.
use Rattle.std.specs.Prelude.{ℕ, ℤ, Bool, List, [], ◌∷◌}

mutual
  pub data ValueTree : Type 0 where
    boolean : Bool → ValueTree
    cardinal : ℕ → ValueTree
    long_cardinal : ℕ → ValueTree
    integer : ℤ → ValueTree
    long_integer : ℤ → ValueTree
    text : List ℕ → ValueTree
    enumeration : ℕ → ValueTree
    array : ValueTrees → ValueTree
    sequence : ValueTrees → ValueTree
    «record» : ValueTrees → ValueTree
    choice : ℕ → ValueTree → ValueTree

  -- the items of an array, a sequence or a record, in order
  pub data ValueTrees : Type 0 where
    none : ValueTrees
    more : ValueTree → ValueTrees → ValueTrees

-- the items of a list
abbrev pub value_trees : List ValueTree → ValueTrees
value_trees [] = none
value_trees (t ∷ ts) = more t (value_trees ts)
