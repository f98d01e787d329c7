-- A number for each tree that is above that of its parts.
use Rattle.std.specs.Prelude.{ℕ, ◌+◌}
use Rattle.circus_value.specs.ValueTree.{ValueTree, ValueTrees, boolean, cardinal, long_cardinal, integer, long_integer, text, enumeration, array, sequence, «record», choice, none, more}

abbrev mutual
  pub weight : ValueTree → ℕ
  weight (boolean _) = 1
  weight (cardinal _) = 1
  weight (long_cardinal _) = 1
  weight (integer _) = 1
  weight (long_integer _) = 1
  weight (text _) = 1
  weight (enumeration _) = 1
  weight (array ts) = 1 + weights ts
  weight (sequence ts) = 1 + weights ts
  weight («record» ts) = 1 + weights ts
  weight (choice _ t) = 1 + weight t

  pub weights : ValueTrees → ℕ
  weights none = 1
  weights (more t ts) = 1 + weight t + weights ts
