-- Each item of a list is lighter than the list.
use Rattle.std.proofs.Common.{arith, ◌≡◌, ℕ, ◌+◌, ◌<◌, ◌≤◌, List, ◌∷◌, length, map, get_or}
use denote.Param.Weighed.{at_most}
use Rattle.circus_value.specs.ValueTree.{ValueTree, value_trees, boolean, cardinal, long_cardinal, integer, long_integer, text, enumeration, array, sequence, «record», choice}
use Rattle.circus_value.specs.ValueOf.{tree_of}
use Rattle.circus_value.specs.Seen.ValueWeight.{weight, weights}
use Rattle.circus_value.specs.Seen.ValueFalls.{most_deep_le-weights}
use Rattle.circus_value.specs.declared.value.Value.{Value}
use Rattle.circus_value.specs.declared.value.Chosen.TheDeep.{deep-Value}

-- no value weighs nothing
pub weight_positive : (t : ValueTree) → 1 ≤ weight t
weight_positive (boolean _) = omega arith
weight_positive (cardinal _) = omega arith
weight_positive (long_cardinal _) = omega arith
weight_positive (integer _) = omega arith
weight_positive (long_integer _) = omega arith
weight_positive (text _) = omega arith
weight_positive (enumeration _) = omega arith
weight_positive (array _) = omega arith
weight_positive (sequence _) = omega arith
weight_positive («record» _) = omega arith
weight_positive (choice _ _) = omega arith

-- an item behind the first one
pub later_falls : (ts : List ValueTree) (vs others : List Value) (v : Value) (i : ℕ) (d : Value) → map tree_of vs ≡ ts → vs ≡ v ∷ others → i < length others → deep-Value (get_or others i d) + 2 ≤ weights (value_trees ts)
later_falls ts vs others v i d trees parts below =
    rw (← trees, parts) (omega (arith, weight_positive (tree_of v), at_most deep-Value others i d below, most_deep_le-weights others))
