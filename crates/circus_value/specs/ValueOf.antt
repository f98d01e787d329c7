-- The tree of a value, whose own items contracts see as trees.
use Rattle.circus_value.specs.ValueTree.{ValueTree, boolean, cardinal, long_cardinal, integer, long_integer, text, enumeration, array, sequence, «record», choice, value_trees}
use Rattle.circus_value.specs.declared.value.Value.{Value}
use Rattle.circus_value.specs.declared.value.Value.TheVariants as V

abbrev pub tree_of : Value → ValueTree
tree_of (V.Boolean b) = boolean b
tree_of (V.Cardinal n) = cardinal n
tree_of (V.LongCardinal n) = long_cardinal n
tree_of (V.Integer z) = integer z
tree_of (V.LongInteger z) = long_integer z
tree_of (V.Text bytes) = text bytes
tree_of (V.Enumeration n) = enumeration n
tree_of (V.Array items) = array (value_trees items)
tree_of (V.Sequence items) = sequence (value_trees items)
tree_of (V.Record items) = «record» (value_trees items)
tree_of (V.Choice n chosen) = choice n chosen
