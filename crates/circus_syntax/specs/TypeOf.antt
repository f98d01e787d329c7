-- The tree of a type, whose own parts contracts see as trees.
use Rattle.std.specs.Prelude.{ℕ}
use Rattle.circus_syntax.specs.TypeTree.{TypeTree, GroupTree, ArmTree, boolean, cardinal, long_cardinal, integer, long_integer, text, enumeration, array, sequence, «record», choice, called, group_trees, arm_trees}
use Rattle.circus_syntax.specs.declared.type_text.TypeKind.{TypeKind}
use Rattle.circus_syntax.specs.declared.type_text.TypeKind.TheVariants as K
use Rattle.circus_syntax.specs.declared.type_text.TypeText.{TypeText}
use Rattle.circus_syntax.specs.declared.type_text.GroupText.{GroupText}
use Rattle.circus_syntax.specs.declared.type_text.ArmText.{ArmText}

-- the tree of a type of this kind at this place
abbrev pub tree_at : ℕ → TypeKind → TypeTree
tree_at at K.Boolean = boolean at
tree_at at K.Cardinal = cardinal at
tree_at at K.LongCardinal = long_cardinal at
tree_at at K.Integer = integer at
tree_at at K.LongInteger = long_integer at
tree_at at K.Text = text at
tree_at at (K.Enumeration labels) = enumeration at labels
tree_at at (K.Array len element) = array at len element
tree_at at (K.Sequence bound element) = sequence at bound element
tree_at at (K.Record groups) = «record» at (group_trees groups)
tree_at at (K.Choice arms) = choice at (arm_trees arms)
tree_at at (K.Called name) = called at name

abbrev pub tree_of : TypeText → TypeTree
tree_of t = tree_at t.at t.kind

-- a group, its type as a tree
abbrev pub group_of : GroupText → GroupTree
group_of g = record { names = g.names; shape = tree_of g.shape }

-- an arm, its type as a tree
abbrev pub arm_of : ArmText → ArmTree
arm_of a = record { name = a.name; number = a.number; shape = tree_of a.shape }
