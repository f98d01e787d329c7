-- A type's parts are lighter than the type.
use Rattle.std.specs.Prelude.{ℕ, ◌≤◌, List, [], ◌∷◌, map}
use Rattle.std.proofs.Common.{arith}
use denote.Param.Weighed.{most}
use Rattle.circus_syntax.specs.TypeTree.{group_trees, arm_trees}
use Rattle.circus_syntax.specs.TypeOf.{tree_at, tree_of, group_of, arm_of}
use Rattle.circus_syntax.specs.Seen.TypeWeight.{weight, group_weights, arm_weights}
use Rattle.circus_syntax.specs.declared.type_text.TypeKind.{TypeKind}
use Rattle.circus_syntax.specs.declared.type_text.TypeKind.TheVariants as K
use Rattle.circus_syntax.specs.declared.type_text.TypeText.{TypeText}
use Rattle.circus_syntax.specs.declared.type_text.GroupText.{GroupText}
use Rattle.circus_syntax.specs.declared.type_text.ArmText.{ArmText}
use Rattle.circus_syntax.specs.declared.type_text.ArmTexts.TheDeep.{deep-TypeText, deep-TypeKind, deep-GroupText, deep-ArmText}

pub kind_deep_lt-weight : (at : ℕ) (k : TypeKind) → deep-TypeKind k ≤ weight (tree_at at k)
kind_deep_lt-weight at K.Boolean = omega arith
kind_deep_lt-weight at K.Cardinal = omega arith
kind_deep_lt-weight at K.LongCardinal = omega arith
kind_deep_lt-weight at K.Integer = omega arith
kind_deep_lt-weight at K.LongInteger = omega arith
kind_deep_lt-weight at K.Text = omega arith
kind_deep_lt-weight at (K.Enumeration labels) = omega arith
kind_deep_lt-weight at (K.Array len element) = omega arith
kind_deep_lt-weight at (K.Sequence bound element) = omega arith
kind_deep_lt-weight at (K.Record groups) = omega arith
kind_deep_lt-weight at (K.Choice arms) = omega arith
kind_deep_lt-weight at (K.Called name) = omega arith

pub deep_le-weight : (t : TypeText) → deep-TypeText t ≤ weight (tree_of t)
deep_le-weight t = omega (arith, kind_deep_lt-weight t.at t.kind)

pub most_deep_le-group_weights : (gs : List GroupText) → most deep-GroupText gs ≤ group_weights (group_trees (map group_of gs))
most_deep_le-group_weights [] = omega arith
most_deep_le-group_weights (g ∷ gs) = omega (arith, deep_le-weight g.shape, most_deep_le-group_weights gs)

pub most_deep_le-arm_weights : (rest : List ArmText) → most deep-ArmText rest ≤ arm_weights (arm_trees (map arm_of rest))
most_deep_le-arm_weights [] = omega arith
most_deep_le-arm_weights (a ∷ rest) = omega (arith, deep_le-weight a.shape, most_deep_le-arm_weights rest)
