-- A value's parts are lighter than the value.
use Rattle.std.specs.Prelude.{◌≤◌, Option, None, Some, List, [], ◌∷◌, map}
use Rattle.std.specs.declared.alloc.Global.{Global}
use Rattle.std.specs.declared.rc.Rc.{Rc}
use Rattle.std.proofs.Common.{arith}
use denote.Param.Weighed.{most}
use Rattle.circus_value.specs.ValueTree.{value_trees}
use Rattle.circus_value.specs.ValueOf.{tree_of}
use Rattle.circus_value.specs.Seen.ValueWeight.{weight, weights}
use Rattle.circus_value.specs.declared.value.Value.{Value}
use Rattle.circus_value.specs.declared.value.Value.TheVariants as V
use Rattle.circus_value.specs.declared.value.Items.{Items}
use Rattle.circus_value.specs.Seen.SharedItems.{items_in}
use Rattle.circus_value.specs.declared.value.Chosen.TheDeep.{deep-Value, deep-Values}

pub deep_le-weight : (v : Value) → deep-Value v ≤ weight (tree_of v)
deep_le-weight (V.Boolean b) = omega arith
deep_le-weight (V.Cardinal n) = omega arith
deep_le-weight (V.LongCardinal n) = omega arith
deep_le-weight (V.Integer z) = omega arith
deep_le-weight (V.LongInteger z) = omega arith
deep_le-weight (V.Text bytes) = omega arith
deep_le-weight (V.Enumeration n) = omega arith
deep_le-weight (V.Array items) = omega arith
deep_le-weight (V.Sequence items) = omega arith
deep_le-weight (V.Record items) = omega arith
deep_le-weight (V.Choice n chosen) = omega arith

pub most_deep_le-weights : (vs : List Value) → most deep-Value vs ≤ weights (value_trees (map tree_of vs))
most_deep_le-weights [] = omega arith
most_deep_le-weights (v ∷ vs) = omega (arith, deep_le-weight v, most_deep_le-weights vs)

pub items_fall : (alloc : Global) (items : Option (Rc Items Global)) → deep-Values (record { alloc = alloc; items = items }) ≤ weights (value_trees (map tree_of (items_in items)))
items_fall alloc None = omega arith
items_fall alloc (Some items) = omega (arith, most_deep_le-weights items.value.values.items)
