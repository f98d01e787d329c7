-- What the code puts where steps lead to, and what that changes of the size.
use Rattle.std.specs.Prelude.{ℕ, List, [], ◌∷◌, ◌++◌, Option, Some, None, slice_get, slice_set}
use Rattle.circus_value.specs.ValueTree.{ValueTree, boolean, cardinal, long_cardinal, integer, long_integer, text, enumeration, array, sequence, «record», choice, value_trees}
use Rattle.circus_value.specs.ValueOf.{tree_of}
use Rattle.circus_value.specs.ExternalSize.{external_size}
use Rattle.circus_evaluate.specs.Parts.{Step, list_of, part_by, with_part_by, put_inside}
use Rattle.circus_evaluate.specs.declared.part.Put.{Put}
use Rattle.circus_evaluate.specs.declared.part.Put.TheVariants.{Whole, More}

-- a sequence with an item more
abbrev pub with_last : ValueTree → ValueTree → ValueTree
with_last t (sequence ts) = sequence (value_trees (list_of ts ++ t ∷ []))
with_last t (boolean b) = boolean b
with_last t (cardinal n) = cardinal n
with_last t (long_cardinal n) = long_cardinal n
with_last t (integer z) = integer z
with_last t (long_integer z) = long_integer z
with_last t (text bytes) = text bytes
with_last t (enumeration n) = enumeration n
with_last t (array ts) = array ts
with_last t («record» ts) = «record» ts
with_last t (choice n u) = choice n u

-- what is there, once something was put
abbrev pub put_over : Put → ValueTree → ValueTree
put_over (Whole value) old = tree_of value
put_over (More value) old = with_last (tree_of value) old

abbrev pub with_put : List Step → Put → ValueTree → ValueTree
with_put [] what t = put_over what t
with_put (s ∷ ss) what t = put_inside (part_by s t) t (λ inner. with_part_by s (with_put ss what inner) t)

-- the items, once something was put into the one at a place
abbrev pub item_put : List Step → Put → ℕ → List ValueTree → Option ValueTree → List ValueTree
item_put ss what place ts None = ts
item_put ss what place ts (Some t) = slice_set ts place (with_put ss what t)

abbrev pub with_put_item : List Step → Put → ℕ → List ValueTree → List ValueTree
with_put_item ss what place ts = item_put ss what place ts (slice_get ts place)

-- how many bytes more there are, once something was put
abbrev pub grows_by : Put → ℕ
grows_by (Whole value) = external_size (tree_of value)
grows_by (More value) = external_size (tree_of value)

-- and how many fewer
abbrev pub shrinks_by : Put → ValueTree → ℕ
shrinks_by (Whole value) old = external_size old
shrinks_by (More value) old = 0
