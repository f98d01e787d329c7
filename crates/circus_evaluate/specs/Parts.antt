-- How a place leads to a part of a value.
use Rattle.std.specs.Prelude.{ℕ, ℤ, pos, negsuc, ◌==◌, if◌then◌else◌, List, [], ◌∷◌, Ok, Err, ok_or, slice_get, slice_set}
use Rattle.circus_value.specs.ValueTree.{ValueTree, ValueTrees, array, sequence, «record», choice, none, more, value_trees}
use Rattle.circus_model.specs.declared.language_error.LanguageError.TheVariants.{Index, WrongChoice}
use Rattle.circus_evaluate.specs.Got.{Raising, and_then}

-- one step into a value: to the field at a place, to the arm with a number, to an item
pub data Step : Type 0 where
  field : ℕ → Step
  arm : ℕ → Step
  item : ℤ → Step

-- the items as a list
abbrev pub list_of : ValueTrees → List ValueTree
list_of none = []
list_of (more t ts) = t ∷ list_of ts

-- the item under a subscript
abbrev pub item_under : ℤ → ValueTrees → Raising ValueTree
item_under (pos n) ts = ok_or (slice_get (list_of ts) n) Index
item_under (negsuc n) ts = Err Index

-- the part of a value that a step leads to
abbrev pub part_by : Step → ValueTree → Raising ValueTree
part_by (field n) («record» ts) = ok_or (slice_get (list_of ts) n) WrongChoice
part_by (arm n) (choice m t) = if m == n then Ok t else Err WrongChoice
part_by (item z) (array ts) = item_under z ts
part_by (item z) (sequence ts) = item_under z ts
part_by _ _ = Err WrongChoice

-- the part that several steps lead to
abbrev pub part_at : List Step → ValueTree → Raising ValueTree
part_at [] t = Ok t
part_at (s ∷ ss) t = and_then (part_by s t) (part_at ss)

-- the items with another one under a subscript
abbrev pub with_item : ℤ → ValueTree → ValueTrees → ValueTrees
with_item (pos n) t ts = value_trees (slice_set (list_of ts) n t)
with_item (negsuc n) t ts = ts

-- a value with another part where a step leads to
abbrev pub with_part_by : Step → ValueTree → ValueTree → ValueTree
with_part_by (field n) part («record» ts) = «record» (value_trees (slice_set (list_of ts) n part))
with_part_by (arm n) part (choice m t) = choice m part
with_part_by (item z) part (array ts) = array (with_item z part ts)
with_part_by (item z) part (sequence ts) = sequence (with_item z part ts)
with_part_by _ part t = t

-- where the first step leads to a value, what becomes of the whole
abbrev pub put_inside : Raising ValueTree → ValueTree → (ValueTree → ValueTree) → ValueTree
put_inside (Ok inner) t f = f inner
put_inside (Err e) t f = t

-- a value with another part where several steps lead to
abbrev pub with_part : List Step → ValueTree → ValueTree → ValueTree
with_part [] part t = part
with_part (s ∷ ss) part t = put_inside (part_by s t) t (λ inner. with_part_by s (with_part ss part inner) t)
