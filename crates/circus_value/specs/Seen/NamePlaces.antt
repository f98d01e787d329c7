-- Where names stand first in a list.
use Rattle.std.specs.Prelude.{◌≡◌, ℕ, List, map, Option, None, Some, bytes_eq}
use Rattle.std.specs.Ordering.{nat_cmp}
use Rattle.std.specs.Cmp.Lexicographic.{slice_cmp}
use Rattle.std.specs.List.{position_from}
use Rattle.std.specs.Map.{lookup}
use Rattle.std.specs.BTreeMap.{BTreeMap, get_by}
use Rattle.std.specs.declared.alloc.Global.{Global}
use Rattle.std.specs.declared.vec.Vec.{Vec}
use Rattle.std.specs.declared.rc.Rc.{Rc}

-- the place that a table gives for a name
abbrev pub place_in : BTreeMap (Vec ℕ Global) ℕ → List ℕ → Option ℕ
place_in places name = get_by (λ k. slice_cmp nat_cmp name k.items) places

-- the names of a table with their places
abbrev pub named_places : BTreeMap (Vec ℕ Global) ℕ → List (List ℕ × ℕ)
named_places places = map (λ (e : Vec ℕ Global × ℕ). (e.0.items, e.1)) places.entries

abbrev pub table_in : Option (Rc (BTreeMap (Vec ℕ Global) ℕ) Global) → Option (List (List ℕ × ℕ))
table_in None = None
table_in (Some places) = Some (named_places places.value)

-- a table, where there is one, gives for each name the place of the first item that has it
abbrev pub IsIndexOf : {X : Type 0} → (X → List ℕ) → List X → Option (List (List ℕ × ℕ)) → Type 0
IsIndexOf name_of items None = Unit {0}
IsIndexOf name_of items (Some table) =
    (name : List ℕ) → lookup (bytes_eq name) table ≡ position_from (λ x. bytes_eq (name_of x) name) 0 items
