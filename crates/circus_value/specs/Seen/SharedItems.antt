-- The values behind a list that is shared, and their size, which is kept beside them.
use Rattle.std.specs.Prelude.{◌≡◌, ℕ, ◌+◌, ◌-◌, ◌^◌, ◌≤◌, min, Option, None, Some, List, [], map}
use Rattle.std.specs.declared.alloc.Global.{Global}
use Rattle.std.specs.declared.rc.Rc.{Rc}
use Rattle.circus_value.specs.ExternalSize.{size_of_values}
use Rattle.circus_value.specs.ValueOf.{tree_of}
use Rattle.circus_value.specs.declared.value.Value.{Value}
use Rattle.circus_value.specs.declared.value.Items.{Items}

abbrev pub items_in : Option (Rc Items Global) → List Value
items_in None = []
items_in (Some items) = items.value.values.items

abbrev pub size_in : Option (Rc Items Global) → ℕ
size_in None = 0
size_in (Some items) = items.value.size

abbrev pub IsSizeOf : List Value → ℕ → Type 0
IsSizeOf items size = size ≡ min (size_of_values (map tree_of items)) (2 ^ 64 - 1)

abbrev pub IsSized : Items → Type 0
IsSized items = IsSizeOf items.values.items items.size

abbrev pub IsCounted : Option (Rc Items Global) → Type 0
IsCounted items = IsSizeOf (items_in items) (size_in items)

-- the size of items of which one was put in the place of another, by the size before and the sizes of both
abbrev pub IsRecounted : List Value → ℕ → ℕ → ℕ → ℕ → Type 0
IsRecounted items before shrinks grows size =
    (n s g : ℕ) → before ≡ min n (2 ^ 64 - 1) → shrinks ≡ min s (2 ^ 64 - 1) → grows ≡ min g (2 ^ 64 - 1) → s ≤ n → size_of_values (map tree_of items) + s ≡ n + g → IsSizeOf items size
