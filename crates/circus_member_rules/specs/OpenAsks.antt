-- The asks that aren't closed, by name, in the order of asking.
use Rattle.std.specs.Prelude.{Bool, false, ◌&&◌, nat_eq, List, Option}
use Rattle.std.specs.Option.{option_map_or}
use Rattle.std.specs.Map.{lookup, set_value}
use Rattle.indexmap.specs.IndexMap.{insert_entry}
use Rattle.circus_fanout.specs.Asking.{Asking}
use Rattle.circus_member_rules.specs.declared.occurrence.AskName.{AskName}

-- two names are the same
abbrev pub is_name : AskName → AskName → Bool
is_name name other = nat_eq name.run other.run && nat_eq name.ask other.ask

-- it is the one that waits, if one does
abbrev pub is_waiting : Option AskName → AskName → Bool
is_waiting waiting name = option_map_or (λ other. is_name other name) waiting false

-- the open ask of a name
abbrev pub asking_of : List (AskName × Asking) → AskName → Option Asking
asking_of asks name = lookup (is_name name) asks

-- an ask is opened, behind the others
abbrev pub with_ask : List (AskName × Asking) → AskName → Asking → List (AskName × Asking)
with_ask asks name a = insert_entry is_name asks name a

-- the ask of a name is changed, if it is open
abbrev pub with_asking : AskName → (Asking → Asking) → List (AskName × Asking) → List (AskName × Asking)
with_asking name change asks = option_map_or (λ (a : Asking). set_value (is_name name) asks (change a)) (asking_of asks name) asks
