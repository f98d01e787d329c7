-- When a condition holds of a choice of machines.
use Rattle.std.specs.Prelude.{ℕ, ◌-◌, Bool, true, false, ◌&&◌, ◌||◌, ◌==◌, not, nat_lt, nat_le, bytes_eq, if◌then◌else◌, List, [], ◌∷◌, map, slice_get, Option, Some, None, is_some}
use Rattle.std.specs.Bool.{beq}
use Rattle.std.specs.List.{list_any}
use Rattle.std.specs.Option.{option_and_then}
use Rattle.circus_place.specs.declared.placing.Attribute.{Attribute}
use Rattle.circus_place.specs.declared.placing.Constant.{Constant}
use Rattle.circus_place.specs.declared.placing.Constant.TheVariants.{Number, Text, Truth}
use Rattle.circus_place.specs.declared.placing.Machine.{Machine}
use Rattle.circus_place.specs.declared.condition.Comparison.{Comparison}
use Rattle.circus_place.specs.declared.condition.Comparison.TheVariants.{Equal, Unequal, Less, AtMost, Greater, AtLeast}
use Rattle.circus_place.specs.declared.condition.Operand.{Operand}
use Rattle.circus_place.specs.declared.condition.Operand.TheVariants as operand
use Rattle.circus_place.specs.ConditionTree as condition
use Rattle.circus_place.specs.ConditionTree.{ConditionTree}

-- what the attribute of this name is, where there is one
abbrev pub attribute_in : List Attribute → List ℕ → Option Constant
attribute_in [] name = None
attribute_in (a ∷ others) name = if bytes_eq a.name name then Some a.constant else attribute_in others name

-- what it is at the machine of this number
abbrev pub attribute_at : List Machine → List ℕ → ℕ → Option Constant
attribute_at machines name machine = option_and_then (λ m. attribute_in m.attributes name) (slice_get machines machine)

-- the value of an operand, if it has one: an attribute's is that at the machine of its member, the first of which is the first of the choice
abbrev pub value_of : List Machine → List ℕ → Operand → Option Constant
value_of machines choice (operand.Attribute member name) = option_and_then (attribute_at machines name) (slice_get choice (member - 1))
value_of machines choice (operand.Fixed c) = Some c

-- two values of one kind
abbrev pub is_of_kind : Constant → Constant → Bool
is_of_kind (Number a) (Number b) = true
is_of_kind (Text a) (Text b) = true
is_of_kind (Truth a) (Truth b) = true
is_of_kind _ _ = false

-- they are the same
abbrev pub is_same : Constant → Constant → Bool
is_same (Number a) (Number b) = a == b
is_same (Text a) (Text b) = bytes_eq a b
is_same (Truth a) (Truth b) = beq a b
is_same _ _ = false

-- they are numbers that pass a test
abbrev pub are_numbers : (ℕ → ℕ → Bool) → Constant → Constant → Bool
are_numbers test (Number a) (Number b) = test a b
are_numbers test _ _ = false

-- the relation holds of two values: = and <> of values of one kind, the others of numbers alone
abbrev pub compares : Comparison → Constant → Constant → Bool
compares Equal a b = is_same a b
compares Unequal a b = is_of_kind a b && not (is_same a b)
compares Less a b = are_numbers nat_lt a b
compares AtMost a b = are_numbers nat_le a b
compares Greater a b = are_numbers (λ x y. nat_lt y x) a b
compares AtLeast a b = are_numbers (λ x y. nat_le y x) a b

-- both sides have a value, of which the relation holds
abbrev pub is_related : Comparison → Option Constant → Option Constant → Bool
is_related c (Some a) (Some b) = compares c a b
is_related c _ _ = false

-- there is a value, and it is TRUE
abbrev pub is_truth : Option Constant → Bool
is_truth (Some (Truth b)) = b
is_truth _ = false

-- each has a value, and no two values are the same
abbrev pub all_differ : List (Option Constant) → Bool
all_differ [] = true
all_differ (v ∷ vs) = is_some v && not (list_any (is_related Equal v) vs) && all_differ vs

-- the condition holds of the choice
abbrev pub does_hold : List Machine → List ℕ → ConditionTree → Bool
does_hold machines choice (condition.or a b) = does_hold machines choice a || does_hold machines choice b
does_hold machines choice (condition.and a b) = does_hold machines choice a && does_hold machines choice b
does_hold machines choice (condition.not a) = not (does_hold machines choice a)
does_hold machines choice (condition.differ name) = all_differ (map (attribute_at machines name) choice)
does_hold machines choice (condition.compare c a b) = is_related c (value_of machines choice a) (value_of machines choice b)
does_hold machines choice (condition.holds a) = is_truth (value_of machines choice a)
