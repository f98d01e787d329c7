-- What is filled in where reading a placing stopped: a name is x, a number, a value and a condition are 0, a list has one item,
-- and what may be left out is.
use Rattle.std.specs.Prelude.{Bool, true, false, List, [], ◌∷◌, ◌++◌, Option, Some, None}
use Rattle.std.specs.List.{flat_map}
use Rattle.circus_syntax.specs.declared.named.Named.{Named}
use Rattle.circus_syntax.specs.Filling.{as_name, as_number, behind_commas, as_names}
use Rattle.circus_place.specs.declared.text.ConstantText.{ConstantText}
use Rattle.circus_place.specs.declared.text.ConstantText.TheVariants as constant
use Rattle.circus_place.specs.declared.text.AttributeText.{AttributeText}
use Rattle.circus_place.specs.declared.text.MachineText.{MachineText}
use Rattle.circus_place.specs.declared.text.OperandText.{OperandText}
use Rattle.circus_place.specs.declared.text.OperandText.TheVariants as operand
use Rattle.circus_place.specs.Written.{Written, or, and, not, group, differ, compare, holds, PlacingTree}

-- whether each token of a tree is one that would be filled in there
abbrev pub as_constant : ConstantText → List Bool
as_constant (constant.Number n) = as_number n
as_constant (constant.Text content at) = false ∷ []
as_constant (constant.Truth b) = false ∷ []

abbrev pub as_attribute : AttributeText → List Bool
as_attribute a = as_name a.name ++ true ∷ as_constant a.constant

-- the first one, which may be left out
abbrev pub as_first_attribute : AttributeText → List Bool
as_first_attribute a = false ∷ true ∷ as_constant a.constant

abbrev pub as_attributes : List AttributeText → List Bool
as_attributes [] = []
as_attributes (a ∷ more) = as_first_attribute a ++ behind_commas as_attribute more

abbrev pub as_machine : MachineText → List Bool
as_machine m = false ∷ (as_name m.name ++ true ∷ (as_attributes m.attributes ++ true ∷ true ∷ []))

abbrev pub as_operand : OperandText → List Bool
as_operand (operand.Attribute member name) = as_number member ++ false ∷ as_name name
as_operand (operand.Fixed c) = as_constant c

abbrev pub as_condition : Written → List Bool
as_condition (or a b) = as_condition a ++ false ∷ as_condition b
as_condition (and a b) = as_condition a ++ false ∷ as_condition b
as_condition (not a) = false ∷ as_condition a
as_condition (group a) = false ∷ (as_condition a ++ true ∷ [])
as_condition (differ name) = false ∷ true ∷ as_name name
as_condition (compare c a b) = as_operand a ++ false ∷ as_operand b
as_condition (holds a) = as_operand a

abbrev pub as_present : Option (List Named) → List Bool
as_present None = []
as_present (Some names) = false ∷ (as_names names ++ true ∷ [])

abbrev pub as_placing : PlacingTree → List Bool
as_placing p =
    true ∷ true ∷ true ∷ (flat_map as_machine p.machines
    ++ true ∷ (as_number p.members ++ true ∷ (as_condition p.condition ++ true ∷ as_present p.present)))
