-- What a placing means that is written so.
use Rattle.std.specs.Prelude.{◌≡◌, ℕ, List, [], map, Option, Some, None, unwrap_or}
use Rattle.circus_syntax.specs.declared.named.Named.{Named}
use Rattle.circus_place.specs.declared.placing.Constant.{Constant}
use Rattle.circus_place.specs.declared.placing.Constant.TheVariants as meant
use Rattle.circus_place.specs.declared.placing.Attribute.{Attribute}
use Rattle.circus_place.specs.declared.placing.Machine.{Machine}
use Rattle.circus_place.specs.declared.placing.Placing.{Placing}
use Rattle.circus_place.specs.declared.condition.Operand.{Operand}
use Rattle.circus_place.specs.declared.condition.Operand.TheVariants as value
use Rattle.circus_place.specs.ConditionTree.{ConditionTree, tree_of}
use Rattle.circus_place.specs.ConditionTree as tree
use Rattle.circus_fault.specs.Known.{Known}
use Rattle.circus_place.specs.declared.text.ConstantText.{ConstantText}
use Rattle.circus_place.specs.declared.text.ConstantText.TheVariants as constant
use Rattle.circus_place.specs.declared.text.AttributeText.{AttributeText}
use Rattle.circus_place.specs.declared.text.MachineText.{MachineText}
use Rattle.circus_place.specs.declared.text.OperandText.{OperandText}
use Rattle.circus_place.specs.declared.text.OperandText.TheVariants as operand
use Rattle.circus_place.specs.Written.{Written, or, and, not, group, differ, compare, holds, PlacingTree}
use Rattle.circus_place.specs.Faults.{numbers_of}

abbrev pub constant_meant : ConstantText → Constant
constant_meant (constant.Number n) = meant.Number n.value
constant_meant (constant.Text content at) = meant.Text content
constant_meant (constant.Truth b) = meant.Truth b

abbrev pub attribute_meant : AttributeText → Attribute
attribute_meant a = record { name = a.name.name; constant = constant_meant a.constant }

abbrev pub machine_meant : MachineText → Machine
machine_meant m = record { name = m.name.name; attributes = map attribute_meant m.attributes }

abbrev pub operand_meant : OperandText → Operand
operand_meant (operand.Attribute member name) = value.Attribute member.value name.name
operand_meant (operand.Fixed c) = value.Fixed (constant_meant c)

-- a group is what stands in it
abbrev pub condition_meant : Written → ConditionTree
condition_meant (or a b) = tree.or (condition_meant a) (condition_meant b)
condition_meant (and a b) = tree.and (condition_meant a) (condition_meant b)
condition_meant (not a) = tree.not (condition_meant a)
condition_meant (group a) = condition_meant a
condition_meant (differ name) = tree.differ name.name
condition_meant (compare c a b) = tree.compare c (operand_meant a) (operand_meant b)
condition_meant (holds a) = tree.holds (operand_meant a)

-- the numbers of the machines of these names
abbrev pub present_meant : Known → Option (List Named) → List ℕ
present_meant machines None = []
present_meant machines (Some names) = map (λ (n : Named). unwrap_or (machines n.name) 0) names

pub record Means (p : PlacingTree) (placing : Placing) : Type 0 where
  pub machines : placing.machines ≡ map machine_meant p.machines
  pub members : placing.members ≡ p.members.value
  pub condition : tree_of placing.condition ≡ condition_meant p.condition
  pub present : placing.present ≡ present_meant (numbers_of p.machines) p.present
