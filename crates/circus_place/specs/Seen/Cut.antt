-- What a placing means, each number cut off at the greatest that it may be.
use Rattle.std.specs.Prelude.{ℕ, min, List, [], map, Option, Some, None, unwrap_or}
use Rattle.circus_syntax.specs.declared.named.Named.{Named}
use Rattle.circus_place.specs.declared.condition.Operand.{Operand}
use Rattle.circus_place.specs.declared.condition.Operand.TheVariants as value
use Rattle.circus_place.specs.ConditionTree.{ConditionTree}
use Rattle.circus_place.specs.ConditionTree as tree
use Rattle.circus_place.specs.Obeys.{most_machines, most_members}
use Rattle.circus_fault.specs.Known.{Known}
use Rattle.circus_place.specs.declared.text.OperandText.{OperandText}
use Rattle.circus_place.specs.declared.text.OperandText.TheVariants as operand
use Rattle.circus_place.specs.Written.{Written, or, and, not, group, differ, compare, holds}
use Rattle.circus_place.specs.Means.{constant_meant}

abbrev pub operand_cut : OperandText → Operand
operand_cut (operand.Attribute member name) = value.Attribute (min member.value most_members) name.name
operand_cut (operand.Fixed c) = value.Fixed (constant_meant c)

abbrev pub condition_cut : Written → ConditionTree
condition_cut (or a b) = tree.or (condition_cut a) (condition_cut b)
condition_cut (and a b) = tree.and (condition_cut a) (condition_cut b)
condition_cut (not a) = tree.not (condition_cut a)
condition_cut (group a) = condition_cut a
condition_cut (differ name) = tree.differ name.name
condition_cut (compare c a b) = tree.compare c (operand_cut a) (operand_cut b)
condition_cut (holds a) = tree.holds (operand_cut a)

abbrev pub name_cut : Known → Named → ℕ
name_cut machines n = min (unwrap_or (machines n.name) 0) most_machines

abbrev pub present_cut : Known → Option (List Named) → List ℕ
present_cut machines None = []
present_cut machines (Some names) = map (name_cut machines) names
