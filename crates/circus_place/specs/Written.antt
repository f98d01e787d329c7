-- A placing as it is written, as a plain tree with places.
use Rattle.std.specs.Prelude.{List, Option}
use Rattle.circus_syntax.specs.declared.named.Named.{Named}
use Rattle.circus_syntax.specs.declared.named.Numeral.{Numeral}
use Rattle.circus_place.specs.declared.condition.Comparison.{Comparison}
use Rattle.circus_place.specs.declared.text.OperandText.{OperandText}
use Rattle.circus_place.specs.declared.text.MachineText.{MachineText}
use Rattle.circus_place.specs.declared.text.ConditionText.{ConditionText, Or', And', Not', Group', Differ, Compare, Holds}
use Rattle.circus_place.specs.declared.text.PlacingText.{PlacingText}

-- a condition
pub data Written : Type 0 where
  or : Written → Written → Written
  and : Written → Written → Written
  not : Written → Written
  group : Written → Written
  differ : Named → Written
  compare : Comparison → OperandText → OperandText → Written
  holds : OperandText → Written

pub record PlacingTree : Type 0 where
  pub machines : List MachineText
  pub members : Numeral
  pub condition : Written
  pub present : Option (List Named)

-- the tree of a condition that was read
abbrev pub written_of : ConditionText → Written
written_of (Or' p l q r) = or (written_of l) (written_of r)
written_of (And' p l q r) = and (written_of l) (written_of r)
written_of (Not' p c) = not (written_of c)
written_of (Group' p c) = group (written_of c)
written_of (Differ name) = differ name
written_of (Compare c a b) = compare c a b
written_of (Holds a) = holds a

abbrev pub placing_of : PlacingText → PlacingTree
placing_of p = record { machines = p.machines; members = p.members; condition = written_of p.condition; present = p.present }
