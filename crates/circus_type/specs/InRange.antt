-- Types in which every number is one of one word.
use Rattle.std.specs.Prelude.{◌≤◌, List, Option, Some, None}
use Rattle.std.specs.List.{AllByRecursion}
use Rattle.circus_syntax.specs.declared.named.Numeral.{Numeral}
use Rattle.circus_syntax.specs.declared.named.LabelText.{LabelText}
use Rattle.circus_syntax.specs.TypeTree.{TypeTree, GroupTrees, ArmTrees, boolean, cardinal, long_cardinal, integer, long_integer, text, enumeration, array, sequence, «record», choice, called, no_groups, more_groups, no_arms, more_arms}
use Rattle.circus_type.specs.Limits.{greatest_word}

-- a number of one word
abbrev pub IsOneWord : Numeral → Type 0
IsOneWord n = n.value ≤ greatest_word

-- the bound of a sequence, where one is given
abbrev pub IsBoundInRange : Option Numeral → Type 0
IsBoundInRange None = Unit {0}
IsBoundInRange (Some n) = IsOneWord n

abbrev pub AreLabelsInRange : List LabelText → Type 0
AreLabelsInRange labels = AllByRecursion (λ (l : LabelText). IsOneWord l.number) labels

abbrev mutual
  pub IsInRange : TypeTree → Type 0
  IsInRange (boolean _) = Unit {0}
  IsInRange (cardinal _) = Unit {0}
  IsInRange (long_cardinal _) = Unit {0}
  IsInRange (integer _) = Unit {0}
  IsInRange (long_integer _) = Unit {0}
  IsInRange (text _) = Unit {0}
  IsInRange (enumeration _ labels) = AreLabelsInRange labels
  IsInRange (array _ n t) = IsOneWord n × IsInRange t
  IsInRange (sequence _ bound t) = IsBoundInRange bound × IsInRange t
  IsInRange («record» _ groups) = AreGroupsInRange groups
  IsInRange (choice _ arms) = AreArmsInRange arms
  IsInRange (called _ _) = Unit {0}

  -- the types of fields
  pub AreGroupsInRange : GroupTrees → Type 0
  AreGroupsInRange no_groups = Unit {0}
  AreGroupsInRange (more_groups _ t groups) = IsInRange t × AreGroupsInRange groups

  -- the numbers and the types of arms
  pub AreArmsInRange : ArmTrees → Type 0
  AreArmsInRange no_arms = Unit {0}
  AreArmsInRange (more_arms _ number t arms) = IsOneWord number × IsInRange t × AreArmsInRange arms
