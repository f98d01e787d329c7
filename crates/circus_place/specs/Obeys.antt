-- The rules of a placing.
use Rattle.std.specs.Prelude.{◌≢◌, ℕ, ◌<◌, ◌≤◌, All, AllPairs, length}
use Rattle.circus_place.specs.declared.condition.Operand.{Operand}
use Rattle.circus_place.specs.declared.condition.Operand.TheVariants.{Attribute, Fixed}
use Rattle.circus_place.specs.declared.placing.Placing.{Placing}
use Rattle.circus_place.specs.ConditionTree.{ConditionTree, or, and, not, differ, compare, holds, tree_of}

-- the most machines that there may be
abbrev pub most_machines : ℕ
most_machines = 24

-- the most members that may be placed
abbrev pub most_members : ℕ
most_members = 5

-- the attribute of an operand is one of a member, which are numbered from 1
abbrev pub IsOfMember : ℕ → Operand → Type 0
IsOfMember members (Attribute member name) = (0 < member) × (member ≤ members)
IsOfMember members (Fixed c) = Unit {0}

-- so is that of each operand of a condition
abbrev pub AreOfMembers : ℕ → ConditionTree → Type 0
AreOfMembers members (or a b) = AreOfMembers members a × AreOfMembers members b
AreOfMembers members (and a b) = AreOfMembers members a × AreOfMembers members b
AreOfMembers members (not a) = AreOfMembers members a
AreOfMembers members (differ name) = Unit {0}
AreOfMembers members (compare c a b) = IsOfMember members a × IsOfMember members b
AreOfMembers members (holds a) = IsOfMember members a

pub record Obeys (p : Placing) : Type 0 where
  pub few_machines : length p.machines ≤ most_machines
  pub machine_names : AllPairs (λ m n. m.name ≢ n.name) p.machines
  pub attribute_names : All (λ m. AllPairs (λ a b. a.name ≢ b.name) m.attributes) p.machines
  pub some_members : 0 < p.members
  pub few_members : p.members ≤ most_members
  pub operands : AreOfMembers p.members (tree_of p.condition)
  pub present_machines : All (λ m. m < length p.machines) p.present
  pub present_once : AllPairs (λ m n. m ≢ n) p.present
