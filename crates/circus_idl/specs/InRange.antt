-- Numbers of one word in an interface.
use Rattle.std.specs.Prelude.{◌≡◌, ◌≤◌, ℕ, List, Option, Some, None}
use Rattle.circus_syntax.specs.declared.interface_text.FieldsText.{FieldsText}
use Rattle.circus_syntax.specs.TypeTree.{group_trees}
use Rattle.circus_type.specs.Limits.{greatest_word}
use Rattle.circus_type.specs.InRange.{AreGroupsInRange}

-- the fields of a list, where it is written
abbrev pub AreFieldsInRange : Option FieldsText → Type 0
AreFieldsInRange None = Unit {0}
AreFieldsInRange (Some f) = AreGroupsInRange (group_trees f.groups)

-- the numbers that names stand for
abbrev pub AreWords : (List ℕ → Option ℕ) → Type 0
AreWords numbers = (name : List ℕ) (n : ℕ) → numbers name ≡ Some n → n ≤ greatest_word
