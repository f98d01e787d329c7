-- The rules that a type obeys.
use Rattle.std.specs.Prelude.{◌≡◌, ℕ, false, ◌<◌, ◌≤◌, ◌⊎◌, List, [], ◌∷◌, map, length}
use Rattle.std.specs.List.{AllByRecursion}
use Rattle.circus_text.specs.declared.token.TokenKind.TheVariants.{Word}
use Rattle.circus_text.specs.Token.{IsSpelling}
use Rattle.circus_syntax.specs.Reserved.{is_reserved}
use Rattle.circus_syntax.specs.Spelling.{most_levels}
use Rattle.circus_value.specs.declared.shape.Label.{Label}
use Rattle.circus_value.specs.ShapeTree.{ShapeTree, FieldTrees, ArmTrees, FieldTree, boolean, cardinal, long_cardinal, integer, long_integer, text, enumeration, array, sequence, «record», choice, no_fields, more_fields, no_arms, more_arms}
use Rattle.circus_type.specs.Limits.{greatest_word, most_zero_bytes}
use Rattle.circus_type.specs.Distinct.{AreDistinct}
use Rattle.circus_type.specs.Written.{levels, zero_size}
use Rattle.circus_type.specs.Together.{names_of}

-- a word that isn't reserved
abbrev pub IsName : List ℕ → Type 0
IsName name = IsSpelling Word name × (is_reserved name ≡ false)

-- at least one label, their names and their numbers distinct
pub record ObeyLabels (labels : List Label) : Type 0 where
  pub some : 0 < length labels
  pub named : AllByRecursion (λ (l : Label). IsName l.name) labels
  pub names : AreDistinct (map (λ (l : Label). l.name) labels)
  pub numbers : AreDistinct (map (λ (l : Label). l.number) labels)
  pub in_range : AllByRecursion (λ (l : Label). l.number ≤ greatest_word) labels

-- the names of fields
abbrev pub field_names : FieldTrees → List (List ℕ)
field_names no_fields = []
field_names (more_fields name _ fs) = name ∷ field_names fs

-- the names of arms
abbrev pub arm_names : ArmTrees → List (List ℕ)
arm_names no_arms = []
arm_names (more_arms name _ _ arms) = name ∷ arm_names arms

-- the numbers of arms
abbrev pub arm_numbers : ArmTrees → List ℕ
arm_numbers no_arms = []
arm_numbers (more_arms _ number _ arms) = number ∷ arm_numbers arms

-- the names of fields, distinct
pub record AreFieldNames (names : List (List ℕ)) : Type 0 where
  pub named : AllByRecursion IsName names
  pub distinct : AreDistinct names

-- at least one arm, their names and their numbers distinct
pub record ObeyArms (names : List (List ℕ)) (numbers : List ℕ) : Type 0 where
  pub some : 0 < length names
  pub named : AllByRecursion IsName names
  pub distinct_names : AreDistinct names
  pub distinct_numbers : AreDistinct numbers
  pub in_range : AllByRecursion (λ n. n ≤ greatest_word) numbers

abbrev mutual
  -- a type in which no rule is broken, its size aside
  pub ObeysInside : ShapeTree → Type 0
  ObeysInside boolean = Unit {0}
  ObeysInside cardinal = Unit {0}
  ObeysInside long_cardinal = Unit {0}
  ObeysInside integer = Unit {0}
  ObeysInside long_integer = Unit {0}
  ObeysInside text = Unit {0}
  ObeysInside (enumeration labels) = ObeyLabels labels
  ObeysInside (array n s) = (1 ≤ n) × (n ≤ greatest_word) × ObeysInside s
  ObeysInside (sequence n s) = (n ≤ greatest_word) × ObeysInside s
  ObeysInside («record» fs) = (0 < length (field_names fs)) × AreFieldNames (field_names fs) × ObeyFields fs
  ObeysInside (choice arms) = ObeyArms (arm_names arms) (arm_numbers arms) × ObeyArmTypes arms

  -- each field's type
  pub ObeyFields : FieldTrees → Type 0
  ObeyFields no_fields = Unit {0}
  ObeyFields (more_fields _ s fs) = ObeysInside s × ObeyFields fs

  -- each arm's type, which may be a record without fields
  pub ObeyArmTypes : ArmTrees → Type 0
  ObeyArmTypes no_arms = Unit {0}
  ObeyArmTypes (more_arms _ _ s arms) = ((s ≡ «record» no_fields) ⊎ ObeysInside s) × ObeyArmTypes arms

-- a whole type
pub record ObeysWhole (s : ShapeTree) : Type 0 where
  pub inside : ObeysInside s
  pub small : zero_size s ≤ most_zero_bytes
  pub shallow : levels s ≤ most_levels

-- the fields of a list by their names
abbrev pub ObeyFieldList : List FieldTree → Type 0
ObeyFieldList fields = AreFieldNames (names_of fields)
