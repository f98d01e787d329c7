-- How large a type is, with every name in it written out.
use Rattle.std.specs.Prelude.{ℕ, ◌+◌, pos, max, false, List, [], ◌∷◌, length, zero, suc}
use Rattle.circus_value.specs.declared.shape.Label.{Label}
use Rattle.circus_value.specs.ShapeTree.{ShapeTree, FieldTrees, ArmTrees, boolean, cardinal, long_cardinal, integer, long_integer, text, enumeration, array, sequence, «record», choice, no_fields, more_fields, no_arms, more_arms}
use Rattle.circus_value.specs.ValueTree.{ValueTree, ValueTrees, none, more}
use Rattle.circus_value.specs.ValueTree as V
use Rattle.circus_value.specs.ExternalSize.{external_size}

abbrev mutual
  -- how deep ARRAY, SEQUENCE, RECORD and CHOICE stand in one another
  pub levels : ShapeTree → ℕ
  levels boolean = 0
  levels cardinal = 0
  levels long_cardinal = 0
  levels integer = 0
  levels long_integer = 0
  levels text = 0
  levels (enumeration _) = 0
  levels (array _ s) = 1 + levels s
  levels (sequence _ s) = 1 + levels s
  levels («record» fs) = 1 + field_levels fs
  levels (choice arms) = 1 + arm_levels arms

  pub field_levels : FieldTrees → ℕ
  field_levels no_fields = 0
  field_levels (more_fields _ s fs) = max (levels s) (field_levels fs)

  pub arm_levels : ArmTrees → ℕ
  arm_levels no_arms = 0
  arm_levels (more_arms _ _ s arms) = max (levels s) (arm_levels arms)

abbrev mutual
  -- how many types, fields, labels and arms stand in it
  pub parts : ShapeTree → ℕ
  parts boolean = 1
  parts cardinal = 1
  parts long_cardinal = 1
  parts integer = 1
  parts long_integer = 1
  parts text = 1
  parts (enumeration labels) = 1 + length labels
  parts (array _ s) = 1 + parts s
  parts (sequence _ s) = 1 + parts s
  parts («record» fs) = 1 + field_parts fs
  parts (choice arms) = 1 + arm_parts arms

  pub field_parts : FieldTrees → ℕ
  field_parts no_fields = 0
  field_parts (more_fields _ s fs) = 1 + parts s + field_parts fs

  pub arm_parts : ArmTrees → ℕ
  arm_parts no_arms = 0
  arm_parts (more_arms _ _ s arms) = 1 + parts s + arm_parts arms

-- so many copies of a value
abbrev pub copies : ℕ → ValueTree → ValueTrees
copies zero t = none
copies (suc n) t = more t (copies n t)

-- the number of the first label
abbrev pub first_label : List Label → ℕ
first_label [] = 0
first_label (l ∷ _) = l.number

abbrev mutual
  -- FALSE, 0, empty, the first label, the first arm, and zeros within
  pub zero_value : ShapeTree → ValueTree
  zero_value boolean = V.boolean false
  zero_value cardinal = V.cardinal 0
  zero_value long_cardinal = V.long_cardinal 0
  zero_value integer = V.integer (pos 0)
  zero_value long_integer = V.long_integer (pos 0)
  zero_value text = V.text []
  zero_value (enumeration labels) = V.enumeration (first_label labels)
  zero_value (array n s) = V.array (copies n (zero_value s))
  zero_value (sequence _ _) = V.sequence none
  zero_value («record» fs) = V.«record» (zero_values fs)
  zero_value (choice arms) = zero_choice arms

  pub zero_values : FieldTrees → ValueTrees
  zero_values no_fields = none
  zero_values (more_fields _ s fs) = more (zero_value s) (zero_values fs)

  pub zero_choice : ArmTrees → ValueTree
  zero_choice no_arms = V.choice 0 (V.«record» none)
  zero_choice (more_arms _ number s _) = V.choice number (zero_value s)

-- the bytes of its zero value in external form
abbrev pub zero_size : ShapeTree → ℕ
zero_size s = external_size (zero_value s)
