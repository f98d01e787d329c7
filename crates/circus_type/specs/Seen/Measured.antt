-- How large a type is, with numbers that stop above their limits.
use Rattle.std.specs.Prelude.{ℕ, ◌+◌, ◌*◌, min, max, cond, Bool, ◌==◌, ◌||◌, nat_lt, length}
use Rattle.circus_value.specs.ExternalSize.{external_sizes}
use Rattle.circus_value.specs.ShapeTree.{ShapeTree, FieldTrees}
use Rattle.circus_value.specs.ShapeTree as shape
use Rattle.circus_syntax.specs.TypeTree.{TypeTree, GroupTrees, ArmTrees, boolean, cardinal, long_cardinal, integer, long_integer, text, enumeration, array, sequence, «record», choice, called, no_groups, more_groups, no_arms, more_arms}
use Rattle.circus_syntax.specs.declared.named.TypeName.{TypeName}
use Rattle.circus_syntax.specs.Spelling.{most_levels}
use Rattle.circus_type.specs.declared.measuring.Measure.{Measure}
use Rattle.circus_type.specs.Limits.{most_parts, most_zero_bytes}
use Rattle.circus_type.specs.Written.{parts, field_parts, arm_parts, levels, field_levels, arm_levels, zero_values, zero_size}
use Rattle.circus_type.specs.Scale.{Scale}

-- numbers that stop one above their limits
abbrev pub measure : ℕ → ℕ → ℕ → Measure
measure p l z = record { parts = min p (1 + most_parts); levels = min l (1 + most_levels); zeros = min z (1 + most_zero_bytes) }

-- the size of a shape
abbrev pub measure_of : ShapeTree → Measure
measure_of s = measure (parts s) (levels s) (zero_size s)

-- the size of fields together
abbrev pub fields_measure : FieldTrees → Measure
fields_measure fs = measure (field_parts fs) (field_levels fs) (external_sizes (zero_values fs))

-- the bytes of the zero value of the first arm
abbrev pub first_zero : shape.ArmTrees → ℕ
first_zero shape.no_arms = 0
first_zero (shape.more_arms _ _ s _) = zero_size s

-- the size of arms
abbrev pub arms_measure : shape.ArmTrees → Measure
arms_measure arms = measure (arm_parts arms) (arm_levels arms) (first_zero arms)

-- so many items of this size
abbrev pub items_measure : ℕ → Measure → Measure
items_measure n m = measure (1 + m.parts) (1 + m.levels) (n * m.zeros)

-- a sequence of items of this size
abbrev pub sequence_measure : Measure → Measure
sequence_measure m = measure (1 + m.parts) (1 + m.levels) 2

-- so many fields of one size before others
abbrev pub group_measure : ℕ → Measure → Measure → Measure
group_measure n m others =
    measure (n * (1 + m.parts) + others.parts) (cond (n == 0) others.levels (max m.levels others.levels)) (n * m.zeros + others.zeros)

-- an arm before others
abbrev pub arm_measure : Measure → Measure → Measure
arm_measure m others = measure (1 + m.parts + others.parts) (max m.levels others.levels) m.zeros

-- a record of fields, and a choice of arms, by the size of what is in them
abbrev pub record_measure : Measure → Measure
record_measure m = measure (1 + m.parts) (1 + m.levels) m.zeros

abbrev pub choice_measure : Measure → Measure
choice_measure m = measure (1 + m.parts) (1 + m.levels) (2 + m.zeros)

abbrev mutual
  -- the size of a type, where this is the size of what each name stands for
  pub measure_of_type : (TypeName → Measure) → TypeTree → Measure
  measure_of_type known (boolean _) = measure 1 0 2
  measure_of_type known (cardinal _) = measure 1 0 2
  measure_of_type known (long_cardinal _) = measure 1 0 4
  measure_of_type known (integer _) = measure 1 0 2
  measure_of_type known (long_integer _) = measure 1 0 4
  measure_of_type known (text _) = measure 1 0 2
  measure_of_type known (enumeration _ labels) = measure (1 + length labels) 0 2
  measure_of_type known (array _ n t) = items_measure n.value (measure_of_type known t)
  measure_of_type known (sequence _ _ t) = sequence_measure (measure_of_type known t)
  measure_of_type known («record» _ groups) = record_measure (measured_groups known groups)
  measure_of_type known (choice _ arms) = choice_measure (measured_arms known arms)
  measure_of_type known (called _ t) = known t

  pub measured_groups : (TypeName → Measure) → GroupTrees → Measure
  measured_groups known no_groups = measure 0 0 0
  measured_groups known (more_groups names t groups) =
      group_measure (length names) (measure_of_type known t) (measured_groups known groups)

  pub measured_arms : (TypeName → Measure) → ArmTrees → Measure
  measured_arms known no_arms = measure 0 0 0
  measured_arms known (more_arms _ _ t arms) = arm_measure (measure_of_type known t) (measured_arms known arms)

-- the parts so far with those of so many more types of one size
abbrev pub more_parts : ℕ → ℕ → Measure → ℕ
more_parts so_far n size = min (so_far + n * size.parts) (1 + most_parts)

-- a type of this size, with which there are so many parts, passes a limit
abbrev pub is_over : ℕ → Measure → Bool
is_over so_far size = nat_lt most_zero_bytes size.zeros || nat_lt most_levels size.levels || nat_lt most_parts so_far

-- sizes that stop above their limits
abbrev pub cut_off : Scale Measure
cut_off = record {
  of_type = measure_of_type;
  of_none = measure_of shape.boolean;
  parts_with = more_parts;
  is_over = is_over;
  are_over = λ sizes groups. nat_lt most_zero_bytes (measured_groups sizes groups).zeros;
}
