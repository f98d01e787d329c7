-- The flat operations of shapes.
use Rattle.std.specs.Prelude.{ℕ, ◌+◌, Option, Some, None, List, [], ◌∷◌, ◌++◌, map}
use Rattle.circus_value.specs.ShapeTree.{ShapeTree, FieldTrees, ArmTrees, boolean, cardinal, long_cardinal, integer, long_integer, text, enumeration, array, sequence, «record», choice, no_fields, more_fields, no_arms, more_arms}
use Rattle.circus_value.specs.declared.shape.Label.{Label}
use Rattle.circus_stub.specs.declared.operation.Operation.{Operation}
use Rattle.circus_stub.specs.declared.operation.Operation.TheVariants.{Boolean, Cardinal, LongCardinal, Integer, LongInteger, Text, Enumeration, Array, Sequence, Record, Choice, Arm}

abbrev mutual
  -- how many operations a shape has
  pub operations_in : ShapeTree → ℕ
  operations_in boolean = 1
  operations_in cardinal = 1
  operations_in long_cardinal = 1
  operations_in integer = 1
  operations_in long_integer = 1
  operations_in text = 1
  operations_in (enumeration _) = 1
  operations_in (array _ element) = 1 + operations_in element
  operations_in (sequence _ element) = 1 + operations_in element
  operations_in («record» fields) = 1 + operations_in_fields fields
  operations_in (choice arms) = 1 + operations_in_arms arms

  pub operations_in_fields : FieldTrees → ℕ
  operations_in_fields no_fields = 0
  operations_in_fields (more_fields _ shape fields) = operations_in shape + operations_in_fields fields

  pub operations_in_arms : ArmTrees → ℕ
  operations_in_arms no_arms = 0
  operations_in_arms (more_arms _ _ shape arms) = 1 + operations_in shape + operations_in_arms arms

-- how many fields there are
abbrev pub field_count : FieldTrees → ℕ
field_count no_fields = 0
field_count (more_fields _ _ fields) = 1 + field_count fields

-- how many arms there are
abbrev pub arm_count : ArmTrees → ℕ
arm_count no_arms = 0
arm_count (more_arms _ _ _ arms) = 1 + arm_count arms

-- the numbers of labels, in order
abbrev pub label_numbers : List Label → List ℕ
label_numbers labels = map (λ label. label.number) labels

abbrev mutual
  -- the operations of a shape, the first of which stands at a place: what it is, and then those of its parts
  pub flat : ShapeTree → ℕ → List Operation
  flat boolean at = Boolean ∷ []
  flat cardinal at = Cardinal ∷ []
  flat long_cardinal at = LongCardinal ∷ []
  flat integer at = Integer ∷ []
  flat long_integer at = LongInteger ∷ []
  flat text at = Text ∷ []
  flat (enumeration labels) at = Enumeration (label_numbers labels) ∷ []
  flat (array len element) at = Array len (at + 1 + operations_in element) ∷ flat element (at + 1)
  flat (sequence bound element) at = Sequence bound (at + 1 + operations_in element) ∷ flat element (at + 1)
  flat («record» fields) at = Record (field_count fields) (at + 1 + operations_in_fields fields) ∷ flat_fields fields (at + 1)
  flat (choice arms) at = Choice (arm_count arms) (at + 1 + operations_in_arms arms) ∷ flat_arms arms (at + 1)

  -- those of fields, one after another
  pub flat_fields : FieldTrees → ℕ → List Operation
  flat_fields no_fields at = []
  flat_fields (more_fields _ shape fields) at = flat shape at ++ flat_fields fields (at + operations_in shape)

  -- those of arms, each behind its number
  pub flat_arms : ArmTrees → ℕ → List Operation
  flat_arms no_arms at = []
  flat_arms (more_arms _ number shape arms) at =
      Arm number (at + 1 + operations_in shape) ∷ (flat shape (at + 1) ++ flat_arms arms (at + 1 + operations_in shape))

-- the place behind an operation's part, where it has one
abbrev pub part_end : Operation → Option ℕ
part_end (Array _ end) = Some end
part_end (Sequence _ end) = Some end
part_end (Record _ end) = Some end
part_end (Choice _ end) = Some end
part_end (Arm _ end) = Some end
part_end Boolean = None
part_end Cardinal = None
part_end LongCardinal = None
part_end Integer = None
part_end LongInteger = None
part_end Text = None
part_end (Enumeration _) = None
