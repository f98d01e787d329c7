-- Parts of shapes by their names.
use Rattle.std.specs.Prelude.{ℕ, suc, Bool, true, false, cond, bytes_eq, List, [], ◌∷◌, Option, Some, None}
use Rattle.circus_value.specs.declared.shape.Label.{Label}
use Rattle.circus_value.specs.ShapeTree.{ShapeTree, FieldTrees, ArmTrees, array, sequence, «record», no_fields, more_fields, no_arms, more_arms}

-- the number of the first label of this name
abbrev pub label_named : List Label → List ℕ → Option ℕ
label_named [] name = None
label_named (l ∷ ls) name = cond (bytes_eq l.name name) (Some l.number) (label_named ls name)

-- a field: its place, counted from 0, and its shape
pub record FieldFound : Type 0 where
  pub place : ℕ
  pub shape : ShapeTree

-- the first field of this name, where the fields before are so many
abbrev pub field_from : ℕ → FieldTrees → List ℕ → Option FieldFound
field_from before no_fields name = None
field_from before (more_fields n s fs) name = cond (bytes_eq n name) (Some (record { place = before; shape = s })) (field_from (suc before) fs name)

abbrev pub field_named : FieldTrees → List ℕ → Option FieldFound
field_named fs name = field_from 0 fs name

-- an arm: its number and its shape
pub record ArmFound : Type 0 where
  pub number : ℕ
  pub shape : ShapeTree

-- the first arm of this name
abbrev pub arm_named : ArmTrees → List ℕ → Option ArmFound
arm_named no_arms name = None
arm_named (more_arms n number s arms) name = cond (bytes_eq n name) (Some (record { number = number; shape = s })) (arm_named arms name)

-- RECORD without fields
abbrev pub is_bare : ShapeTree → Bool
is_bare («record» no_fields) = true
is_bare _ = false

-- the shape of the items of an array or a sequence
abbrev pub element_of : ShapeTree → Option ShapeTree
element_of (array _ s) = Some s
element_of (sequence _ s) = Some s
element_of _ = None
