-- What a shape is to a contract: a plain tree.
use Rattle.std.specs.Prelude.{ℕ, List, [], ◌∷◌}
use Rattle.circus_value.specs.declared.shape.Label.{Label}

mutual
  pub data ShapeTree : Type 0 where
    boolean : ShapeTree
    cardinal : ShapeTree
    long_cardinal : ShapeTree
    integer : ShapeTree
    long_integer : ShapeTree
    text : ShapeTree
    enumeration : List Label → ShapeTree
    array : ℕ → ShapeTree → ShapeTree
    sequence : ℕ → ShapeTree → ShapeTree
    «record» : FieldTrees → ShapeTree
    choice : ArmTrees → ShapeTree

  -- names and shapes, in order
  pub data FieldTrees : Type 0 where
    no_fields : FieldTrees
    more_fields : List ℕ → ShapeTree → FieldTrees → FieldTrees

  -- names, numbers and shapes, in order
  pub data ArmTrees : Type 0 where
    no_arms : ArmTrees
    more_arms : List ℕ → ℕ → ShapeTree → ArmTrees → ArmTrees

-- a field by its parts
pub record FieldTree : Type 0 where
  pub name : List ℕ
  pub shape : ShapeTree

-- an arm by its parts
pub record ArmTree : Type 0 where
  pub name : List ℕ
  pub number : ℕ
  pub shape : ShapeTree

-- the fields of a list
abbrev pub field_trees : List FieldTree → FieldTrees
field_trees [] = no_fields
field_trees (f ∷ fs) = more_fields f.name f.shape (field_trees fs)

-- the arms of a list
abbrev pub arm_trees : List ArmTree → ArmTrees
arm_trees [] = no_arms
arm_trees (a ∷ others) = more_arms a.name a.number a.shape (arm_trees others)
