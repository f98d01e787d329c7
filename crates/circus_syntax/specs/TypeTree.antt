-- What a type is to a contract: a plain tree, each of whose types begins with its place.
use Rattle.std.specs.Prelude.{ℕ, List, [], ◌∷◌, Option}
use Rattle.circus_syntax.specs.declared.named.Named.{Named}
use Rattle.circus_syntax.specs.declared.named.Numeral.{Numeral}
use Rattle.circus_syntax.specs.declared.named.TypeName.{TypeName}
use Rattle.circus_syntax.specs.declared.named.LabelText.{LabelText}

mutual
  pub data TypeTree : Type 0 where
    boolean : ℕ → TypeTree
    cardinal : ℕ → TypeTree
    long_cardinal : ℕ → TypeTree
    integer : ℕ → TypeTree
    long_integer : ℕ → TypeTree
    text : ℕ → TypeTree
    enumeration : ℕ → List LabelText → TypeTree
    array : ℕ → Numeral → TypeTree → TypeTree
    sequence : ℕ → Option Numeral → TypeTree → TypeTree
    «record» : ℕ → GroupTrees → TypeTree
    choice : ℕ → ArmTrees → TypeTree
    called : ℕ → TypeName → TypeTree

  -- lists of names and the type that they share, in order
  pub data GroupTrees : Type 0 where
    no_groups : GroupTrees
    more_groups : List Named → TypeTree → GroupTrees → GroupTrees

  -- names, numbers and types, in order
  pub data ArmTrees : Type 0 where
    no_arms : ArmTrees
    more_arms : Named → Numeral → TypeTree → ArmTrees → ArmTrees

-- a group by its parts
pub record GroupTree : Type 0 where
  pub names : List Named
  pub shape : TypeTree

-- an arm by its parts
pub record ArmTree : Type 0 where
  pub name : Named
  pub number : Numeral
  pub shape : TypeTree

-- the groups of a list
abbrev pub group_trees : List GroupTree → GroupTrees
group_trees [] = no_groups
group_trees (g ∷ gs) = more_groups g.names g.shape (group_trees gs)

-- the arms of a list
abbrev pub arm_trees : List ArmTree → ArmTrees
arm_trees [] = no_arms
arm_trees (a ∷ others) = more_arms a.name a.number a.shape (arm_trees others)

-- the first byte of a type
abbrev pub type_place : TypeTree → ℕ
type_place (boolean at) = at
type_place (cardinal at) = at
type_place (long_cardinal at) = at
type_place (integer at) = at
type_place (long_integer at) = at
type_place (text at) = at
type_place (enumeration at _) = at
type_place (array at _ _) = at
type_place (sequence at _ _) = at
type_place («record» at _) = at
type_place (choice at _) = at
type_place (called at _) = at
