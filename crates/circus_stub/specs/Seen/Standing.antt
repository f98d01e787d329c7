-- What stands at a place of a list of operations.
use Rattle.std.specs.Prelude.{◌≡◌, ℕ, ◌+◌, ◌==◌, cond, Option, Some, None, List, ◌++◌, length, drop, ◌<◌}
use Rattle.std.specs.List.{list_any}
use Rattle.circus_value.specs.ValueTree.{ValueTree, enumeration}
use Rattle.circus_value.specs.ShapeTree.{ShapeTree, FieldTrees, ArmTrees, no_arms, more_arms}
use Rattle.circus_stub.specs.declared.operation.Operation.{Operation}
use Rattle.circus_stub.specs.Flat.{operations_in_fields, operations_in_arms, flat, flat_fields, flat_arms}

-- the operations of a shape
pub record Stands (operations : List Operation) (place : ℕ) (shape : ShapeTree) : Type 0 where
  pub within : place < length operations
  pub rest : List Operation
  pub stands : drop place operations ≡ flat shape place ++ rest

-- the operations of fields, up to an end
pub record FieldsStand (operations : List Operation) (place end : ℕ) (fields : FieldTrees) : Type 0 where
  pub rest : List Operation
  pub stands : drop place operations ≡ flat_fields fields place ++ rest
  pub ends : end ≡ place + operations_in_fields fields

-- the operations of arms, up to an end
pub record ArmsStand (operations : List Operation) (place end : ℕ) (arms : ArmTrees) : Type 0 where
  pub rest : List Operation
  pub stands : drop place operations ≡ flat_arms arms place ++ rest
  pub ends : end ≡ place + operations_in_arms arms

-- the shape of the first arm with this number
abbrev pub first_arm : ArmTrees → ℕ → Option ShapeTree
first_arm no_arms n = None
first_arm (more_arms _ number shape arms) n = cond (n == number) (Some shape) (first_arm arms n)

-- the value of a number that is one of these
abbrev pub listed_value : List ℕ → ℕ → Option ValueTree
listed_value numbers n = cond (list_any (λ k. k == n) numbers) (Some (enumeration n)) None
