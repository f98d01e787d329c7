-- What a body may name besides variables and types: the modules that its module imports, and the errors that its own procedure
-- reports.
use Rattle.std.specs.Prelude.{ℕ, List, Option}
use Rattle.circus_value.specs.ShapeTree.{FieldTrees}
use Rattle.circus_resolve.specs.Scope.{Scope}

-- an error that a procedure reports
pub record Reported : Type 0 where
  pub number : ℕ
  pub values : FieldTrees

-- a procedure as those know it who call it
pub record Offered : Type 0 where
  pub number : ℕ
  pub arguments : FieldTrees
  pub results : FieldTrees
  pub reported : List ℕ → Option Reported

-- what the name of a module stands for where it is called
pub data Called : Type 0 where
  not_imported : Called
  -- what it implements isn't known, so nothing is said of its procedures
  unsaid : Called
  -- its number, and its procedures by their names
  a_module : ℕ → (List ℕ → Option Offered) → Called

pub record Context : Type 0 where
  pub scope : Scope
  pub called : List ℕ → Called
  -- what the procedure itself gives and reports
  pub own : Offered
