-- What names mean where an expression stands.
use Rattle.std.specs.Prelude.{ℕ, List, Option, option_map}
use Rattle.circus_value.specs.ShapeTree.{ShapeTree}
use Rattle.circus_syntax.specs.declared.named.Named.{Named}
use Rattle.circus_syntax.specs.declared.named.TypeName.{TypeName}

-- a variable: its place among the state variables, the parameters and the locals, in this order, and its shape
pub record Variable : Type 0 where
  pub place : ℕ
  pub shape : ShapeTree

-- what the name of a type stands for
pub data Standing : Type 0 where
  a_type : ShapeTree → Standing
  -- the module before it isn't imported
  no_module : Standing
  -- there is no type of this name
  no_type : Standing
  -- what the module before it implements isn't known, so nothing is said of the name
  unsaid : Standing

pub record Scope : Type 0 where
  pub variable : List ℕ → Option Variable
  -- a type of the module's own interface, or of that of an imported module
  pub type_named : Option (List ℕ) → List ℕ → Standing

abbrev pub standing_of : Scope → TypeName → Standing
standing_of scope t = scope.type_named (option_map (λ (m : Named). m.name) t.«module») t.name.name
