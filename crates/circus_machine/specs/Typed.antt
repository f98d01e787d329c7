-- Variables that hold values of their shapes, with a state within the limit.
use Rattle.std.specs.Prelude.{ℕ, ◌≤◌, List, take}
use Rattle.circus_value.specs.ShapeTree.{ShapeTree}
use Rattle.circus_value.specs.ValueTree.{ValueTree}
use Rattle.circus_value.specs.ExternalSize.{size_of_values}
use Rattle.circus_evaluate.specs.Typed.{Hold}

-- variables of these shapes, of which the first so many are a state within the limit
pub record AreWell (limit states : ℕ) (shapes : List ShapeTree) (variables : List ValueTree) : Type 0 where
  pub hold : Hold shapes variables
  pub within : size_of_values (take states variables) ≤ limit
