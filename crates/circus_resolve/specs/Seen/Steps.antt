-- One suffix of a place by itself.
use Rattle.std.specs.Prelude.{ℕ, ◌++◌, Option}
use Rattle.circus_value.specs.ShapeTree.{ShapeTree}
use Rattle.circus_expression.specs.ExpressionTree.{SuffixTree, field, subscript}
use Rattle.circus_checked.specs.ExpressionTree as c
use Rattle.circus_resolve.specs.Scope.{Scope}
use Rattle.circus_resolve.specs.Passing.{is_number}
use Rattle.circus_resolve.specs.Faults.{Faults, field_faults, field_shape, item_faults, element_for, expression_faults, wanted_faults, sort, place_of}
use Rattle.circus_resolve.specs.Meaning.{field_meant, meant}

abbrev pub step_faults : Scope → ℕ → Option ShapeTree → SuffixTree → Faults
step_faults scope first s (field name) = field_faults first s name
step_faults scope first s (subscript e) = item_faults first s ++ expression_faults scope e ++ wanted_faults is_number (sort scope e) (place_of e)

abbrev pub step_shape : Option ShapeTree → SuffixTree → Option ShapeTree
step_shape s (field name) = field_shape s name.name
step_shape s (subscript e) = element_for s

abbrev pub step_meant : Scope → Option ShapeTree → SuffixTree → c.SuffixTree
step_meant scope s (field name) = field_meant s name.name
step_meant scope s (subscript e) = c.subscript (meant scope e)
