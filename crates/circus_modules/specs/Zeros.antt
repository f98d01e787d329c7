-- What variables are at first.
use Rattle.std.specs.Prelude.{List, map}
use Rattle.circus_value.specs.ShapeTree.{FieldTree}
use Rattle.circus_value.specs.ValueTree.{ValueTree}
use Rattle.circus_type.specs.Written.{zero_value}

-- the zero value of each
abbrev pub zeros : List FieldTree → List ValueTree
zeros fields = map (λ f. zero_value f.shape) fields
