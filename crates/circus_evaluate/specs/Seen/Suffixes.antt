-- The steps of suffixes, one by one.
use Rattle.std.specs.Prelude.{ℕ, List, Ok}
use Rattle.circus_value.specs.ValueTree.{ValueTree}
use Rattle.circus_checked.specs.ExpressionTree as e
use Rattle.circus_evaluate.specs.Got.{Raising, and_then, number_of}
use Rattle.circus_evaluate.specs.Parts.{Step, field, arm, item}
use Rattle.circus_evaluate.specs.Evaluating.{evaluate}

-- the step that a suffix is
abbrev pub step_of : ℕ → List ValueTree → e.SuffixTree → Raising Step
step_of limit variables (e.field n) = Ok (field n)
step_of limit variables (e.arm_of n) = Ok (arm n)
step_of limit variables (e.subscript a) = and_then (and_then (evaluate limit variables a) number_of) (λ z. Ok (item z))
