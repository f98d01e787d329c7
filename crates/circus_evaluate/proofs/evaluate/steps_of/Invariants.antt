use Rattle.std.proofs.Common.{◌≡◌, ◌++◌, Ok, map, drop}
use Rattle.circus_checked.specs.ExpressionOf.{suffix_of}
use Rattle.circus_checked.specs.ExpressionTree.{suffix_trees}
use Rattle.circus_evaluate.specs.Got.{and_then}
use Rattle.circus_evaluate.specs.Evaluating.{steps_of}
use Rattle.circus_evaluate.specs.Steps.{step_as}
use Rattle.circus_evaluate.proofs.evaluate.steps_of.Given as goal

-- the suffixes that are left give the rest of the steps
abbrev pub invariant-loop-suffix : goal.invariant-loop-suffix
invariant-loop-suffix l =
    and_then (steps_of l.limit l.variables (suffix_trees (map suffix_of (drop l.suffix-index l.suffix-items)))) (λ steps. Ok (map step_as l.steps ++ steps))
    ≡ steps_of l.limit l.variables (suffix_trees l.suffixes)
