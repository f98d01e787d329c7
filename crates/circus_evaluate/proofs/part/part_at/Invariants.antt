use Rattle.std.proofs.Common.{◌≡◌, map, drop}
use Rattle.circus_value.specs.ValueOf.{tree_of}
use Rattle.circus_evaluate.specs.Parts as parts
use Rattle.circus_evaluate.specs.Steps.{step_as}
use Rattle.circus_evaluate.proofs.part.part_at.Given as goal

-- the steps that are left lead on from this part
abbrev pub invariant-loop-step : goal.invariant-loop-step
invariant-loop-step l = parts.part_at (map step_as (drop l.step-index l.steps)) (tree_of l.part) ≡ parts.part_at (map step_as l.steps) (tree_of l.value)
