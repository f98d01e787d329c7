-- The code's steps into values.
use Rattle.circus_evaluate.specs.Parts.{Step, field, arm, item}
use Rattle.circus_evaluate.specs.declared.part.Step as declared
use Rattle.circus_evaluate.specs.declared.part.Step.TheVariants as V

abbrev pub step_as : declared.Step → Step
step_as (V.Field n) = field n
step_as (V.Arm n) = arm n
step_as (V.Item z) = item z
