use Rattle.std.proofs.Common.{arith}
use Rattle.std.proofs.lemmas.Grind.{common_steps}
use Rattle.circus_evaluate.proofs.Items.{count_of_trees}
use Rattle.circus_evaluate.proofs.got.Got.length.Goals as goal

pub returns-in-Some-Sequence : goal.returns-in-Some-Sequence
returns-in-Some-Sequence c = grind (arith, common_steps, c.value.ensures, c.in-Some-Sequence.is, c.in-Some-Sequence.field-0-is, c.in-Some-Sequence.items-is, c.in-Some-Sequence.ensures, c.literal-in-Some-Sequence.ensures, c.len-in-Some-Sequence.ensures, count_of_trees c.in-Some-Sequence.items)
