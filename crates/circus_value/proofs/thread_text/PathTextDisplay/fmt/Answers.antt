use Rattle.std.proofs.Common.{sym, rules}
use Rattle.std.proofs.Output.{has_written_append, has_written_of_eq}
use Rattle.circus_value.proofs.ShownMore.{numbers_behind_more}
use Rattle.circus_value.proofs.thread_text.PathTextDisplay.fmt.Goals as goal

pub loop-number-preserved : goal.loop-number-preserved
loop-number-preserved g c = λ plain.
    has_written_of_eq _ _ _ _ _ (sym (numbers_behind_more 46 _ _ 0 c.loop-number-test.true))
    (has_written_append _ _ _ _ _ _ (c.loop-number.invariant plain) (search rules))
