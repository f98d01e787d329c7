use Rattle.std.proofs.Common.{sym, rules}
use Rattle.std.proofs.Output.{has_written_append, has_written_of_eq}
use Rattle.circus_value.proofs.ShownMore.{numbers_behind_more}
use Rattle.circus_value.proofs.thread_text.ClockTextDisplay.fmt.Goals as goal

pub loop-count-preserved : goal.loop-count-preserved
loop-count-preserved g c = λ plain.
    has_written_of_eq _ _ _ _ _ (sym (numbers_behind_more 44 _ _ 0 c.loop-count-test.true))
    (has_written_append _ _ _ _ _ _ (c.loop-count.invariant plain) (search rules))
