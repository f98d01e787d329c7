use Rattle.circus_fanout.specs.Asking.{once_marked}
use Rattle.circus_fanout.proofs.Writing.{written_more}
use Rattle.circus_fanout.proofs.asked.mark.Goals as goal

pub loop-one-preserved : goal.loop-one-preserved
loop-one-preserved c =
    written_more (once_marked c.args.node c.args.sending) c.args.asked.now c.loop-one.asked c.loop-one.one-index c.once_marked.result _ c.loop-one.invariant c.loop-one-test.true c.once_marked.ensures
