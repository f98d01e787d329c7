use Rattle.std.proofs.Common.{◌≡◌}
use Rattle.circus_fanout.specs.Asking.{once_marked}
use Rattle.circus_fanout.proofs.Writing.{written}
use Rattle.circus_fanout.proofs.asked.mark.Given as goal

abbrev pub invariant-loop-one : goal.invariant-loop-one
invariant-loop-one l = l.asked ≡ written (once_marked l.node l.sending) l.one-index l.initial.asked
