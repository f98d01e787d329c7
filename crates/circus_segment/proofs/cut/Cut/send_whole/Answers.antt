use Rattle.circus_segment.specs.Seen.Outgoing.{outgoing_of}
use Rattle.circus_segment.proofs.Cuts.{none_yet, sent_more}
use Rattle.circus_segment.proofs.cut.Cut.send_whole.Goals as goal

pub loop-before-init : goal.loop-before-init
loop-before-init c = none_yet _ _

pub loop-before-preserved : goal.loop-before-preserved
loop-before-preserved c = sent_more (outgoing_of c.args.self.now) _ _ _ _ _ c.loop-before.invariant c.in_ok-datagram.ensures c.in_ok-push.ensures.ok
