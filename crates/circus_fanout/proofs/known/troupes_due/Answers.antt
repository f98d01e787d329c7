use Rattle.std.proofs.Common.{arith}
use Rattle.circus_fanout.proofs.Looking.{due_more, due_all}
use Rattle.circus_fanout.proofs.known.troupes_due.Goals as goal

pub loop-place-preserved : goal.loop-place-preserved
loop-place-preserved c =
    due_more c.args.views.now c.args.wants.now c.loop-place.place c.index-views-place.result _ c.loop-place.troupes c.add_due.new.troupes _ c.loop-place-test.true (omega (arith, c.loop-place-test.true, c.requires.both))
    c.index-views-place.is c.in_ok-add_due.ensures c.loop-place.invariant

pub returns : goal.returns
returns c = due_all _ _ _ _ _ c.loop-place-test.false c.loop-place.invariant
