use Rattle.std.proofs.Common.{◌∙◌}
use Rattle.circus_fanout.proofs.Looking.{asked_more}
use Rattle.circus_fanout.proofs.known.ask_all.Goals as goal

pub loop-troupe-preserved : goal.loop-troupe-preserved
loop-troupe-preserved c = record {
  asked = asked_more c.loop-troupe.wants c.ask.new.wants _ c.args.troupes.now c.loop-troupe.troupe-index 0 c.loop-troupe-test.true c.ask.ensures.asked c.loop-troupe.invariant.asked;
  same = c.ask.ensures.same ∙ c.loop-troupe.invariant.same;
}
