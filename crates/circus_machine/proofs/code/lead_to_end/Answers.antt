use Rattle.std.proofs.Common.{length, refl, ◌∙◌}
use Rattle.circus_machine.proofs.CompilingSteps.{leads_more, set_long}
use Rattle.circus_machine.proofs.code.lead_to_end.Goals as goal

pub loop-exit-preserved : goal.loop-exit-preserved
loop-exit-preserved c =
    let long = c.loop-exit.invariant.long in
    record {
      code = leads_more (length c.args.code.now) c.args.exits.now c.loop-exit.exit-index _ _ c.offset-offset.result c.len.result c.loop-exit.code c.set.new.self _ c.loop-exit-test.true refl
          c.offset-offset.ensures (c.len.ensures ∙ long) c.set.ensures c.loop-exit.invariant.code;
      long = set_long c.loop-exit.code c.set.new.self _ (length c.args.code.now) _ c.set.ensures long;
    }
