use Rattle.circus_machine.proofs.Beginning.{sizes_more}
use Rattle.circus_machine.proofs.store.sizes_of.Goals as goal

pub loop-value-preserved : goal.loop-value-preserved
loop-value-preserved c =
    sizes_more c.args.values.now c.as_slice-value-items.result.now c.loop-value.value-index c.value-item.result c.loop-value.sizes.items c.push.new.self.items c.external_size.result _ c.as_slice-value-items.ensures c.requires c.loop-value-test.true c.value-item.is
    c.external_size.ensures c.in_ok-push.ensures.items c.loop-value.invariant
