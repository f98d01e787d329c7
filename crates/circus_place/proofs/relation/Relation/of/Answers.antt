use Rattle.circus_place.proofs.Tables.{mapped_more}
use Rattle.circus_place.proofs.relation.Relation.of.Goals as goal

pub loop-value-preserved : goal.loop-value-preserved
loop-value-preserved c =
    mapped_more _ _ c.args.left.now c.loop-value.value-index c.value-item.result c.loop-value.rows c.push.new.self c.in_ok-row.field-0 c.loop-value-test.true c.value-item.is
    c.loop-value.invariant c.in_ok-row.ensures c.in_ok-push.ensures.ok
