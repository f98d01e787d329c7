use Rattle.circus_troupe.proofs.Steps.{troupes_begin, troupes_step, troupes_shorter, troupes_end}
use Rattle.circus_troupe.proofs.deployment_reading.troupes.Goals as goal

pub loop-troupes-init : goal.loop-troupes-init
loop-troupes-init c = troupes_begin c.args.reader.now c.new-troupes.result c.new-troupes.ensures

pub loop-troupes-smaller : goal.loop-troupes-smaller
loop-troupes-smaller c = troupes_shorter c.loop-troupes.reader c.troupe.new.reader c.in_ok-troupe.field-0 c.sees_word.result c.sees_word.ensures c.loop-troupes-test.true c.in_ok-troupe.ensures

pub loop-troupes-preserved : goal.loop-troupes-preserved
loop-troupes-preserved c =
    troupes_step _ c.loop-troupes.troupes c.push.new.self c.loop-troupes.reader c.troupe.new.reader c.in_ok-troupe.field-0 c.sees_word.result
    c.loop-troupes.invariant c.sees_word.ensures c.loop-troupes-test.true c.in_ok-troupe.ensures c.in_ok-push.ensures.ok

pub returns : goal.returns
returns c = troupes_end _ c.loop-troupes.troupes c.loop-troupes.reader c.sees_word.result c.loop-troupes.invariant c.sees_word.ensures c.loop-troupes-test.false
