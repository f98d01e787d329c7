use Rattle.circus_syntax.proofs.Loops.{comma_step, comma_shorter}
use Rattle.circus_place.proofs.Parts.{lawful_own_name}
use Rattle.circus_place.proofs.value_reading.names.Goals as goal

pub loop-reader-smaller : goal.loop-reader-smaller
loop-reader-smaller c =
    comma_shorter (lawful_own_name 0).narrow c.loop-reader.reader c.sign.new.self c.own_name-in-loop-reader.new.reader c.in_ok-own_name-2.field-0 c.sees_sign.result
    c.sees_sign.ensures c.loop-reader-test.true c.sign.ensures c.in_ok-own_name-2.ensures

pub loop-reader-preserved : goal.loop-reader-preserved
loop-reader-preserved c =
    comma_step (lawful_own_name 0).narrow _ c.loop-reader.names c.push-in-loop-reader.new.self c.loop-reader.reader c.sign.new.self c.own_name-in-loop-reader.new.reader c.in_ok-own_name-2.field-0 c.sees_sign.result
    c.loop-reader.invariant c.sees_sign.ensures c.loop-reader-test.true c.sign.ensures c.in_ok-own_name-2.ensures c.in_ok-push-2.ensures.ok
