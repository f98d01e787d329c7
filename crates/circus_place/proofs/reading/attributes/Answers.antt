use Rattle.circus_syntax.proofs.Loops.{comma_step, comma_shorter}
use Rattle.circus_place.proofs.Parts.{lawful_attribute}
use Rattle.circus_place.proofs.reading.attributes.Goals as goal

pub loop-reader-smaller : goal.loop-reader-smaller
loop-reader-smaller c =
    comma_shorter (lawful_attribute 0).narrow c.loop-reader.reader c.sign.new.self c.attribute-in-loop-reader.new.reader c.in_ok-attribute-2.field-0 c.sees_sign.result
    c.sees_sign.ensures c.loop-reader-test.true c.sign.ensures c.in_ok-attribute-2.ensures

pub loop-reader-preserved : goal.loop-reader-preserved
loop-reader-preserved c =
    comma_step (lawful_attribute 0).narrow _ c.loop-reader.attributes c.push-in-loop-reader.new.self c.loop-reader.reader c.sign.new.self c.attribute-in-loop-reader.new.reader c.in_ok-attribute-2.field-0 c.sees_sign.result
    c.loop-reader.invariant c.sees_sign.ensures c.loop-reader-test.true c.sign.ensures c.in_ok-attribute-2.ensures c.in_ok-push-2.ensures.ok
