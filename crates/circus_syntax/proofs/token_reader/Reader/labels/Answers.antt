use Rattle.circus_syntax.proofs.Types.{sound_label}
use Rattle.circus_syntax.proofs.Loops.{comma_step, comma_shorter}
use Rattle.circus_syntax.proofs.token_reader.Reader.labels.Goals as goal

pub loop-self-smaller : goal.loop-self-smaller
loop-self-smaller c =
    comma_shorter sound_label c.loop-self.self c.sign.new.self c.label-in-loop-self.new.self c.in_ok-label-2.field-0 c.sees_sign.result
    c.sees_sign.ensures c.loop-self-test.true c.sign.ensures c.in_ok-label-2.ensures

pub loop-self-preserved : goal.loop-self-preserved
loop-self-preserved c =
    comma_step sound_label _ c.loop-self.labels c.push-in-loop-self.new.self c.loop-self.self c.sign.new.self c.label-in-loop-self.new.self c.in_ok-label-2.field-0 c.sees_sign.result
    c.loop-self.invariant c.sees_sign.ensures c.loop-self-test.true c.sign.ensures c.in_ok-label-2.ensures c.in_ok-push-2.ensures.ok
