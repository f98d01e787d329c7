use Rattle.circus_syntax.proofs.Tokens.{sound_name}
use Rattle.circus_syntax.proofs.Loops.{comma_step, comma_shorter}
use Rattle.circus_syntax.proofs.token_reader.Reader.names.Goals as goal

pub loop-self-smaller : goal.loop-self-smaller
loop-self-smaller c =
    comma_shorter sound_name c.loop-self.self c.sign.new.self c.name-in-loop-self.new.self c.in_ok-name-2.field-0 c.sees_sign.result
    c.sees_sign.ensures c.loop-self-test.true c.sign.ensures c.in_ok-name-2.ensures

pub loop-self-preserved : goal.loop-self-preserved
loop-self-preserved c =
    comma_step sound_name _ c.loop-self.names c.push-in-loop-self.new.self c.loop-self.self c.sign.new.self c.name-in-loop-self.new.self c.in_ok-name-2.field-0 c.sees_sign.result
    c.loop-self.invariant c.sees_sign.ensures c.loop-self-test.true c.sign.ensures c.in_ok-name-2.ensures c.in_ok-push-2.ensures.ok
