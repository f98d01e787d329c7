use Rattle.std.proofs.Common.{arith}
use Rattle.circus_troupe.proofs.Steps.{ended_stops, ended_goes}
use Rattle.circus_troupe.proofs.deployment_reading.text_end.Goals as goal

pub returns-then-tokens_left-gt0 : goal.returns-then-tokens_left-gt0
returns-then-tokens_left-gt0 c = ended_stops c.args.reader.now c.stop_here.new.self (omega (arith, c.tokens_left.ensures, c.if-tokens_left-gt0.true)) c.stop_here.ensures

pub returns-else-tokens_left-gt0 : goal.returns-else-tokens_left-gt0
returns-else-tokens_left-gt0 c = ended_goes c.args.reader.now (omega (arith, c.tokens_left.ensures, c.if-tokens_left-gt0.false))
