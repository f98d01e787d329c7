use Rattle.std.proofs.Common.{sym, arith}
use Rattle.std.proofs.lemmas.Option.{slice_get_past}
use Rattle.circus_world.proofs.sent.SentList.get.Goals as goal

pub returns-else-number-len : goal.returns-else-number-len
returns-else-number-len c = sym (slice_get_past c.args.self.now c.args.number (omega (arith, c.if-number-len.false, c.len.ensures)))
