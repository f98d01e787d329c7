use Rattle.std.proofs.Common.{length, ap, arith}
use Rattle.circus_world.proofs.SentLemmas.{length-sent_from}
use Rattle.circus_world.proofs.sent.SentList.len.Goals as goal

pub returns : goal.returns
returns c =
    let a = c.self.inside in
    omega (arith, c.len.ensures, a.entries.ok.0, length-sent_from a.bytes.items 0 a.entries.items, ap length c.self.view_is)
