use Rattle.std.proofs.Common.{rules}
use Rattle.circus_value.specs.Parts.{AreOctets}
use Rattle.circus_stub.proofs.Roundtrips.{answer_is_packed}
use Rattle.circus_stub.proofs.stubs.Stubs.unpack.Goals as goal

pub returns-clause-spelled : goal.returns-clause-spelled
returns-clause-spelled c = λ i is.
    let are : AreOctets c.args.bytes.now = search rules in
    answer_is_packed i c.args.self.now.limit c.args.procedure c.args.bytes.now c.arguments_from.result are (c.arguments_from.ensures i is)
