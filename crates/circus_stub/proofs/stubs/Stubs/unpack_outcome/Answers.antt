use Rattle.std.proofs.Common.{rules}
use Rattle.circus_value.specs.Parts.{AreOctets}
use Rattle.circus_stub.proofs.Roundtrips.{outcome_answer_is_packed}
use Rattle.circus_stub.proofs.stubs.Stubs.unpack_outcome.Goals as goal

pub returns-clause-spelled : goal.returns-clause-spelled
returns-clause-spelled c = λ i is.
    let are : AreOctets c.args.bytes.now = search rules in
    outcome_answer_is_packed i c.args.self.now.limit c.args.procedure c.args.bytes.now c.outcome_from.result are (c.outcome_from.ensures i is)
