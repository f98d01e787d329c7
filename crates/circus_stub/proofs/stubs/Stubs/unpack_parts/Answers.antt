use Rattle.std.proofs.Common.{drop}
use Rattle.circus_external.proofs.Promises.{octets_rest}
use Rattle.circus_stub.proofs.Roundtrips.{answer_is_packed}
use Rattle.circus_stub.proofs.stubs.Stubs.unpack_parts.Goals as goal

pub returns-clause-spelled : goal.returns-clause-spelled
returns-clause-spelled c = λ i is.
    answer_is_packed i c.args.self.now.limit c.args.procedure (drop c.args.at c.args.parts.now) c.arguments_from.result (octets_rest c.args.parts.now c.args.at c.len.ensures.octets) (c.arguments_from.ensures i is)
