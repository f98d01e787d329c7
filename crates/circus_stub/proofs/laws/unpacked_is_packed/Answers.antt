use Rattle.circus_stub.proofs.Roundtrips.{unpacked_is_packed, unpacked_outcome_is_packed}
use Rattle.circus_stub.proofs.laws.unpacked_is_packed.Goals as goal

pub returns-clause-arguments : goal.returns-clause-arguments
returns-clause-arguments c = unpacked_is_packed

pub returns-clause-outcome : goal.returns-clause-outcome
returns-clause-outcome c = unpacked_outcome_is_packed
