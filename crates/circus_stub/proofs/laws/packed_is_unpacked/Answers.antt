use Rattle.circus_stub.proofs.Roundtrips.{packed_is_unpacked, returned_is_unpacked, raised_is_unpacked}
use Rattle.circus_stub.proofs.laws.packed_is_unpacked.Goals as goal

pub returns-clause-arguments : goal.returns-clause-arguments
returns-clause-arguments c = packed_is_unpacked

pub returns-clause-returned : goal.returns-clause-returned
returns-clause-returned c = returned_is_unpacked

pub returns-clause-raised : goal.returns-clause-raised
returns-clause-raised c = raised_is_unpacked
