use Rattle.std.proofs.Common.{sym, arith}
use Rattle.circus_external.proofs.OctetLemmas.{first_long_none, first_long_some, long_stands}
use Rattle.circus_external.proofs.source.long_at.Goals as goal

pub returns-then-at-len-clause-value : goal.returns-then-at-len-clause-value
returns-then-at-len-clause-value g c = sym (first_long_none (g.S.ByteSource.octets c.args.source.now) c.args.at (omega arith))

pub returns-clause-stands : goal.returns-clause-stands
returns-clause-stands g c =
    long_stands (g.S.ByteSource.octets c.args.source.now) c.args.at c.octet.result c.octet-2.result c.octet-3.result c.octet-4.result c.from_be_bytes.result
    c.octet.ensures c.octet-2.ensures c.octet-3.ensures c.octet-4.ensures c.octet.type_inv c.octet-2.type_inv c.octet-3.type_inv c.octet-4.type_inv
    c.from_be_bytes.ensures

pub returns-clause-value : goal.returns-clause-value
returns-clause-value g c =
    sym (first_long_some (g.S.ByteSource.octets c.args.source.now) c.args.at c.from_be_bytes.result c.from_be_bytes.type_inv (returns-clause-stands g c))
