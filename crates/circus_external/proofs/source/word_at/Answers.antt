use Rattle.std.proofs.Common.{sym, arith}
use Rattle.circus_external.proofs.OctetLemmas.{first_word_none, first_word_some, word_stands}
use Rattle.circus_external.proofs.source.word_at.Goals as goal

pub returns-then-at-len-clause-value : goal.returns-then-at-len-clause-value
returns-then-at-len-clause-value g c = sym (first_word_none (g.S.ByteSource.octets c.args.source.now) c.args.at (omega arith))

pub returns-clause-stands : goal.returns-clause-stands
returns-clause-stands g c =
    word_stands (g.S.ByteSource.octets c.args.source.now) c.args.at c.octet.result c.octet-2.result c.from_be_bytes.result
    c.octet.ensures c.octet-2.ensures c.octet.type_inv c.octet-2.type_inv c.from_be_bytes.ensures

pub returns-clause-value : goal.returns-clause-value
returns-clause-value g c =
    sym (first_word_some (g.S.ByteSource.octets c.args.source.now) c.args.at c.from_be_bytes.result c.from_be_bytes.type_inv (returns-clause-stands g c))
