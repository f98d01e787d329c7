use Rattle.std.proofs.Common.{sym}
use Rattle.circus_external.proofs.PieceLemmas.{long_given}
use Rattle.circus_external.proofs.piece.read_long.Goals as goal

pub returns-in-Some : goal.returns-in-Some
returns-in-Some g c =
    long_given (g.S.ByteSource.octets c.args.source.now) c.args.at c.in-Some.number (sym c.in-Some.ensures.value)
