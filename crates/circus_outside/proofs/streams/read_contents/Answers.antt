use Rattle.std.proofs.Common.{arith}
use Rattle.circus_outside.proofs.Whole.{whole_read}
use Rattle.circus_outside.proofs.streams.read_contents.Goals as goal

pub returns-in-Ok-clause-whole : goal.returns-in-Ok-clause-whole
returns-in-Ok-clause-whole g c =
    whole_read g.R.Read.remaining c.args.reader c.take.result.inner c.take.result.limit c.new-bytes.result.items c.read_to_end.new.buf.items c.of.result
    c.in-Ok.ensures.bytes c.take.ensures.inner c.new-bytes.ensures.items c.of.ensures (omega (arith, c.take.ensures.limit, c.len.ensures, c.read_to_end.new.buf.ok.0))
