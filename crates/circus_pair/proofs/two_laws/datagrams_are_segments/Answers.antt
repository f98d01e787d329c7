use Rattle.circus_pair.proofs.Agreeing.{datagrams_read}
use Rattle.circus_pair.proofs.two_laws.datagrams_are_segments.Goals as goal

pub returns : goal.returns
returns c = datagrams_read
