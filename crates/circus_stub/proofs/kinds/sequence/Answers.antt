use Rattle.circus_stub.proofs.KindLemmas.{sequence_value}
use Rattle.circus_stub.proofs.kinds.sequence.Goals as goal

pub unreachable-requires : goal.unreachable-requires
unreachable-requires c =
    let v = sequence_value c.requires.0 c.requires.1 c.args.value.now c.requires.2 in
    c.in_default.not-Sequence v.0 v.1
