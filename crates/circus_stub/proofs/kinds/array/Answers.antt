use Rattle.circus_stub.proofs.KindLemmas.{array_value}
use Rattle.circus_stub.proofs.kinds.array.Goals as goal

pub unreachable-requires : goal.unreachable-requires
unreachable-requires c =
    let v = array_value c.requires.0 c.requires.1 c.args.value.now c.requires.2 in
    c.in_default.not-Array v.0 v.1
