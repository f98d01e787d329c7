use Rattle.circus_stub.proofs.KindLemmas.{long_integer_value}
use Rattle.circus_stub.proofs.kinds.long_integer.Goals as goal

pub unreachable-requires : goal.unreachable-requires
unreachable-requires c =
    let v = long_integer_value c.args.value.now c.requires in
    c.in_default.not-LongInteger v.0 v.1
