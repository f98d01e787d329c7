use Rattle.circus_stub.proofs.KindLemmas.{long_cardinal_value}
use Rattle.circus_stub.proofs.kinds.long_cardinal.Goals as goal

pub unreachable-requires : goal.unreachable-requires
unreachable-requires c =
    let v = long_cardinal_value c.args.value.now c.requires in
    c.in_default.not-LongCardinal v.0 v.1
