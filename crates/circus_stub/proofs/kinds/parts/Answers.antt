use Rattle.circus_stub.proofs.KindLemmas.{record_value}
use Rattle.circus_stub.proofs.kinds.parts.Goals as goal

pub unreachable-requires : goal.unreachable-requires
unreachable-requires c =
    let v = record_value c.requires.0 c.args.value.now c.requires.1 in
    c.in_default.not-Record v.0 v.1
