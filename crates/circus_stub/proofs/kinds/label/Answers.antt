use Rattle.circus_stub.proofs.KindLemmas.{label_value}
use Rattle.circus_stub.proofs.kinds.label.Goals as goal

pub unreachable-requires : goal.unreachable-requires
unreachable-requires c =
    let v = label_value c.requires.0 c.args.value.now c.requires.1 in
    c.in_default.not-Enumeration v.0 v.1
