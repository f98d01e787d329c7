use Rattle.circus_stub.proofs.KindLemmas.{text_value}
use Rattle.circus_stub.proofs.kinds.text.Goals as goal

pub unreachable-requires : goal.unreachable-requires
unreachable-requires c =
    let v = text_value c.args.value.now c.requires in
    c.in_default.not-Text v.0 v.1
