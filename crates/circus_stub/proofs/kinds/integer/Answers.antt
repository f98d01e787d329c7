use Rattle.circus_stub.proofs.KindLemmas.{integer_value}
use Rattle.circus_stub.proofs.kinds.integer.Goals as goal

pub unreachable-requires : goal.unreachable-requires
unreachable-requires c =
    let v = integer_value c.args.value.now c.requires in
    c.in_default.not-Integer v.0 v.1
