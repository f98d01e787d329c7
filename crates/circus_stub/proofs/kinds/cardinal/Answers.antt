use Rattle.circus_stub.proofs.KindLemmas.{cardinal_value}
use Rattle.circus_stub.proofs.kinds.cardinal.Goals as goal

pub unreachable-requires : goal.unreachable-requires
unreachable-requires c =
    let v = cardinal_value c.args.value.now c.requires in
    c.in_default.not-Cardinal v.0 v.1
