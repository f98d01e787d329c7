use Rattle.circus_stub.proofs.KindLemmas.{truth_value}
use Rattle.circus_stub.proofs.kinds.truth.Goals as goal

pub unreachable-requires : goal.unreachable-requires
unreachable-requires c =
    let v = truth_value c.args.value.now c.requires in
    c.in_default.not-Boolean v.0 v.1
