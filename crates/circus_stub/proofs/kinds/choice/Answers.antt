use Rattle.circus_stub.proofs.KindLemmas.{choice_value}
use Rattle.circus_stub.proofs.kinds.choice.Goals as goal

pub unreachable-requires : goal.unreachable-requires
unreachable-requires c =
    let v = choice_value c.requires.0 c.args.value.now c.requires.1 in
    c.in_default.not-Choice v.0 v.1 v.2
