use Rattle.std.proofs.Common.{◌≡◌}
use Rattle.circus_wire.specs.Wire.{Remains}
use Rattle.circus_node.specs.Sending.{sent, all_handed}
use Rattle.circus_node.proofs.sending.hand_each.Given as goal

-- what was handed over so far was sent
abbrev pub invariant-loop-effect : goal.invariant-loop-effect
invariant-loop-effect l = record {
  handed : all_handed (sent l.initial.wire l.initial.gives) l.yielded ≡ sent l.wire l.gives;
  remains : Remains l.initial.wire l.wire;
}
