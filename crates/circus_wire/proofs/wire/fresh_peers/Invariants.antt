use Rattle.std.proofs.Common.{◌≡◌}
use Rattle.circus_wire.specs.Wire.{fresh_peers}
use Rattle.circus_wire.proofs.wire.fresh_peers.Given as goal

abbrev pub invariant-loop-place : goal.invariant-loop-place
invariant-loop-place g l = l.peers.items ≡ fresh_peers l._place l.number l.format
