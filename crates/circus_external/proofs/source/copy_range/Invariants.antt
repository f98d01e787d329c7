use Rattle.std.proofs.Common.{◌≡◌, ◌-◌, take, drop}
use Rattle.circus_external.proofs.source.copy_range.Given as goal

-- the bytes so far are copied
abbrev pub invariant-loop-at : goal.invariant-loop-at
invariant-loop-at g l = l.copy ≡ take (l.at - l.from) (drop l.from (g.S.ByteSource.octets l.source))
