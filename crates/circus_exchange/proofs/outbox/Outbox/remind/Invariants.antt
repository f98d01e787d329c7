use Rattle.std.proofs.Common.{◌≡◌, ◌++◌, map}
use Rattle.std.specs.Prelude.{flat_map}
use Rattle.std.specs.Map.Iter.{deref_pair}
use Rattle.circus_exchange.specs.Outbox.{reminder}
use Rattle.circus_exchange.proofs.outbox.Outbox.remind.Given as goal

abbrev pub invariant-loop-number : goal.invariant-loop-number
invariant-loop-number l = l.datagrams ≡ l.initial.datagrams ++ flat_map (reminder l.self l.format l.kind l.limit) (map deref_pair l.yielded)
