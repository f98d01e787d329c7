use Rattle.circus_benchmark.specs.Up.{IsUp}
use Rattle.circus_benchmark.proofs.pairs.perform.Given as goal

-- both ends go on as they began
abbrev pub invariant-loop : goal.invariant-loop
invariant-loop l = record { client : IsUp l.client; server : IsUp l.server }
