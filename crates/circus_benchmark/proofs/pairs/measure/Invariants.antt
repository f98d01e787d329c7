use Rattle.circus_benchmark.specs.Up.{IsUp}
use Rattle.circus_benchmark.proofs.pairs.measure.Given as goal

-- both ends go on as they began
abbrev pub invariant-loop-tenth : goal.invariant-loop-tenth
invariant-loop-tenth l = record { client : IsUp l.client; server : IsUp l.server }
