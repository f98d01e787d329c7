use Rattle.std.proofs.Common.{◌≡◌}
use Rattle.circus_deployment.specs.Meaning.{numbers_from}
use Rattle.circus_deployment.proofs.meaning.numbers_from.Given as goal

-- the numbers so far
abbrev pub invariant-loop-place : goal.invariant-loop-place
invariant-loop-place l = l.numbers ≡ numbers_from l.first l.place
