use Rattle.std.proofs.Common.{ℕ, ◌<◌}
use Rattle.circus_verdict.specs.Beside.{IsRight}
use Rattle.circus_verdict.proofs.beside.first_wrong_run.Given as goal

-- the runs before this one are right
abbrev pub invariant-loop-number : goal.invariant-loop-number
invariant-loop-number l = (n : ℕ) → n < l.number → IsRight l.runs l.kept n
