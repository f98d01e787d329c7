use Rattle.circus_check.specs.Seen.Progress.{IsProgress}
use Rattle.circus_check.proofs.checking.resolved_modules.Given as goal

abbrev pub invariant-loop-number : goal.invariant-loop-number
invariant-loop-number l = IsProgress l.program l.progress l.number
