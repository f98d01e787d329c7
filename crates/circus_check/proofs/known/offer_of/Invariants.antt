use Rattle.std.proofs.Common.{◌≡◌, None, take}
use Rattle.circus_check.specs.Scope.{errors_behind}
use Rattle.circus_check.specs.Seen.Known.{reported_in}
use Rattle.circus_check.proofs.known.offer_of.Given as goal

-- the errors of the numbers so far stand in the table
abbrev pub invariant-loop-number : goal.invariant-loop-number
invariant-loop-number l = reported_in l.reported ≡ errors_behind (take l.number-index l.number-items) l.errors.errors.now (λ _. None)
