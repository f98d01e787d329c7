use Rattle.std.proofs.Common.{◌≡◌, length}
use Rattle.std.specs.Prelude.{codes}
use Rattle.circus_syntax.proofs.Loops.{goes_on}
use Rattle.circus_statement.specs.StatementReading.{is_word}
use Rattle.circus_troupe.specs.DeploymentReading.{troupe, troupes}
use Rattle.circus_troupe.proofs.deployment_reading.troupes.Given as goal

-- the troupes so far and those that follow are the troupes
abbrev pub invariant-loop-troupes : goal.invariant-loop-troupes
invariant-loop-troupes l = troupes l.fn.reader ≡ goes_on (is_word (codes "TROUPE")) troupe l.troupes l.reader

abbrev pub decreases-loop-troupes : goal.decreases-loop-troupes
decreases-loop-troupes l = length l.reader.rest
