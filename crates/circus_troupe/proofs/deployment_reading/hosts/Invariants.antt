use Rattle.std.proofs.Common.{◌≡◌, length}
use Rattle.circus_syntax.specs.Reading.{behind}
use Rattle.circus_syntax.proofs.Tokens.{comma_sign, is_comma}
use Rattle.circus_syntax.proofs.Loops.{goes_on}
use Rattle.circus_troupe.specs.DeploymentReading.{host, hosts}
use Rattle.circus_troupe.proofs.deployment_reading.hosts.Given as goal

-- the hosts so far and those that follow are the hosts
abbrev pub invariant-loop-reader : goal.invariant-loop-reader
invariant-loop-reader l = hosts l.fn.reader ≡ goes_on is_comma (behind comma_sign host) l.hosts l.reader

abbrev pub decreases-loop-reader : goal.decreases-loop-reader
decreases-loop-reader l = length l.reader.rest
