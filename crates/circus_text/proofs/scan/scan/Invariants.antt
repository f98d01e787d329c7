use Rattle.std.proofs.Common.{◌-◌, length}
use Rattle.circus_text.proofs.Scanning.{ReadTo}
use Rattle.circus_text.proofs.scan.scan.Given as goal

abbrev pub invariant-loop-at : goal.invariant-loop-at
invariant-loop-at l = ReadTo l.text l.at l.found

abbrev pub decreases-loop-at : goal.decreases-loop-at
decreases-loop-at l = length l.text - l.at
