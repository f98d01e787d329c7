use Rattle.std.proofs.Common.{◌≡◌, length}
use Rattle.std.specs.Prelude.{codes}
use Rattle.circus_syntax.specs.Placed.{is_lexeme, word}
use Rattle.circus_syntax.proofs.Loops.{goes_on}
use Rattle.circus_place.specs.Seen.Reading.{machine, machines}
use Rattle.circus_place.proofs.reading.machines.Given as goal

-- the machines so far and those that follow are the machines
abbrev pub invariant-loop-machines : goal.invariant-loop-machines
invariant-loop-machines l = machines l.fn.reader ≡ goes_on (is_lexeme (word (codes "MACHINE"))) machine l.machines l.reader

abbrev pub decreases-loop-machines : goal.decreases-loop-machines
decreases-loop-machines l = length l.reader.rest
